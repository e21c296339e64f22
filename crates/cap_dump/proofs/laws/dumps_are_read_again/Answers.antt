use Rattle.cap_dump.proofs.SpelledLemmas.{first_table, read_again}
use Rattle.cap_dump.proofs.laws.dumps_are_read_again.Goals as goal

pub returns-clause-read : goal.returns-clause-read
returns-clause-read g c = λ key_flags tables rise limits. read_again tables rise limits key_flags

pub returns-clause-each : goal.returns-clause-each
returns-clause-each g c = first_table
