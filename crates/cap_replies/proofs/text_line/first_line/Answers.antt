use Rattle.std.proofs.lemmas.List.{take_rest}
use Rattle.cap_replies.proofs.TextLineLemmas.{line_found, line_none}
use Rattle.cap_replies.proofs.text_line.first_line.Goals as goal

pub returns-in-Some-clause-first : goal.returns-in-Some-clause-first
returns-in-Some-clause-first c = rw take_rest (line_found c.args.text.now c.in-Some.at c.in-Some.ensures)

pub returns-in-None-clause-first : goal.returns-in-None-clause-first
returns-in-None-clause-first c = line_none c.args.text.now c.requires.some c.in-None.ensures
