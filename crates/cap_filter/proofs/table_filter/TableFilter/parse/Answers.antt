use Rattle.std.proofs.Common.{subst}
use Rattle.cap_value.specs.Memory.{AnswersUnlessMemory}
use Rattle.cap_filter.proofs.SoundLemmas.{answer_is_spelled}
use Rattle.cap_filter.proofs.SpelledLemmas.{Spells-read}
use Rattle.cap_filter.proofs.table_filter.TableFilter.parse.Goals as goal

pub returns-clause-found : goal.returns-clause-found
returns-clause-found g c = answer_is_spelled c.args.text.now c.read.result c.read.ensures.reading

pub returns-clause-only : goal.returns-clause-only
returns-clause-only g c = λ r h fits. subst (AnswersUnlessMemory c.read.result) (Spells-read c.args.text.now r h fits) c.read.ensures.reading
