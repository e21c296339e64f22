use Rattle.std.proofs.Common.{[], refl, rules}
use Rattle.std.specs.Prelude.{string_bytes}
use Rattle.cap_run.specs.Shell.{Ignored}
use Rattle.cap_run.proofs.shell.answer_text.Goals as goal

pub returns-in-Ok-None-clause-answered : goal.returns-in-Ok-None-clause-answered
returns-in-Ok-None-clause-answered g c = λ course so. (Ignored, (c.utf8.text, search rules), so, c.nothing.ensures.reply, c.nothing.ensures.fault)
