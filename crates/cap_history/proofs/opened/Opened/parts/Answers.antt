use Rattle.std.proofs.lemmas.List.{nil_from_length}
use Rattle.cap_history.proofs.opened.Opened.parts.Goals as goal

pub returns-clause-empty : goal.returns-clause-empty
returns-clause-empty g c = nil_from_length _ c.args.self.empty
