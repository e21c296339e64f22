use Rattle.std.proofs.Common.{◌∙◌, None, Some, arith, ap, sym, length}
use Rattle.std.specs.Option.{option_copied}
use Rattle.cap_session.proofs.RecordLemmas.{counted}
use Rattle.cap_session.proofs.records.Records.count.Goals as goal

pub returns-in-None-get-clause-count : goal.returns-in-None-get-clause-count
returns-in-None-get-clause-count g c =
    counted c.self.inside.tree c.self.inside.latest _ c.in-Some.is None c.len-others.result c.len-others.ensures.value c.len-others.ensures.ordered (sym c.get.ensures ∙ ap option_copied c.in-None-get.is)
    ∙ ap length c.self.view_is

pub returns-in-Some-get-clause-count : goal.returns-in-Some-get-clause-count
returns-in-Some-get-clause-count g c =
    let all = counted c.self.inside.tree c.self.inside.latest _ c.in-Some.is (Some c.in-Some-get.field-0.now) c.len-others.result c.len-others.ensures.value c.len-others.ensures.ordered (sym c.get.ensures ∙ ap option_copied c.in-Some-get.is) in
    omega (arith, all, ap length c.self.view_is)
