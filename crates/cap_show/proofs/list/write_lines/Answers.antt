use Rattle.std.proofs.Common.{ap}
use Rattle.std.specs.List.{flat_map}
use Rattle.cap_show.proofs.TextLemmas.{appended_all, appended_more, appended_none}
use Rattle.cap_show.proofs.list.write_lines.Goals as goal

pub loop-change-init : goal.loop-change-init
loop-change-init g c = appended_none _ _ _ (ap (flat_map g.C.TextEntry.text) c.into_iter-change-iterator.ensures.into_iter_gives)

pub loop-change-preserved : goal.loop-change-preserved
loop-change-preserved g c = appended_more _ _ _ _ _ _ _ (ap (flat_map g.C.TextEntry.text) c.in-Some.ensures.steps) c.loop-change.invariant c.in_ok-write_text.ensures

pub returns : goal.returns
returns g c = appended_all _ _ _ _ (ap (flat_map g.C.TextEntry.text) c.in-None.ensures.steps.0) c.loop-change.invariant
