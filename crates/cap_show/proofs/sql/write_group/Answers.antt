use Rattle.std.proofs.Common.{ap, ◌∙◌}
use Rattle.std.specs.List.{flat_map}
use Rattle.cap_show.proofs.TextLemmas.{appended_all, appended_more, appended_none}
use Rattle.cap_show.proofs.sql.write_group.Goals as goal

pub loop-change-init : goal.loop-change-init
loop-change-init g c = appended_none _ _ _ (ap (flat_map (g.C.SqlEntry.sql c.args.group.now.table c.args.group.now.schema)) (c.into_iter-change-iterator.ensures.into_iter_gives ∙ c.changes-change-items.ensures.changes))

pub loop-change-preserved : goal.loop-change-preserved
loop-change-preserved g c =
    appended_more _ _ _ _ _ _ _ (ap (flat_map (g.C.SqlEntry.sql c.args.group.now.table c.args.group.now.schema)) c.in-Some.ensures.steps) c.loop-change.invariant (rw (c.table.ensures, c.schema.ensures.schema) at c.in_ok-write_sql.ensures)

pub returns : goal.returns
returns g c = appended_all _ _ _ _ (ap (flat_map (g.C.SqlEntry.sql c.args.group.now.table c.args.group.now.schema)) c.in-None.ensures.steps.0) c.loop-change.invariant
