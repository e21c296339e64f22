use Rattle.std.proofs.KnownBytes.{Appends-nil}
use Rattle.cap_show.specs.Sql.{group_sql}
use Rattle.cap_show.proofs.TextLemmas.{appends_more, pieces_more}
use Rattle.cap_show.proofs.sql.write_groups.Goals as goal

pub loop-group-init : goal.loop-group-init
loop-group-init g c = Appends-nil _

pub loop-group-preserved : goal.loop-group-preserved
loop-group-preserved g c =
    let contents = g.W.Write.contents in
    let more = pieces_more (group_sql g.C.SqlEntry.sql) c.args.groups.now c.loop-group.group-index c.group-item.result c.loop-group-test.true c.group-item.is in
    appends_more (contents c.args.output.now) (contents c.loop-group.output) (contents c.write_group.new.output) _ _ _ more c.loop-group.invariant c.in_ok-write_group.ensures
