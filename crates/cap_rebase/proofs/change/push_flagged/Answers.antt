use Rattle.std.proofs.Common.{Some, ap}
use Rattle.cap_changes.specs.FieldRecord.{RecordFields}
use Rattle.cap_changes.specs.declared.row_change.RowChange.TheVariants.{Insert, Delete}
use Rattle.cap_rebase.proofs.PutLemmas.{put_as}
use Rattle.cap_rebase.proofs.change.push_flagged.Goals as goal

pub returns-in-Insert : goal.returns-in-Insert
returns-in-Insert g c = rw c.in-Insert.is
    (put_as c.push_insert.result c.args.out.now.items c.push_insert.new.out.items _ _ c.push_insert.ensures
    (ap (λ (r : RecordFields g.row.A.Denot). Some (Insert c.args.indirect r)) c.alone.ensures))

pub returns-in-Update : goal.returns-in-Update
returns-in-Update g c = rw c.in-Update.is c.push_update.ensures

pub returns-in-Delete : goal.returns-in-Delete
returns-in-Delete g c = rw c.in-Delete.is
    (put_as c.push_delete.result c.args.out.now.items c.push_delete.new.out.items _ _ c.push_delete.ensures
    (ap (λ (r : RecordFields g.row.A.Denot). Some (Delete c.args.indirect r)) c.alone-in-Delete.ensures))
