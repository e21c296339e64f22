use Rattle.std.proofs.Common.{Some, append-nil, ap, refl, sym}
use Rattle.cap_changes.specs.FieldRecord.{RecordFields}
use Rattle.cap_changes.specs.declared.row_change.RowChange.TheVariants.{Insert}
use Rattle.cap_rebase.proofs.PutLemmas.{put_as}
use Rattle.cap_rebase.proofs.change.after_inserted.Goals as goal

pub returns-in-Insert : goal.returns-in-Insert
returns-in-Insert g c answer flags = rw c.in-Insert.is
    (put_as c.push_insert.result c.args.out.now.items c.push_insert.new.out.items _ _ c.push_insert.ensures
    (ap (λ (r : RecordFields g.row.A.Denot). Some (Insert c.in-Insert.indirect r)) c.alone.ensures))

pub returns-in-Update : goal.returns-in-Update
returns-in-Update g c answer flags = rw c.in-Update.is
    (put_as c.push_insert-in-Update.result c.args.out.now.items c.push_insert-in-Update.new.out.items _ _ c.push_insert-in-Update.ensures
    (ap (λ (r : RecordFields g.row.A.Denot). Some (Insert c.in-Update.indirect r)) c.new.ensures))

pub returns-in-Delete : goal.returns-in-Delete
returns-in-Delete g c answer flags = rw c.in-Delete.is (sym (append-nil c.args.out.now.items), refl)
