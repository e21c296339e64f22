use Rattle.std.proofs.Common.{◌∙◌, ◌&&◌, Some, ap, sym}
use Rattle.cap_changes.specs.FieldRecord.{RecordFields}
use Rattle.cap_changes.specs.declared.row_change.RowChange.TheVariants.{Delete}
use Rattle.cap_group.specs.Record.{record_over, update_between}
use Rattle.cap_rebase.proofs.PutLemmas.{put_as}
use Rattle.cap_rebase.proofs.RebaseLemmas.{reflagged}
use Rattle.cap_rebase.proofs.change.after_updated.Goals as goal

pub returns-in-Insert : goal.returns-in-Insert
returns-in-Insert g c answer = rw c.in-Insert.is c.push_update.ensures

pub returns-in-Update : goal.returns-in-Update
returns-in-Update g c answer = rw c.in-Update.is
    (put_as c.push_update_between.result c.args.out.now.items c.push_update_between.new.out.items _ _ c.push_update_between.ensures
    (ap (λ (r : RecordFields g.row.A.Denot). update_between c.args.flags.now c.in-Update.indirect r c.new-last.result) c.new-first.ensures
    ∙ ap (λ (r : RecordFields g.row.A.Denot). update_between c.args.flags.now c.in-Update.indirect (record_over c.in-Update.then c.args.old) r) c.new-last.ensures
    ∙ sym (reflagged c.args.flags.now (answer && c.in-Update.indirect) c.in-Update.indirect (record_over c.in-Update.then c.args.old) (record_over c.args.new c.in-Update.last))))

pub returns-in-Delete : goal.returns-in-Delete
returns-in-Delete g c answer = rw c.in-Delete.is
    (put_as c.push_delete.result c.args.out.now.items c.push_delete.new.out.items _ _ c.push_delete.ensures
    (ap (λ (r : RecordFields g.row.A.Denot). Some (Delete c.in-Delete.indirect r)) c.new.ensures))
