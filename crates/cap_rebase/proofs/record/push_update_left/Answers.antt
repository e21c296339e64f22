use Rattle.std.proofs.Common.{◌∙◌, sym}
use Rattle.cap_changes.specs.Column.{by_column}
use Rattle.cap_rebase.specs.Rebase.{new_left, old_left}
use Rattle.cap_rebase.proofs.PutLemmas.{none_put, put_left, put_update}
use Rattle.cap_rebase.proofs.record.push_update_left.Goals as goal

pub returns-then-not-has_field_left : goal.returns-then-not-has_field_left
returns-then-not-has_field_left g c =
    none_put c.args.flags.now c.args.indirect c.args.old.now (new_left c.args.new.now c.args.remote.now) c.args.out.now.items (sym c.has_field_left.ensures ∙ c.if-not-has_field_left.true)

pub returns : goal.returns
returns g c =
    put_left c.args.flags.now c.args.indirect c.args.old.now (new_left c.args.new.now c.args.remote.now) c.args.out.now.items _ (sym c.has_field_left.ensures ∙ c.if-not-has_field_left.false)
    (put_update c.args.out.now.items _ _ _ c.args.indirect (by_column old_left c.args.flags.now c.args.old.now (new_left c.args.new.now c.args.remote.now)) (new_left c.args.new.now c.args.remote.now)
    c.in_ok-push_operation.ensures.bytes c.in_ok-push_old_left.ensures c.in_ok-push_new_left.ensures)
