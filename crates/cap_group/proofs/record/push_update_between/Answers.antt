use Rattle.std.proofs.Common.{sym, ◌∙◌}
use Rattle.cap_group.proofs.FieldLemmas.{update_put}
use Rattle.cap_group.proofs.record.push_update_between.Goals as goal

pub returns : goal.returns
returns g c =
    update_put c.args.flags.now c.args.indirect c.args.before.now c.args.after.now c.args.out.now.items c.push_operation.new.out.items c.push_fields.new.out.items c.push_fields-2.new.out.items
    (sym (rw (c.copy.ensures, c.copy-2.ensures) at c.in_ok-push_fields.ensures.some) ∙ c.if-not-branch.false) c.in_ok-push_operation.ensures.bytes
    (rw (c.copy.ensures, c.copy-2.ensures) at c.in_ok-push_fields.ensures.bytes) (rw (c.copy-3.ensures, c.copy-4.ensures) at c.in_ok-push_fields-2.ensures.bytes)
