use Rattle.std.proofs.Common.{refl}
use Rattle.cap_rebase.proofs.PutLemmas.{put_update}
use Rattle.cap_rebase.proofs.change.push_update.Goals as goal

pub returns : goal.returns
returns g c = (put_update c.args.out.now.items _ _ _ c.args.indirect c.args.old c.args.new c.in_ok-push_operation.ensures.bytes c.in_ok-push_record.ensures.bytes c.in_ok-push_record-2.ensures.bytes, refl)
