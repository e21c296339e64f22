use Rattle.std.proofs.Common.{refl}
use Rattle.cap_rebase.proofs.PutLemmas.{put_delete}
use Rattle.cap_rebase.proofs.change.push_delete.Goals as goal

pub returns : goal.returns
returns g c = (put_delete c.args.out.now.items _ _ c.args.indirect c.args.old c.in_ok-push_operation.ensures.bytes c.in_ok-push_over.ensures, refl)
