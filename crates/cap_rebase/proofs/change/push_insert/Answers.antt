use Rattle.std.proofs.Common.{refl}
use Rattle.cap_rebase.proofs.PutLemmas.{put_insert}
use Rattle.cap_rebase.proofs.change.push_insert.Goals as goal

pub returns : goal.returns
returns g c = (put_insert c.args.out.now.items _ _ c.args.indirect c.args.new c.in_ok-push_operation.ensures.bytes c.in_ok-push_over.ensures, refl)
