use Rattle.std.proofs.Common.{[], ◌∷◌, refl, arith, length-append}
use Rattle.cap_core.proofs.server.Core.run.Goals as goal
use Rattle.cap_core.proofs.LawLemmas.{ran-none, ran-push}

pub loop-command-init : goal.loop-command-init
loop-command-init g c = rw c.in_ok-replies.ensures.items (refl, ran-none c.args.commands.now c.new-core.result c.new-core.ensures)

pub loop-command-preserved : goal.loop-command-preserved
loop-command-preserved g c =
    rw c.in_ok-push.ensures.items (
      omega (arith, length-append c.loop-command.replies.items (c.in_ok-reply.reply ∷ []), c.loop-command.invariant.0),
      ran-push c.args.commands.now c.loop-command.replies.items c.loop-command.core c.run_command.new.self c.loop-command.command-index c.command-item.result c.in_ok-reply.reply c.loop-command.invariant.1
          c.loop-command.invariant.0 c.loop-command-test.true c.command-item.is c.blob_fits.ensures c.in_ok-reply.ensures.0 c.in_ok-reply.ensures.1,
    )
