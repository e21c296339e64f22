use Rattle.std.proofs.Common.{◌∙◌, ap, subst}
use Rattle.std.proofs.lemmas.Result.{err_from_is_err_and}
use Rattle.cap_codec.specs.Writable.{IsWritable}
use Rattle.cap_codec.specs.declared.read.Contents.TheVariants.{Changes}
use Rattle.cap_rebase.specs.Buffer.{buffer_of}
use Rattle.cap_test_convergence.proofs.ExplainedLemmas.{hindered, is-rebased, not-rebased, refused-as-told, refused-first}
use Rattle.cap_test_convergence.proofs.synchronisation.rebased_over.Goals as goal

pub returns-in_err-remote-clause-hindered : goal.returns-in_err-remote-clause-hindered
returns-in_err-remote-clause-hindered g c =
    let failed = err_from_is_err_and c.from_residual-in_err-remote.result c.from_residual-in_err-remote.ensures.1 in
    let writable = subst (λ list. IsWritable (Changes list)) c.in_ok-local.ensures c.changes_are_writable.ensures.writable in
    rw (failed.1, failed.2) (hindered (λ no. no) (λ reason no. no) (λ unreadable. record { local_writable = writable; none = λ changes rebased is made. unreadable changes is }) c.in_err-remote.field-0.0 c.in_err-remote.ensures.hindered)

pub returns-in-Err-Refused-clause-hindered : goal.returns-in-Err-Refused-clause-hindered
returns-in-Err-Refused-clause-hindered g c = absurd (refused-first (Unit {0}) _ _ _ _ _ c.in-Err-Refused.field-0-is c.new-rebaser.ensures c.in-Err-Refused.ensures.content)

pub returns-in-Ok-rebase-clause-rebased : goal.returns-in-Ok-rebase-clause-rebased
returns-in-Ok-rebase-clause-rebased g c =
    is-rebased _ _ _ _ _ _ _ _ c.in_ok-local.ensures c.changes_are_writable.ensures.writable c.in_ok-remote.ensures.read
    (c.in_ok-buffer.ensures ∙ ap (buffer_of c.in_ok-remote.remote) c.conflicts.ensures) c.new-rebaser.ensures c.in-Ok.ensures.content
    _ _ c.in-Ok-rebase.ensures.rebased c.in_ok-write_changes-in-Ok-rebase.ensures c.changes_are_writable-in-Ok-rebase.ensures.again

pub returns-in-Err-Refused-rebase-clause-hindered : goal.returns-in-Err-Refused-rebase-clause-hindered
returns-in-Err-Refused-rebase-clause-hindered g c =
    not-rebased _ _ _ _ _ _ _ _ c.in_ok-local.ensures c.changes_are_writable.ensures.writable c.in_ok-remote.ensures.read
    (c.in_ok-buffer.ensures ∙ ap (buffer_of c.in_ok-remote.remote) c.conflicts.ensures) c.new-rebaser.ensures c.in-Ok.ensures.content
    _ (refused-as-told _ _ _ c.in-Err-Refused-rebase.field-0-is c.in-Err-Refused-rebase.ensures.rebased)
