-- What a stream that fails once makes of one call.
use Rattle.std.specs.Prelude.{◌≡◌, ◌↔◌, ℕ, ◌-◌, ◌==◌, if◌then◌else◌, Result, IsErr, IfErr}
use Rattle.std.specs.IoError.{error_kind}
use Rattle.std.specs.declared.io.Error.{Error}
use Rattle.std.specs.declared.io.ErrorKind.{ErrorKind}
use Rattle.std.specs.declared.io.ErrorKind.TheVariants.{OutOfMemory}
use Rattle.cap_test_support.specs.declared.streams.Failure.{Failure}

-- the failure that is still to come after a call; once it has come there is none
abbrev pub after_call : Failure → Failure
after_call failure = record { call = failure.call - 1; kind = failure.kind }

-- the error is that of the call that fails, and every other one is for memory
abbrev pub error_of_call : Failure → ErrorKind
error_of_call failure = if failure.call == 1 then failure.kind else OutOfMemory

-- a call fails exactly where its turn has come, and with the failure's error
abbrev pub FailsInTurn : {X : Type 0} → Failure → Result X Error → Type 0
FailsInTurn failure result =
    (IsErr result ↔ (failure.call ≡ 1)) × IfErr result (λ error. error_kind error ≡ failure.kind)
