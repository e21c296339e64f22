-- What the numbers of an argument mean.
use Rattle.std.specs.Prelude.{ℕ, ◌==◌, Bool, true, false, Option, Some, None, option_and_then, if◌then◌else◌}
use Rattle.cap_apply.specs.declared.policy.Answer.{Answer}
use Rattle.cap_apply.specs.declared.policy.Answer.TheVariants.{Omit, Replace, Abort}
use Rattle.cap_apply.specs.declared.policy.Policy.{Policy}
use Rattle.cap_codec.specs.declared.key_flags.KeyFlags.{KeyFlags}
use Rattle.cap_codec.specs.declared.key_flags.KeyFlags.TheVariants.{Ones, Places}
use Rattle.cap_database.specs.declared.cause.Cause.{Cause}
use Rattle.cap_database.specs.declared.cause.Cause.TheVariants.{Direct, Cascade}

-- the form of the key flags
abbrev pub key_flags_of : ℕ → Option KeyFlags
key_flags_of number =
    if number == 0 then Some Ones else (if number == 1 then Some Places else None)

-- what a flag is to be: off, on, or only asked for
abbrev pub asked_of : ℕ → Option (Option Bool)
asked_of number =
    if number == 0 then Some (Some false)
    else (if number == 1 then Some (Some true) else (if number == 2 then Some None else None))

-- what causes an operation
abbrev pub cause_of : ℕ → Option Cause
cause_of number = if number == 0 then Some Direct else (if number == 1 then Some Cascade else None)

-- SQLite's numbers of the answers to a conflict
abbrev pub answer_of : ℕ → Option Answer
answer_of number =
    if number == 0 then Some Omit
    else (if number == 1 then Some Replace else (if number == 2 then Some Abort else None))

-- those that leave an application: ABORT does not
abbrev pub buffered_answer_of : ℕ → Option Answer
buffered_answer_of number =
    if number == 0 then Some Omit else (if number == 1 then Some Replace else None)

-- the answers to DATA, NOTFOUND and CONFLICT
abbrev pub policy_of : ℕ → ℕ → ℕ → Option Policy
policy_of differs notfound conflict = option_and_then (λ on_data. option_and_then (λ on_notfound.
    option_and_then (λ on_conflict. Some (record {
      on_data = on_data;
      on_notfound = on_notfound;
      on_conflict = on_conflict;
    })) (answer_of conflict)) (answer_of notfound)) (answer_of differs)
