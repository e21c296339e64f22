-- The policy's answer to conflicts (The Session Extension, "sqlite3changeset_apply").
use Rattle.std.specs.Prelude.{ℕ, Bool, true, false, Option, Some, None, Result, Ok, Err}
use Rattle.cap_value.specs.declared.refusal.Refusal.{Refusal}
use Rattle.cap_value.specs.declared.refusal.Refusal.TheVariants.{Aborted, Misuse}
use Rattle.cap_apply.specs.declared.conflict.ConflictKind.{ConflictKind}
use Rattle.cap_apply.specs.declared.conflict.ConflictKind.TheVariants.{Data, NotFound, Conflict}
use Rattle.cap_apply.specs.declared.policy.Answer.{Answer}
use Rattle.cap_apply.specs.declared.policy.Answer.TheVariants.{Omit, Replace, Abort}
use Rattle.cap_apply.specs.declared.policy.Policy.{Policy}

-- the policy's answer to each kind of conflict
abbrev pub answer_to : Policy → ConflictKind → Answer
answer_to policy Data = policy.on_data
answer_to policy NotFound = policy.on_notfound
answer_to policy Conflict = policy.on_conflict

-- the same answer to each kind
abbrev pub always : Answer → Policy
always answer = record { on_data = answer; on_notfound = answer; on_conflict = answer }

-- whether a change with a conflict is applied all the same, or the refusal of the blob: there is nothing to
-- replace where there is no row
abbrev pub made_anyway : ℕ → ConflictKind → Answer → Result Bool Refusal
made_anyway number kind Omit = Ok false
made_anyway number kind Abort = Err (Aborted number)
made_anyway number NotFound Replace = Err (Misuse number)
made_anyway number Data Replace = Ok true
made_anyway number Conflict Replace = Ok true

-- whether a change is applied, by its conflict, if any
abbrev pub is_made : Policy → ℕ → Option ConflictKind → Result Bool Refusal
is_made policy number None = Ok true
is_made policy number (Some kind) = made_anyway number kind (answer_to policy kind)
