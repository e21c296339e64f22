-- An application on a snapshot: what it keeps to, and what its batch leaves.
use Rattle.std.proofs.Common.{◌≡◌, ◌==◌, ℕ, true, false, cond, List, length, Option, Some, None, Result, Ok, Err, Bor, refl, sym, ap, subst, ◌∙◌, inl, inr}
use Rattle.std.specs.Prelude.{IfOk, is_some, option_and_then}
use Rattle.std.specs.Option.{option_copied}
use Rattle.std.specs.Str.{IsUtf8, is_utf8}
use Rattle.std.proofs.lemmas.Bool.{cases_Bool}
use Rattle.std.proofs.lemmas.Option.{same_Some}
use Rattle.std.proofs.lemmas.Str.{IsUtf8-from_is_utf8, is_utf8-from_IsUtf8}
use Rattle.std.specs.Global.{Global}
use Rattle.std.proofs.lemmas.Result.{IfOk-at_ok}
use Rattle.cap_value.specs.Memory.{RefusesFirst}
use Rattle.cap_value.specs.declared.memory.Fault.{Fault}
use Rattle.cap_value.specs.declared.memory.Fault.TheVariants as stop
use Rattle.cap_value.specs.declared.refusal.Refusal.{Refusal}
use Rattle.cap_row.specs.Fields.{Fields}
use Rattle.cap_filter.specs.Reading.{filter_of}
use Rattle.cap_database.specs.Outcome.{OutcomeState}
use Rattle.cap_database.specs.Snapshot.{SnapshotState}
use Rattle.cap_database.specs.Tables.{Tables}
use Rattle.cap_database.specs.declared.op.Op.{Op}
use Rattle.cap_txn.specs.Sound.{Leaves}
use Rattle.cap_txn.specs.Transaction.{TxnState, batch_of}
use Rattle.cap_field.specs.declared.fault.BlobFault.{BlobFault}
use Rattle.cap_apply.specs.declared.policy.Answer.{Answer}
use Rattle.cap_applier.specs.Applier.{ApplierState, answered, met}
use Rattle.cap_applier.specs.Looked.{KeepsTo, SameRows}
use Rattle.cap_applier.specs.Merge.{refused_merge}
use Rattle.cap_applier.specs.Reach.{GoesOn, IsReached}
use Rattle.cap_applier.specs.declared.merge.MergeRefusal.{MergeRefusal}
use Rattle.cap_applier.specs.declared.row_conflict.RowConflict.{RowConflict}
use Rattle.cap_records.specs.Record.{row_in}
use Rattle.cap_connection.specs.Application.{AnswersAt, AnswersWith, ApplicationState, GoesOnBy, IsOver, MakesItsRows, at_conflict, filter_in, filter_misuse, filter_read, filter_unless, merge_read, merge_unless, row_to_merge, standing}
use Rattle.cap_connection.specs.declared.application.ApplicationFault.{ApplicationFault}
use Rattle.cap_connection.specs.declared.application.ApplicationFault.TheVariants as fault

-- what an accepted answer leads to keeps to the rows
pub keeps-on : (base : Tables Global) → ((from to : ApplierState Global) → KeepsTo base from → IsReached from to → KeepsTo base to)
    → (r : Result (ApplierState Global) Refusal) → IfOk r (KeepsTo base) → (to : ApplierState Global) → GoesOn r (Ok to) → KeepsTo base to
keeps-on base between r kept to on = between on.0 to (IfOk-at_ok (KeepsTo base) on.1 kept) on.2

-- operations leave but one outcome
same_outcome : (base left after : Tables Global) (ops : List (Op Global)) → Leaves base ops left → Leaves base ops after → after ≡ left
same_outcome base left after ops a b =
    let P : OutcomeState Global → Type 0 = λ o. o.database ≡ a.outcome.database in
    sym b.leaves ∙ IfOk-at_ok P b.runs (subst (λ r. IfOk r P) (sym a.runs) refl) ∙ a.leaves

pub makes-rows : (base : SnapshotState Global) (s : ApplierState Global) (txn : TxnState Global) → Leaves base.database txn.workspace.ops txn.workspace.database
    → SameRows s.progress.applied.database txn.workspace.database → MakesItsRows (record { base = base; applier = Some s }) (batch_of txn)
makes-rows base s txn leaves same = record {
  after = txn.workspace.database;
  accepted = leaves;
  rows = λ after left. subst (SameRows s.progress.applied.database) (sym (same_outcome base.database txn.workspace.database after txn.workspace.ops leaves left)) same;
}

-- ---- where memory runs out, it is over

over-whatever : (r : Result (ApplierState Global) Refusal) (old new : ApplicationState) → IsOver old new → GoesOnBy r old new (Err stop.OutOfMemory)
over-whatever (Ok from) old new over = over
over-whatever (Err why) old new over = over

pub answers-over : (answer : Answer) (base : SnapshotState Global) (s : ApplierState Global) → is_some (met s) ≡ true
    → AnswersWith answer (record { base = base; applier = Some s }) (record { base = base; applier = None }) (Err stop.OutOfMemory)
answers-over answer base s is = go (met s) is
  where
    go : (o : Option (RowConflict Global)) → is_some o ≡ true → AnswersAt answer (at_conflict s o) (record { base = base; applier = Some s }) (record { base = base; applier = None }) (Err stop.OutOfMemory)
    go None is = cc
    go (Some conflict) is = over-whatever (answered answer s) (record { base = base; applier = Some s }) (record { base = base; applier = None }) refl

pub is_some-copied : {X : Type 0} (o : Option (Bor X)) → is_some (option_copied o) ≡ is_some o
is_some-copied None = refl
is_some-copied (Some x) = refl

-- ---- the applier that stands at a conflict

pub same-standing : (app : ApplicationState) (s t : ApplierState Global) → standing app ≡ Some s → app.applier ≡ Some t → t ≡ s
same-standing app s t stands is = go (met t) (sym (ap (option_and_then (λ (x : ApplierState Global). at_conflict x (met x))) is) ∙ stands)
  where
    go : (o : Option (RowConflict Global)) → at_conflict t o ≡ Some s → t ≡ s
    go None e = cc
    go (Some conflict) e = same_Some t s e

-- ---- a row that may stand in place of the change

merge-accepted : (s : ApplierState Global) (it row : Fields Global) (o : Option MergeRefusal) → refused_merge s it ≡ o → merge_unless o it ≡ Ok row → refused_merge s row ≡ None
merge-accepted s it row (Some why) e is = cc
merge-accepted s it row None e is =
    let P : Fields Global → Type 0 = λ x. it ≡ x in
    subst (λ r. refused_merge s r ≡ None) (IfOk-at_ok P is refl) e

pub row-accepted : (s : ApplierState Global) (bytes : List ℕ) (row : Fields Global) → row_to_merge s bytes ≡ Ok row → refused_merge s row ≡ None
row-accepted s bytes row is = go (row_in bytes) is
  where
    go : (r : Result (Fields Global) BlobFault) → merge_read s r ≡ Ok row → refused_merge s row ≡ None
    go (Err wrong) is = cc
    go (Ok it) is = merge-accepted s it row (refused_merge s it) refl is

-- ---- the filter of a text

is_not : (bytes : List ℕ) → (IsUtf8 bytes → ⊥) → is_utf8 bytes ≡ false
is_not bytes other = elim (cases_Bool (is_utf8 bytes)) [ inl e ↦ absurd (other (IsUtf8-from_is_utf8 bytes e)) | inr e ↦ e ]

no_misuse : (text : List ℕ) → IsUtf8 text → filter_misuse text ≡ None
no_misuse text is = ap (λ b. cond b None (Some fault.Misuse)) (is_utf8-from_IsUtf8 text is)

pub filter-misused : (text : List ℕ) → (IsUtf8 text → ⊥) → filter_in text ≡ Err fault.Misuse
filter-misused text other = ap (λ b. filter_unless (cond b None (Some fault.Misuse)) text) (is_not text other)

pub filter-empty : (text : List ℕ) → IsUtf8 text → (length text == 0) ≡ true → filter_in text ≡ Ok None
filter-empty text is empty = ap (λ o. filter_unless o text) (no_misuse text is) ∙ ap (λ b. cond b (Ok None) (filter_read (filter_of text))) empty

pub filter-spelled : (text : List ℕ) → IsUtf8 text → (length text == 0) ≡ false → filter_in text ≡ filter_read (filter_of text)
filter-spelled text is empty = ap (λ o. filter_unless o text) (no_misuse text is) ∙ ap (λ b. cond b (Ok None) (filter_read (filter_of text))) empty

pub not-first : {X : Type 0} (text : List ℕ) (r : Result X (Fault ApplicationFault)) → IsUtf8 text → RefusesFirst (filter_misuse text) r
not-first text r is = subst (λ o. RefusesFirst o r) (sym (no_misuse text is)) tt
