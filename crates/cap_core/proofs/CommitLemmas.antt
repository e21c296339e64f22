-- A transaction's batch is accepted where nothing that it looked at has changed; and the histories before a commit.
use Rattle.std.specs.Prelude.{reverse}
use Rattle.std.proofs.lemmas.List.{reverse-append}
use Rattle.cap_core.specs.declared.command.Command.{Command}
use Rattle.cap_core.specs.declared.event.Event.{Event}
use Rattle.cap_core.specs.Answer.{IsLegal, IsLegalPast, event_by, reply_of, State, answer, snapshot_of, state, write_reply}
use Rattle.std.proofs.Common.{◌≡◌, refl, inl, inr, ℕ, Option, Some, None, Result, List, [], ◌∷◌, ◌++◌, ap, subst}
use Rattle.cap_value.specs.declared.refusal.Refusal.{Refusal}
use Rattle.cap_database.specs.Outcome.{OutcomeState}
use Rattle.cap_database.specs.declared.op.Op.{Op}
use Rattle.cap_database.specs.declared.refused_at.RefusedAt.{RefusedAt}
use Rattle.cap_database.specs.Snapshot.{SnapshotState}
use Rattle.cap_database.specs.Tables.{EachRises}
use Rattle.cap_txn.specs.Batch.{BatchState, WhereRead}
use Rattle.cap_txn.specs.ReadSet.{ReadSetState}
use Rattle.cap_txn.specs.Stale.{AreOpsOf, IsJudged, stale}
use Rattle.cap_core.specs.Commit.{CommitsIfUnchanged}
use Rattle.cap_core.specs.Outcome.{commit_unless, made}
use Rattle.cap_core.specs.declared.command.Command.TheVariants as command
use Rattle.cap_core.specs.declared.reply.Reply.{Reply}

module _ {A : Type 0} where
  -- ---- histories before their last event

  last-legal : (h : List (Event A)) (event : Event A) → IsLegal (h ++ event ∷ []) → IsLegalPast (event ∷ reverse h)
  unfolding IsLegal
  last-legal h event legal = subst IsLegalPast (reverse-append h (event ∷ [])) legal

  pub was-legal : (h : List (Event A)) (by : ℕ) (command : Command A) (reply : Reply A) → IsLegal (h ++ event_by by command reply ∷ []) → IsLegal h
  unfolding IsLegal
  was-legal h by command reply legal = (last-legal h (event_by by command reply) legal).1

  pub was-answered : (h : List (Event A)) (by : ℕ) (command : Command A) (reply : Reply A) → IsLegal (h ++ event_by by command reply ∷ []) → reply ≡ reply_of h command
  unfolding IsLegal reply_of state
  was-answered h by command reply legal = (last-legal h (event_by by command reply) legal).0

  -- ---- commits

  -- the reply to a batch that is refused so, or not
  abbrev answered : State A → List (Op A) → Option Refusal → Reply A
  answered now ops why = write_reply now (commit_unless why now.main ops)

  commit-judged : (now : State A) (ops : List (Op A)) (base : ℕ) (reads : ReadSetState A) → IsJudged ops (snapshot_of now) base reads
      → CommitsIfUnchanged (snapshot_of now) (answered now ops (stale (Some base) (Some reads) (snapshot_of now))) base reads
  commit-judged now ops base reads h = inner (stale (Some base) (Some reads) (snapshot_of now)) refl
    where
      inner : (o : Option Refusal) → stale (Some base) (Some reads) (snapshot_of now) ≡ o
          → CommitsIfUnchanged (snapshot_of now) (answered now ops o) base reads
      inner None is =
          let all = h.accepted is in
          inl (record { same = all.0; answers = all.1; written = ap (λ (r : Result (OutcomeState A) RefusedAt). write_reply now (made r)) all.2.runs })
      inner (Some why) is =
          let first = h.refused why is in
          inr (record { item = first.0; changed = first.2; refused = ap (λ (w : Refusal). answered now ops (Some w)) first.1 })

  module _ (judged : (made : List (Op A)) (base : ℕ) (reads : ReadSetState A) (now : SnapshotState A) → AreOpsOf made base reads → EachRises now.database → IsJudged made now base reads) where
    where-judged : (now : State A) (ops : List (Op A)) (base : Option ℕ) (reads : Option (ReadSetState A)) → EachRises now.main → WhereRead base reads (AreOpsOf ops)
        → WhereRead base reads (CommitsIfUnchanged (snapshot_of now) (answered now ops (stale base reads (snapshot_of now))))
    where-judged now ops base None rises stands = tt
    where-judged now ops None (Some reads) rises stands = absurd stands
    where-judged now ops (Some base) (Some reads) rises stands = commit-judged now ops base reads (judged ops base reads (snapshot_of now) stands rises)

    pub commits-if-unchanged : (now : State A) (batch : BatchState A) → EachRises now.main → WhereRead batch.base batch.reads (AreOpsOf batch.ops)
        → WhereRead batch.base batch.reads (CommitsIfUnchanged (snapshot_of now) (answer now (command.Commit batch)))
    commits-if-unchanged now batch rises stands = where-judged now batch.ops batch.base batch.reads rises stands
