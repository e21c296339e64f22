-- What the commit of a transaction's batch was answered at its place in a history.
use Rattle.std.specs.Prelude.{IfOk}
use Rattle.cap_history.specs.Seat.{HasCalled, SeatState}
use Rattle.std.proofs.Common.{◌≡◌, ℕ, Result, Ok, Err, List, [], ◌∷◌, ◌++◌, ap, sym, subst, ◌∙◌}
use Rattle.cap_database.specs.Tables.{AreRising, EachRises}
use Rattle.cap_txn.specs.Batch.{BatchState, WhereRead}
use Rattle.cap_txn.specs.Stale.{AreOpsOf}
use Rattle.cap_core.specs.declared.command.Command.{Command}
use Rattle.cap_core.specs.declared.command.Command.TheVariants.{Commit}
use Rattle.cap_core.specs.declared.event.Event.{Event}
use Rattle.cap_core.specs.declared.reply.Reply.{Reply}
use Rattle.cap_core.specs.Answer.{IsLegal, State, answer, event_by, reply_of, snapshot_of, state}
use Rattle.cap_core.specs.Commit.{CommitsIfUnchanged}
use Rattle.cap_core.specs.Table.{BlobsFit}
use Rattle.cap_server.specs.Commit.{CommitsAt}

abbrev Judges : Type 0 → Type 0
Judges A = (now : State A) (batch : BatchState A) → EachRises now.main → WhereRead batch.base batch.reads (AreOpsOf batch.ops)
    → WhereRead batch.base batch.reads (CommitsIfUnchanged (snapshot_of now) (answer now (Commit batch)))

abbrev Replied : Type 0 → Type 0
Replied A = (h : List (Event A)) (by : ℕ) (command : Command A) (reply : Reply A) → IsLegal (h ++ event_by by command reply ∷ []) → reply ≡ reply_of h command

abbrev Answers : Type 0 → Type 0
Answers A = (h : List (Event A)) (command : Command A) → reply_of h command ≡ answer (state h) command

abbrev Begins : Type 0 → Type 0
Begins A = (h more : List (Event A)) → BlobsFit (h ++ more) → BlobsFit h

abbrev Rises : Type 0 → Type 0
Rises A = (h : List (Event A)) → BlobsFit h → AreRising (state h).main

module _ {A : Type 0} where
  pub commits-at : (history : List (Event A)) (batch : BatchState A) (reply : Reply A) → Judges A → Replied A → Answers A → Begins A → Rises A
      → WhereRead batch.base batch.reads (AreOpsOf batch.ops) → IsLegal history → BlobsFit history → CommitsAt history batch reply
  commits-at history batch reply judges replied answers begins rises stands legal fits before by is =
      let event = event_by by (Commit batch) reply in
      let was : IsLegal (before ++ event ∷ []) = subst IsLegal is legal in
      let fit : BlobsFit before = begins before (event ∷ []) (subst BlobsFit is fits) in
      let same : reply ≡ answer (state before) (Commit batch) = replied before by (Commit batch) reply was ∙ answers before (Commit batch) in
      subst (λ (r : Reply A). WhereRead batch.base batch.reads (CommitsIfUnchanged (snapshot_of (state before)) r)) (sym same)
      (judges (state before) batch (rises before fit).each stands)

  pub commits : {E : Type 0} (r : Result (Reply A) E) (old new : SeatState A) (batch : BatchState A) → Judges A → Replied A → Answers A → Begins A → Rises A
      → WhereRead batch.base batch.reads (AreOpsOf batch.ops) → IfOk r (λ reply. HasCalled old new (Commit batch) reply) → IfOk r (CommitsAt new.seen batch)
  commits (Ok reply) old new batch judges replied answers begins rises stands called =
      commits-at new.seen batch reply judges replied answers begins rises stands called.legal called.blobs
  commits (Err fault) old new batch judges replied answers begins rises stands called = tt
