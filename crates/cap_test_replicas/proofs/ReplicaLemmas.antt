-- What a capture through a seat gives where its bytes are applied.
use Rattle.std.proofs.Common.{◌≡◌, ℕ, Option, Some, None, Result, Ok, Err, List, [], ◌∷◌, ◌++◌, refl, ap, sym, subst, ◌∙◌}
use Rattle.std.specs.Prelude.{reverse}
use Rattle.cap_value.specs.declared.refusal.Refusal.{Refusal}
use Rattle.cap_value.specs.declared.refusal.Refusal.TheVariants.{NoSession}
use Rattle.cap_database.specs.Tables.{AreRising, Tables}
use Rattle.cap_changes.specs.Group.{TableChanges}
use Rattle.cap_changes.specs.Patch.{patch_list_of}
use Rattle.cap_codec.specs.BlobReading.{blob_at}
use Rattle.cap_codec.specs.Changeset.{list_bytes}
use Rattle.cap_codec.specs.Patchset.{patch_list_bytes}
use Rattle.cap_codec.specs.Writable.{IsWritable}
use Rattle.cap_codec.specs.declared.read.Contents.{Contents}
use Rattle.cap_codec.specs.declared.read.Contents.TheVariants.{Changes}
use Rattle.cap_apply.specs.Applied.{AppliedState}
use Rattle.cap_apply.specs.Apply.{apply}
use Rattle.cap_apply.specs.declared.policy.Policy.{Policy}
use Rattle.cap_session.specs.Session.{SessionState}
use Rattle.cap_session.specs.Sessions.{session_numbered}
use Rattle.cap_core.specs.declared.command.Command.{Command}
use Rattle.cap_core.specs.declared.command.Command.TheVariants.{Session}
use Rattle.cap_core.specs.declared.session_command.SessionCommand.TheVariants.{Capture}
use Rattle.cap_core.specs.declared.event.Event.{Event}
use Rattle.cap_core.specs.declared.reply.Reply.{Reply}
use Rattle.cap_core.specs.declared.reply.Reply.TheVariants as reply
use Rattle.cap_core.specs.Answer.{IsLegal, answer, capture_reply, event_by, refusal, reply_of, session_answer, state, state_after}
use Rattle.cap_core.specs.AppliedCapture.{AppliesWhole, GivesRows, HoldsImages, changes_in}
use Rattle.cap_core.specs.Capture.{CaptureState}
use Rattle.cap_core.specs.History.{main}
use Rattle.cap_core.specs.Past.{Past}
use Rattle.cap_core.specs.Session.{session_of}
use Rattle.cap_core.specs.Table.{BlobsFit, BlobsFitPast}
use Rattle.cap_history.specs.Seat.{HasCalled, SeatState}
use Rattle.cap_test_replicas.specs.Replica.{HoldsFirst, IsNoCapture, IsReplicated, bytes_in, records_after, tables_after}
use Rattle.cap_test_replicas.specs.declared.replication.Form.{Form}
use Rattle.cap_test_replicas.specs.declared.replication.Form.TheVariants.{Changeset, Patchset}

-- ---- the laws that are used

abbrev pub Replied : Type 0 → Type 0
Replied A = (h : List (Event A)) (by : ℕ) (command : Command A) (r : Reply A) → IsLegal (h ++ event_by by command r ∷ []) → r ≡ reply_of h command

abbrev pub Answers : Type 0 → Type 0
Answers A = (h : List (Event A)) (command : Command A) → reply_of h command ≡ answer (state h) command

abbrev pub Begins : Type 0 → Type 0
Begins A = (h more : List (Event A)) → BlobsFit (h ++ more) → BlobsFit h

abbrev pub PastFits : Type 0 → Type 0
PastFits A = (h : List (Event A)) → BlobsFit h → BlobsFitPast (reverse h)

module _ {A : Type 0} where
  -- the bytes of a capture are read
  abbrev pub Reads : (List (TableChanges A) → List ℕ) → Type 0
  Reads bytes = (past : Past A) (session : ℕ) (capture : CaptureState A) → answer (state_after past) (Session session Capture) ≡ reply.Capture capture
      → IsWritable (Changes capture.changes) → (blob : Contents A) × (blob_at (bytes capture.changes) ≡ Ok blob)

  -- and what is read gives the rows
  abbrev pub Gives : (List (TableChanges A) → List ℕ) → Type 0
  Gives bytes = (past : Past A) (session : ℕ) (capture : CaptureState A) (database : Tables A) (policy : Policy) (blob : Contents A)
      → answer (state_after past) (Session session Capture) ≡ reply.Capture capture → IsWritable (Changes capture.changes) → AreRising database → BlobsFitPast past
      → HoldsImages database (main past) (session_of past session).tables → blob_at (bytes capture.changes) ≡ Ok blob
      → AppliesWhole policy blob (changes_in capture.changes) database (main past) (session_of past session).tables

  pub reads-in : (form : Form) → Reads list_bytes → Reads (λ list. patch_list_bytes (patch_list_of list)) → Reads (bytes_in form)
  reads-in Changeset changeset patchset = changeset
  reads-in Patchset changeset patchset = patchset

  pub gives-in : (form : Form) → Gives list_bytes → Gives (λ list. patch_list_bytes (patch_list_of list)) → Gives (bytes_in form)
  gives-in Changeset changeset patchset = changeset
  gives-in Patchset changeset patchset = patchset

  -- ---- where the call stands

  state-is : (h : List (Event A)) → state h ≡ state_after (reverse h)
  unfolding state
  state-is h = refl

  -- the reply at the call's place
  answered : Replied A → Answers A → (old new : SeatState A) (session : ℕ) (r : Reply A) → HasCalled old new (Session session Capture) r → (before : List (Event A))
      → new.seen ≡ before ++ event_by old.number (Session session Capture) r ∷ [] → answer (state_after (reverse before)) (Session session Capture) ≡ r
  answered replied answers old new session r called before is =
      let was : IsLegal (before ++ event_by old.number (Session session Capture) r ∷ []) = subst IsLegal is called.legal in
      sym (replied before old.number (Session session Capture) r was ∙ answers before (Session session Capture) ∙ ap (λ s. answer s (Session session Capture)) (state-is before))

  -- the call has a place
  place-of : (old new : SeatState A) (session : ℕ) (r : Reply A) → HasCalled old new (Session session Capture) r
      → (before : List (Event A)) × (new.seen ≡ before ++ event_by old.number (Session session Capture) r ∷ [])
  place-of old new session r called =
      (old.seen ++ called.seen.0, called.seen.1)

  fitting : Begins A → PastFits A → (old new : SeatState A) (session : ℕ) (r : Reply A) → HasCalled old new (Session session Capture) r → (before : List (Event A))
      → new.seen ≡ before ++ event_by old.number (Session session Capture) r ∷ [] → BlobsFitPast (reverse before)
  fitting begins past old new session r called before is =
      past before (begins before (event_by old.number (Session session Capture) r ∷ []) (subst BlobsFit is called.blobs))

  -- ---- what is read

  pub is-read : (form : Form) → Reads (bytes_in form) → Replied A → Answers A → (old new : SeatState A) (session : ℕ) (capture : CaptureState A)
      → HasCalled old new (Session session Capture) (reply.Capture capture) → IsWritable (Changes capture.changes) → (blob : Contents A) × (blob_at (bytes_in form capture.changes) ≡ Ok blob)
  is-read form reads replied answers old new session capture called writable =
      let place = place-of old new session (reply.Capture capture) called in
      reads (reverse place.0) session capture (answered replied answers old new session (reply.Capture capture) called place.0 place.1) writable

  module _ (form : Form) (policy : Policy) (gives : Gives (bytes_in form)) (replied : Replied A) (answers : Answers A) (begins : Begins A) (past : PastFits A)
      (old new : SeatState A) (session : ℕ) (capture : CaptureState A) (replica : Tables A) (rises : AreRising replica) (writable : IsWritable (Changes capture.changes))
      (called : HasCalled old new (Session session Capture) (reply.Capture capture)) (blob : Contents A) (is_read : blob_at (bytes_in form capture.changes) ≡ Ok blob) where
    whole : (before : List (Event A)) → new.seen ≡ before ++ event_by old.number (Session session Capture) (reply.Capture capture) ∷ [] → HoldsFirst session before replica
        → AppliesWhole policy blob (changes_in capture.changes) replica (tables_after before) (records_after session before)
    whole before is holds =
        gives (reverse before) session capture replica policy blob (answered replied answers old new session (reply.Capture capture) called before is) writable rises
        (fitting begins past old new session (reply.Capture capture) called before is) holds is_read

    pub is-replicated : (left : AppliedState A) → apply replica blob policy ≡ Ok left → IsReplicated old new session replica left
    is-replicated left applied = record {
      capture = capture;
      called = called;
      rows = λ before is holds.
          let all = whole before is holds in
          let both : Ok all.0 ≡ Ok left = sym all.1 ∙ applied in
          let same : all.0 ≡ left = cc in
          subst (λ (l : AppliedState A). GivesRows replica (tables_after before) l.database (records_after session before) × (l.report ≡ record { applied = changes_in capture.changes; conflicts = []; omitted = []; skipped = [] })) same
          (all.2, all.3);
    }

    pub never-refused : (why : Refusal) → apply replica blob policy ≡ Err why → (before : List (Event A))
        → new.seen ≡ before ++ event_by old.number (Session session Capture) (reply.Capture capture) ∷ [] → HoldsFirst session before replica → ⊥
    never-refused why refused before is holds =
        let all = whole before is holds in
        let clash : Ok all.0 ≡ Err why = sym all.1 ∙ refused in
        absurd (cc)

  -- ---- no capture

  no-capture : (version : ℕ) (tables : Tables A) (found : Option (SessionState A)) → IsNoCapture (session_answer found (capture_reply version tables))
      → session_answer found (capture_reply version tables) ≡ refusal NoSession
  no-capture version tables None none = refl
  no-capture version tables (Some session) none = absurd none

  pub no-session : Replied A → Answers A → (old new : SeatState A) (session : ℕ) (r : Reply A) → HasCalled old new (Session session Capture) r → IsNoCapture r
      → HasCalled old new (Session session Capture) (refusal NoSession)
  no-session replied answers old new session r called none =
      let place = place-of old new session r called in
      let is = answered replied answers old new session r called place.0 place.1 in
      let now = state_after (reverse place.0) in
      let missing : answer now (Session session Capture) ≡ refusal NoSession = no-capture now.version now.main (session_numbered now.sessions session) (subst IsNoCapture (sym is) none) in
      subst (λ (x : Reply A). HasCalled old new (Session session Capture) x) (sym is ∙ missing) called
