-- A session that is captured in two parts.
use Rattle.std.proofs.Common.{◌≡◌, ℕ, ◌-◌, ◌^◌, ◌<◌, ◌≤◌, Bool, true, cond, Option, Some, None, Result, Ok, Err, IfOk, List, [], ◌∷◌, ◌++◌, ◌&&◌, refl, sym, ap, subst, ◌∙◌, arith}
use Rattle.std.specs.Prelude.{length, map, reverse}
use Rattle.std.specs.Option.{unwrap_or}
use Rattle.std.specs.Result.{result_ok}
use Rattle.std.proofs.lemmas.List.{reverse-append}
use Rattle.cap_database.specs.Tables.{AreRising, Tables}
use Rattle.cap_changes.specs.Group.{TableChanges}
use Rattle.cap_codec.specs.BlobReading.{blob_at}
use Rattle.cap_codec.specs.Changeset.{list_bytes}
use Rattle.cap_codec.specs.Writable.{IsWritable}
use Rattle.cap_codec.specs.declared.read.Contents.{Contents}
use Rattle.cap_codec.specs.declared.read.Contents.TheVariants.{Changes}
use Rattle.cap_txn.specs.Batch.{BatchState}
use Rattle.cap_apply.specs.Applied.{AppliedState}
use Rattle.cap_apply.specs.Apply.{apply}
use Rattle.cap_apply.specs.declared.policy.Policy.{Policy}
use Rattle.cap_group.specs.ChangeGroup.{concat_of}
use Rattle.cap_session.specs.declared.session_change.SessionChange.TheVariants.{Enable, Restart}
use Rattle.cap_core.specs.declared.command.Command.{Command}
use Rattle.cap_core.specs.declared.command.Command.TheVariants.{Commit}
use Rattle.cap_core.specs.declared.session_command.SessionCommand.TheVariants.{Change}
use Rattle.cap_core.specs.declared.event.Event.{Event}
use Rattle.cap_core.specs.declared.reply.Reply.TheVariants as reply
use Rattle.cap_core.specs.Answer.{IsLegal, IsLegalPast, State, answer, event_by, state_after}
use Rattle.cap_core.specs.AppliedCapture.{GivesRows}
use Rattle.cap_core.specs.Capture.{CaptureState, session_changes}
use Rattle.cap_core.specs.Flags.{asks_enabled, command_to, is_enabled}
use Rattle.cap_core.specs.History.{main}
use Rattle.cap_core.specs.Past.{HasRoom, Past, is_accepted}
use Rattle.cap_core_laws.specs.Restarts.{AppliesAll, HoldsFirst, IsSteady, captures}
use Rattle.cap_core.specs.Session.{session_of}
use Rattle.cap_core.specs.Table.{BlobsFit, BlobsFitPast}
use Rattle.cap_core.specs.Touch.{diff_by, event_touches, restarts, touches}
use Rattle.cap_core_laws.proofs.AppliedCaptureLemmas.{captured, captured-at}
use Rattle.cap_core.proofs.NextLemmas.{events-state}
use Rattle.cap_core.proofs.NumberLemmas.{same_number}
use Rattle.cap_core.proofs.ToldLemmas.{to_itself}
use Rattle.cap_captures.specs.Captures.{AreUnrestarted, HasCaptureOver, capture_over, session_over, without_restart}
use Rattle.cap_captures.specs.declared.parts.Part.{Part}
use Rattle.cap_captures.specs.Parts.{AreAccepted, CanBeInParts, IsCapture, IsCommit, IsInParts, IsLeftBy, MadeWhere, capturing, enabling, restarting}
use Rattle.cap_captures.proofs.AcceptedLemmas.{after-two, all-accepted, can-be, first-accepted, in_one, in_two_parts, later-accepted, two-of, with-two}

-- ---- what is made, where something is

pub of_ok : {T E : Type 0} (P : T → Type 0) (r : Result T E) (x : T) → r ≡ Ok x → IfOk r P → P x
of_ok P r x is h = subst (λ found. IfOk found P) is h

pub of_made : {T : Type 0} (P P' : Type 0) (Q Q' : T → Type 0) (o : Option T) → (P' → P) → (P → P') → ((x : T) → Q x → Q' x) → MadeWhere P o Q → MadeWhere P' o Q'
of_made P P' Q Q' None into back turn h = λ p. h (into p)
of_made P P' Q Q' (Some x) into back turn h = (back h.0, turn x h.1)

pub ok_of : {T E : Type 0} (r : Result T E) (x : T) → Some x ≡ result_ok r → r ≡ Ok x
ok_of (Ok y) x is = cc
ok_of (Err why) x is = cc

ok_same : {E : Type 0} {A : Type 0} {x y : Contents A} → (let held : Result (Contents A) E = Ok x in held) ≡ Ok y → x ≡ y
ok_same e = cc

-- ---- the laws that are used

abbrev pub ReadsBack : Type 0 → Type 0
ReadsBack A = (past : Past A) (session : ℕ) (capture : CaptureState A) → answer (state_after past) (capturing session) ≡ reply.Capture capture → IsWritable (Changes capture.changes) → blob_at (list_bytes capture.changes) ≡ Ok (Changes capture.changes)

abbrev pub IsOneCapture : Type 0 → Type 0
IsOneCapture A = (session : ℕ) (start : Past A) (later : List (Event A)) (event : Event A) → touches session start ≡ [] → (is_accepted event.reply && restarts (command_to session event.command)) ≡ true
    → IsSteady session (event ∷ later) start → BlobsFitPast (event ∷ later ++ start)
    → (groups : List (TableChanges A)) × (concat_of (map Changes (captures session (event ∷ later) start)) ≡ Ok (Changes groups)) × HasCaptureOver session (event ∷ later) start groups

abbrev pub IsWithoutRestarts : Type 0 → Type 0
IsWithoutRestarts A = (session : ℕ) (start : Past A) (later others : List (Event A)) → touches session start ≡ [] → AreUnrestarted session later others
    → session_changes (main (others ++ start)) (session_of (others ++ start) session) ≡ capture_over session later start

abbrev pub AppliesAsCaptures : Type 0 → Type 0
AppliesAsCaptures A = (policy : Policy) (session : ℕ) (start : Past A) (later : List (Event A)) (event : Event A) (database : Tables A) (blob : Contents A)
    → touches session start ≡ [] → (is_accepted event.reply && restarts (command_to session event.command)) ≡ true
    → IsSteady session (event ∷ later) start → BlobsFitPast (event ∷ later ++ start)
    → AreRising database → HoldsFirst database session (event ∷ later) start
    → concat_of (map Changes (captures session (event ∷ later) start)) ≡ Ok blob
    → (left : AppliedState A) × (apply database blob policy ≡ Ok left)
    × AppliesAll policy (captures session (event ∷ later) start) database left.database
    × GivesRows database (main (event ∷ later ++ start)) left.database (session_over session (event ∷ later) start).tables

module _ {A : Type 0} where
  -- ---- room in the history

  events-are : (h : List (Event A)) (core : State A) → IsLeftBy h core → core.events ≡ length h
  events-are h core stands = ap (λ (s : State A). s.events) (sym stands.is) ∙ events-state h

  pub has-room : (h : List (Event A)) (core : State A) → IsLeftBy h core → (events : ℕ) → events ≡ core.events → events < 2 ^ 63 - 1 → HasRoom (length h)
  has-room h core stands events is few = let same = events-are h core stands in omega arith

  pub no-room : (h : List (Event A)) (core : State A) → IsLeftBy h core → (events : ℕ) → events ≡ core.events → 2 ^ 63 - 1 ≤ events → HasRoom (length h) → ⊥
  no-room h core stands events is many room = let same = events-are h core stands in omega arith

  -- ---- a commit, and a command after it

  pub if-capture : {T E : Type 0} (command : Command A) (Q : T → Type 0) (r : Result T E) → IfOk r (λ made. IsCapture command → Q made) → IsCapture command → IfOk r Q
  if-capture command Q (Ok made) all is = all is
  if-capture command Q (Err why) all is = tt

  pub with-commit : {T E : Type 0} (core left : State A) (commit command : Command A) (Q : List (Event A) → T → Type 0) (r : Result (Option T) E)
      → ((h : List (Event A)) → IsLeftBy h core → (IsCommit commit × AreAccepted h (commit ∷ [])) × ((version : ℕ) × IsLeftBy (h ++ event_by 0 commit (reply.Written version) ∷ []) left))
      → IfOk r (λ made. (h : List (Event A)) → IsLeftBy h left → MadeWhere (AreAccepted h (command ∷ [])) made (Q h))
      → IfOk r (λ made. (h : List (Event A)) → IsLeftBy h core → MadeWhere (IsCommit commit × AreAccepted h (commit ∷ command ∷ [])) made (λ p. (version : ℕ) × Q (h ++ event_by 0 commit (reply.Written version) ∷ []) p))
  with-commit core left commit command Q (Err why) first last = tt
  with-commit {T = T} core left commit command Q (Ok made) first last =
      λ h stands.
      let one = first h stands in
      let after : List (Event A) = h ++ event_by 0 commit (reply.Written one.1.0) ∷ [] in
      of_made (AreAccepted after (command ∷ [])) (IsCommit commit × AreAccepted h (commit ∷ command ∷ [])) (Q after) (λ p. (version : ℕ) × Q (h ++ event_by 0 commit (reply.Written version) ∷ []) p) made
      (λ all. later-accepted h commit (reply.Written one.1.0) (command ∷ []) one.1.1.legal all.1)
      (λ alone. (one.0.0, first-accepted h commit (reply.Written one.1.0) (command ∷ []) one.1.1.legal one.0.1 alone)) (λ p left. (one.1.0, left)) (last after one.1.1)

  turned : (h : List (Event A)) (event : Event A) (past : Past A) → reverse h ≡ past → reverse (h ++ event ∷ []) ≡ event ∷ past
  turned h event past is = reverse-append h (event ∷ []) ∙ ap (λ (p : Past A). event ∷ p) is

  module _ (h : List (Event A)) (session : ℕ) (first second : BatchState A) (flag : Bool) (old one two : CaptureState A) (v w : ℕ) where
    abbrev a : Event A
    a = event_by 0 (enabling session) (reply.Flag flag)

    abbrev b : Event A
    b = event_by 0 (restarting session) (reply.Capture old)

    abbrev c : Event A
    c = event_by 0 (Commit first) (reply.Written v)

    abbrev d : Event A
    d = event_by 0 (restarting session) (reply.Capture one)

    abbrev e : Event A
    e = event_by 0 (Commit second) (reply.Written w)

    abbrev f : Event A
    f = event_by 0 (restarting session) (reply.Capture two)

    -- the history after the first two of these events, and after the first four
    abbrev begun : List (Event A)
    begun = (h ++ a ∷ []) ++ b ∷ []

    abbrev captured-once : List (Event A)
    captured-once = (begun ++ c ∷ []) ++ d ∷ []

    abbrev pub whole : List (Event A)
    whole = (captured-once ++ e ∷ []) ++ f ∷ []

    abbrev start : Past A
    start = b ∷ a ∷ reverse h

    abbrev later : List (Event A)
    later = e ∷ d ∷ c ∷ []

    backwards : reverse whole ≡ f ∷ later ++ start
    backwards =
        turned (captured-once ++ e ∷ []) f (later ++ start)
        (turned captured-once e (d ∷ c ∷ start) (turned (begun ++ c ∷ []) d (c ∷ start) (turned begun c start (turned (h ++ a ∷ []) b (a ∷ reverse h) (turned h a (reverse h) refl)))))

    module _ (core : State A) (stands : IsLeftBy whole core) where
      legal : IsLegalPast (f ∷ later ++ start)
      unfolding IsLegal
      legal = subst IsLegalPast backwards stands.legal

      fits : BlobsFitPast (f ∷ later ++ start)
      unfolding BlobsFit
      fits = subst BlobsFitPast backwards stands.fits

      two-answered : answer (state_after (later ++ start)) (capturing session) ≡ reply.Capture two
      two-answered = sym legal.0

      one-answered : answer (state_after (c ∷ start)) (capturing session) ≡ reply.Capture one
      one-answered = sym legal.1.1.0

      two-is : two.changes ≡ session_changes (main (later ++ start)) (session_of (later ++ start) session)
      two-is = captured (later ++ start) session two two-answered

      one-is : one.changes ≡ session_changes (main (c ∷ start)) (session_of (c ∷ start) session)
      one-is = captured (c ∷ start) session one one-answered

      captures-are : captures session (f ∷ later) start ≡ one.changes ∷ two.changes ∷ []
      captures-are =
          let x = session_changes (main (c ∷ start)) (session_of (c ∷ start) session) in
          let y = session_changes (main (later ++ start)) (session_of (later ++ start) session) in
          ap (λ t. ((([] ++ cond (restarts t) (x ∷ []) []) ++ []) ++ cond (restarts t) (y ∷ []) [])) (to_itself session (Change Restart)) ∙ (λ i. sym one-is i ∷ sym two-is i ∷ [])

      restarted : restarts (command_to {A = A} session (restarting session)) ≡ true
      restarted = ap restarts (to_itself session (Change Restart))

      fresh : touches session start ≡ []
      fresh = ap (λ t. cond t [] (touches session (a ∷ reverse h) ++ event_touches session b (a ∷ reverse h))) restarted

      on : is_enabled session start ≡ true
      on = λ i. unwrap_or (asks_enabled {A = A} (to_itself session (Change Restart) i)) (unwrap_or (asks_enabled {A = A} (to_itself session (Change (Enable (Some true))) i)) (is_enabled session (reverse h)))

      on-again : is_enabled session (d ∷ c ∷ start) ≡ true
      on-again = λ i. unwrap_or (asks_enabled {A = A} (to_itself session (Change Restart) i)) (on i)

      no-diff : (past : Past A) → diff_by (command_to session (restarting session)) past ≡ None
      no-diff past = ap (λ t. diff_by t past) (to_itself session (Change Restart))

      steady : IsSteady session (f ∷ later) start
      steady = ((on-again, refl), no-diff (later ++ start), ((on-again, refl), refl, ((on, refl), no-diff (c ∷ start), ((on, refl), refl, tt))))

      -- the two captures are read back, and have a concatenation
      module _ (reads : ReadsBack A) (law : IsOneCapture A) (writable : IsWritable (Changes one.changes)) (writable' : IsWritable (Changes two.changes)) where
        one-read : blob_at (list_bytes one.changes) ≡ Ok (Changes one.changes)
        one-read = reads (c ∷ start) session one one-answered writable

        two-read : blob_at (list_bytes two.changes) ≡ Ok (Changes two.changes)
        two-read = reads (later ++ start) session two two-answered writable'

        joined : (groups : List (TableChanges A)) × (concat_of (Changes one.changes ∷ Changes two.changes ∷ []) ≡ Ok (Changes groups)) × HasCaptureOver session (f ∷ later) start groups
        joined =
            let same = law session start later f fresh restarted steady fits in
            (same.0, ap (λ lists. concat_of (map Changes lists)) (sym captures-are) ∙ same.1, same.2)

        -- so that what is made of them is something
        pub never-none : (made : Option (Contents A))
            → ((p q : Contents A) → blob_at (list_bytes one.changes) ≡ Ok p → blob_at (list_bytes two.changes) ≡ Ok q → made ≡ result_ok (concat_of (p ∷ q ∷ []))) → made ≡ None → ⊥
        never-none made concats none =
            let is : None ≡ Some (Changes joined.0) = sym none ∙ concats (Changes one.changes) (Changes two.changes) one-read two-read ∙ ap result_ok joined.1 in cc

      -- the same commands, with captures in place of the last two restarts, and a capture behind them
      module _ (x y made : CaptureState A) (v' w' : ℕ) (other : State A)
          (others : IsLeftBy (((((begun ++ event_by 0 (Commit first) (reply.Written v') ∷ []) ++ event_by 0 (capturing session) (reply.Capture x) ∷ []) ++ event_by 0 (Commit second) (reply.Written w') ∷ [])
          ++ event_by 0 (capturing session) (reply.Capture y) ∷ []) ++ event_by 0 (capturing session) (reply.Capture made) ∷ []) other) where
        abbrev c' : Event A
        c' = event_by 0 (Commit first) (reply.Written v')

        abbrev d' : Event A
        d' = event_by 0 (capturing session) (reply.Capture x)

        abbrev e' : Event A
        e' = event_by 0 (Commit second) (reply.Written w')

        abbrev f' : Event A
        f' = event_by 0 (capturing session) (reply.Capture y)

        abbrev g' : Event A
        g' = event_by 0 (capturing session) (reply.Capture made)

        abbrev unrestarted : List (Event A)
        unrestarted = f' ∷ e' ∷ d' ∷ c' ∷ []

        backwards' : reverse (((((begun ++ c' ∷ []) ++ d' ∷ []) ++ e' ∷ []) ++ f' ∷ []) ++ g' ∷ []) ≡ g' ∷ unrestarted ++ start
        backwards' =
            turned ((((begun ++ c' ∷ []) ++ d' ∷ []) ++ e' ∷ []) ++ f' ∷ []) g' (unrestarted ++ start)
            (turned (((begun ++ c' ∷ []) ++ d' ∷ []) ++ e' ∷ []) f' (e' ∷ d' ∷ c' ∷ start)
            (turned ((begun ++ c' ∷ []) ++ d' ∷ []) e' (d' ∷ c' ∷ start)
            (turned (begun ++ c' ∷ []) d' (c' ∷ start) (turned begun c' start (turned (h ++ a ∷ []) b (a ∷ reverse h) (turned h a (reverse h) refl))))))

        legal' : IsLegalPast (g' ∷ unrestarted ++ start)
        unfolding IsLegal
        legal' = subst IsLegalPast backwards' others.legal

        alike : AreUnrestarted session (f ∷ later) unrestarted
        alike =
            let one_restart : capturing session ≡ without_restart session (restarting session) = sym (ap (λ t. cond t (capturing session) (restarting session)) (same_number session)) in
            (one_restart, refl, (refl, refl, (one_restart, refl, (refl, refl, tt))))

        made-is : IsWithoutRestarts A → made.changes ≡ capture_over session (f ∷ later) start
        made-is law = captured (unrestarted ++ start) session made (sym legal'.0) ∙ law session start (f ∷ later) unrestarted fresh alike

        pub in-parts : ReadsBack A → IsOneCapture A → AppliesAsCaptures A → IsWithoutRestarts A → IsWritable (Changes one.changes) → IsWritable (Changes two.changes) → (blob : Contents A)
            → ((p q : Contents A) → blob_at (list_bytes one.changes) ≡ Ok p → blob_at (list_bytes two.changes) ≡ Ok q → Some blob ≡ result_ok (concat_of (p ∷ q ∷ [])))
            → CanBeInParts h session (Commit first) (Commit second) → IsInParts h session (Commit first) (Commit second) (record { together = blob; whole = made })
        in-parts reads law applies alone writable writable' blob concats can =
            let is = ok_of (concat_of (Changes one.changes ∷ Changes two.changes ∷ [])) blob (concats (Changes one.changes) (Changes two.changes) (one-read reads law writable writable') (two-read reads law writable writable')) in
            let told : concat_of (map Changes (captures session (f ∷ later) start)) ≡ Ok blob = ap (λ lists. concat_of (map Changes lists)) captures-are ∙ is in
            let same = joined reads law writable writable' in
            record {
              start = start;
              later = later;
              event = f;
              begun = refl;
              then = refl;
              legal = legal;
              can = can;
              groups = same.0;
              changeset = ok_same (sym is ∙ same.1);
              whole = made-is alone;
              whole_version = captured-at (unrestarted ++ start) session made (sym legal'.0);
              captured = same.2;
              applies = λ policy database rise holds.
                  let left = applies policy session start later f database blob fresh restarted steady fits rise holds told in
                  (left.0, left.1, left.2);
            }

  -- ---- the same of commands that are commits

  abbrev pub enabled : List (Event A) → ℕ → Bool → CaptureState A → List (Event A)
  enabled h session flag old = (h ++ event_by 0 (enabling session) (reply.Flag flag) ∷ []) ++ event_by 0 (restarting session) (reply.Capture old) ∷ []

  abbrev pub first-part : List (Event A) → ℕ → Command A → Bool → CaptureState A → ℕ → CaptureState A → List (Event A)
  first-part h session first flag old v one = (enabled h session flag old ++ event_by 0 first (reply.Written v) ∷ []) ++ event_by 0 (restarting session) (reply.Capture one) ∷ []

  abbrev second-part : List (Event A) → ℕ → Command A → Command A → Bool → CaptureState A → CaptureState A → CaptureState A → ℕ → ℕ → List (Event A)
  second-part h session first second flag old one two v w = (first-part h session first flag old v one ++ event_by 0 second (reply.Written w) ∷ []) ++ event_by 0 (restarting session) (reply.Capture two) ∷ []

  abbrev unrestarted-whole : List (Event A) → ℕ → Command A → Command A → CaptureState A → CaptureState A → CaptureState A → ℕ → ℕ → List (Event A)
  unrestarted-whole start session first second x y made v w =
      ((((start ++ event_by 0 first (reply.Written v) ∷ []) ++ event_by 0 (capturing session) (reply.Capture x) ∷ []) ++ event_by 0 second (reply.Written w) ∷ [])
      ++ event_by 0 (capturing session) (reply.Capture y) ∷ []) ++ event_by 0 (capturing session) (reply.Capture made) ∷ []

  -- ---- each step is accepted, where the parts can be had

  module _ (h : List (Event A)) (session : ℕ) (first second : Command A) (can : CanBeInParts h session first second) where
    all : AreAccepted h (in_two_parts session first second) × AreAccepted h (in_one session first second)
    all = all-accepted h session first second can

    pub start-accepted : AreAccepted h (enabling session ∷ restarting session ∷ [])
    start-accepted = two-of h (enabling session) (restarting session) (first ∷ restarting session ∷ second ∷ restarting session ∷ []) all.0

    module _ (flag : Bool) (old : CaptureState A) (legal : IsLegal (enabled h session flag old)) where
      after-start : AreAccepted (enabled h session flag old) (first ∷ restarting session ∷ second ∷ restarting session ∷ [])
      after-start = after-two h (enabling session) (restarting session) (reply.Flag flag) (reply.Capture old) (first ∷ restarting session ∷ second ∷ restarting session ∷ []) legal all.0

      pub first-part-accepted : IsCommit first × AreAccepted (enabled h session flag old) (first ∷ restarting session ∷ [])
      first-part-accepted = (can.commits.0, two-of (enabled h session flag old) first (restarting session) (second ∷ restarting session ∷ []) after-start)

      pub second-part-accepted : (v : ℕ) (one : CaptureState A) → IsLegal (first-part h session first flag old v one) → IsCommit second × AreAccepted (first-part h session first flag old v one) (second ∷ restarting session ∷ [])
      second-part-accepted v one legal =
          (can.commits.1, after-two (enabled h session flag old) first (restarting session) (reply.Written v) (reply.Capture one) (second ∷ restarting session ∷ []) legal after-start)

      pub whole-accepted : (IsCommit first × IsCommit second) × AreAccepted (enabled h session flag old) (first ∷ capturing session ∷ second ∷ capturing session ∷ capturing session ∷ [])
      whole-accepted =
          (can.commits, after-two h (enabling session) (restarting session) (reply.Flag flag) (reply.Capture old) (first ∷ capturing session ∷ second ∷ capturing session ∷ capturing session ∷ []) legal all.1)

  -- and the parts can be had, where each step is accepted
  pub each-accepted : (h : List (Event A)) (session : ℕ) (first second : Command A) (flag : Bool) (old one : CaptureState A) (v : ℕ) → IsLegal (enabled h session flag old) → IsLegal (first-part h session first flag old v one)
      → AreAccepted h (enabling session ∷ restarting session ∷ []) → IsCommit first × AreAccepted (enabled h session flag old) (first ∷ restarting session ∷ [])
      → IsCommit second × AreAccepted (first-part h session first flag old v one) (second ∷ restarting session ∷ [])
      → (IsCommit first × IsCommit second) × AreAccepted (enabled h session flag old) (first ∷ capturing session ∷ second ∷ capturing session ∷ capturing session ∷ []) → CanBeInParts h session first second
  each-accepted h session first second flag old one v legal legal' on first_is second_is whole =
      can-be h session first second first_is.0 second_is.0 (
        with-two h (enabling session) (restarting session) (reply.Flag flag) (reply.Capture old) (first ∷ restarting session ∷ second ∷ restarting session ∷ []) legal on
            (with-two (enabled h session flag old) first (restarting session) (reply.Written v) (reply.Capture one) (second ∷ restarting session ∷ []) legal' first_is.1 second_is.1),
        with-two h (enabling session) (restarting session) (reply.Flag flag) (reply.Capture old) (first ∷ capturing session ∷ second ∷ capturing session ∷ capturing session ∷ []) legal on whole.1,
      )

  -- ---- what comes out

  abbrev pub ComesOut : Command A → Command A → Type 0
  ComesOut first second =
      (h : List (Event A)) (session : ℕ) (flag : Bool) (old one two : CaptureState A) (v w : ℕ) (core : State A) → IsLeftBy (second-part h session first second flag old one two v w) core
      → (x y made : CaptureState A) (v' w' : ℕ) (other : State A) → IsLeftBy (unrestarted-whole (enabled h session flag old) session first second x y made v' w') other
      → ReadsBack A → IsOneCapture A → AppliesAsCaptures A → IsWithoutRestarts A → IsWritable (Changes one.changes) → IsWritable (Changes two.changes) → (blob : Contents A)
      → ((p q : Contents A) → blob_at (list_bytes one.changes) ≡ Ok p → blob_at (list_bytes two.changes) ≡ Ok q → Some blob ≡ result_ok (concat_of (p ∷ q ∷ [])))
      → CanBeInParts h session first second → IsInParts h session first second (record { together = blob; whole = made })

  pub comes-out : (first second : Command A) → IsCommit first → IsCommit second → ComesOut first second
  comes-out first second (one, is) (other, is') =
      subst (λ command. ComesOut command second) (sym is) (subst (λ command. ComesOut (Commit one) command) (sym is')
      (λ h session flag old part more v w core stands x y made v' w' left others. in-parts h session one other flag old part more v w core stands x y made v' w' left others))

  abbrev pub NeverNone : Command A → Command A → Type 0
  NeverNone first second =
      (h : List (Event A)) (session : ℕ) (flag : Bool) (old one two : CaptureState A) (v w : ℕ) (core : State A) → IsLeftBy (second-part h session first second flag old one two v w) core
      → ReadsBack A → IsOneCapture A → IsWritable (Changes one.changes) → IsWritable (Changes two.changes) → (made : Option (Contents A))
      → ((p q : Contents A) → blob_at (list_bytes one.changes) ≡ Ok p → blob_at (list_bytes two.changes) ≡ Ok q → made ≡ result_ok (concat_of (p ∷ q ∷ []))) → made ≡ None → ⊥

  pub is-made : (first second : Command A) → IsCommit first → IsCommit second → NeverNone first second
  is-made first second (one, is) (other, is') =
      subst (λ command. NeverNone command second) (sym is) (subst (λ command. NeverNone (Commit one) command) (sym is')
      (λ h session flag old part more v w core stands. never-none h session one other flag old part more v w core stands))

  -- ---- what the steps give

  module _ (session : ℕ) where
    -- what enabling and restarting the session gives
    abbrev pub Starts : State A → Option (State A) → Type 0
    Starts core made =
        (h : List (Event A)) → IsLeftBy h core → MadeWhere (AreAccepted h (enabling session ∷ restarting session ∷ [])) made (λ left. (flag : Bool) × (old : CaptureState A) × IsLeftBy (enabled h session flag old) left)

    -- what a commit and a restart give
    abbrev pub GivesPart : State A → Command A → Option (Part A) → Type 0
    GivesPart core commit made =
        (h : List (Event A)) → IsLeftBy h core → MadeWhere (IsCommit commit × AreAccepted h (commit ∷ restarting session ∷ [])) made
        (λ p. (version : ℕ) × IsLeftBy ((h ++ event_by 0 commit (reply.Written version) ∷ []) ++ event_by 0 (restarting session) (reply.Capture p.capture) ∷ []) p.core)

    -- what both commits give without restarts
    abbrev pub GivesWhole : State A → Command A → Command A → Option (CaptureState A) → Type 0
    GivesWhole core first second made =
        (h : List (Event A)) → IsLeftBy h core → MadeWhere ((IsCommit first × IsCommit second) × AreAccepted h (first ∷ capturing session ∷ second ∷ capturing session ∷ capturing session ∷ [])) made
        (λ whole. (x y : CaptureState A) × ((v w : ℕ) × (left : State A) × IsLeftBy (unrestarted-whole h session first second x y whole v w) left))

  module _ (h : List (Event A)) (core : State A) (session : ℕ) (first second : Command A) (stands : IsLeftBy h core) where
    pub none-started : Starts session core None → CanBeInParts h session first second → ⊥
    none-started none can = none h stands (start-accepted h session first second can)

    module _ (start : State A) (starts : Starts session core (Some start)) where
      abbrev from-here : List (Event A)
      from-here = let began = (starts h stands).1 in enabled h session began.0 began.1

      pub no-first-part : GivesPart session start first None → CanBeInParts h session first second → ⊥
      no-first-part none can = let began = (starts h stands).1 in none from-here began.2 (first-part-accepted h session first second can began.0 began.1 began.2.legal)

      pub no-whole : GivesWhole session start first second None → CanBeInParts h session first second → ⊥
      no-whole none can = let began = (starts h stands).1 in none from-here began.2 (whole-accepted h session first second can began.0 began.1 began.2.legal)

      module _ (one : Part A) (gives : GivesPart session start first (Some one)) where
        abbrev middle : List (Event A)
        middle = let began = (starts h stands).1 in first-part h session first began.0 began.1 (gives from-here began.2).1.0 one.capture

        pub no-second-part : GivesPart session one.core second None → CanBeInParts h session first second → ⊥
        no-second-part none can =
            let began = (starts h stands).1 in
            let part = (gives from-here began.2).1 in
            none middle part.1 (second-part-accepted h session first second can began.0 began.1 began.2.legal part.0 one.capture part.1.legal)

        module _ (two : Part A) (gives-more : GivesPart session one.core second (Some two)) (reads : ReadsBack A) (law : IsOneCapture A) (writable : IsWritable (Changes one.capture.changes)) (writable' : IsWritable (Changes two.capture.changes)) where
          pub always-joined : (made : Option (Contents A))
              → ((p q : Contents A) → blob_at (list_bytes one.capture.changes) ≡ Ok p → blob_at (list_bytes two.capture.changes) ≡ Ok q → made ≡ result_ok (concat_of (p ∷ q ∷ []))) → made ≡ None → CanBeInParts h session first second → ⊥
          always-joined made concats none can =
              let began = (starts h stands).1 in
              let part = (gives from-here began.2).1 in
              let more = (gives-more middle part.1).1 in
              is-made first second can.commits.0 can.commits.1 h session began.0 began.1 one.capture two.capture part.0 more.0 two.core more.1 reads law writable writable' made concats none

          pub parts-made : (whole : CaptureState A) → GivesWhole session start first second (Some whole) → AppliesAsCaptures A → IsWithoutRestarts A → (made : Option (Contents A)) (together : Contents A)
              → ((p q : Contents A) → blob_at (list_bytes one.capture.changes) ≡ Ok p → blob_at (list_bytes two.capture.changes) ≡ Ok q → made ≡ result_ok (concat_of (p ∷ q ∷ []))) → made ≡ Some together
              → IsInParts h session first second (record { together = together; whole = whole })
          parts-made whole gives-whole applies alone made together concats is =
              let began = (starts h stands).1 in
              let part = gives from-here began.2 in
              let more = gives-more middle part.1.1 in
              let all = gives-whole from-here began.2 in
              comes-out first second part.0.0 more.0.0 h session began.0 began.1 one.capture two.capture part.1.0 more.1.0 two.core more.1.1 all.1.0 all.1.1 whole all.1.2.0 all.1.2.1 all.1.2.2 all.1.2.3 reads law applies alone writable writable' together
              (λ p q read read'. sym is ∙ concats p q read read')
              (each-accepted h session first second began.0 began.1 one.capture part.1.0 began.2.legal part.1.1.legal (starts h stands).0 part.0 more.0 all.0)
