-- When all commands of captures in two parts are accepted: where the session is there, the two commits are
-- accepted one after the other, and seven events have room.
use Rattle.std.proofs.Common.{◌≡◌, ◌⊎◌, inl, inr, ℕ, ◌+◌, ◌<◌, ◌^◌, Bool, true, false, cond, Option, Some, None, Result, Ok, Err, List, [], ◌∷◌, ◌++◌, ◌&&◌, ◌||◌, refl, sym, ap, subst, ◌∙◌, arith, nat_eq}
use Rattle.std.specs.Prelude.{filter, is_some, length, map, not, reverse}
use Rattle.std.specs.List.{range_with_len}
use Rattle.std.specs.Map.{lookup}
use Rattle.std.proofs.lemmas.List.{length-reverse, reverse-append}
use Rattle.cap_value.specs.declared.refusal.Refusal.{Refusal}
use Rattle.cap_database.specs.Operation.{run}
use Rattle.cap_database.specs.Outcome.{OutcomeState}
use Rattle.cap_database.specs.declared.op.Op.{Op}
use Rattle.cap_database.specs.declared.refused_at.RefusedAt.{RefusedAt}
use Rattle.cap_session.specs.Session.{SessionState}
use Rattle.cap_session.specs.Sessions.{session_numbered}
use Rattle.cap_txn.specs.Batch.{BatchState}
use Rattle.cap_txn.specs.Stale.{stale}
use Rattle.cap_session.specs.declared.session_change.SessionChange.TheVariants.{Enable, Restart}
use Rattle.cap_core.specs.declared.command.Command.{Command}
use Rattle.cap_core.specs.declared.command.Command.TheVariants.{Commit, Session}
use Rattle.cap_core.specs.declared.session_command.SessionCommand.{SessionCommand}
use Rattle.cap_core.specs.declared.session_command.SessionCommand.TheVariants.{Capture, Change}
use Rattle.cap_core.specs.declared.event.Event.{Event}
use Rattle.cap_core.specs.declared.reply.Reply.{Reply}
use Rattle.cap_core.specs.declared.reply.Reply.TheVariants as reply
use Rattle.cap_core.specs.Answer.{IsLegal, State, answer, event_by, reply_of, session_answer, session_reply, snapshot_of, state, state_after, write_reply}
use Rattle.cap_core.specs.Capture.{CaptureState, session_changes}
use Rattle.cap_core.specs.Flags.{deletes, is_dropped, live_sessions, sessions_made}
use Rattle.cap_core.specs.Outcome.{commit_unless, made}
use Rattle.cap_core.specs.Past.{HasRoom, Past, is_accepted}
use Rattle.cap_core.specs.Session.{session_of}
use Rattle.cap_core.proofs.CommitLemmas.{was-answered, was-legal}
use Rattle.cap_core.proofs.SessionLemmas.{and_false}
use Rattle.cap_captures.specs.Parts.{AreAccepted, CanBeInParts, IsCapture, IsCommit, capturing, enabling, restarting}

module _ {A : Type 0} where
  -- the commands that give the two captures
  abbrev pub in_two_parts : ℕ → Command A → Command A → List (Command A)
  in_two_parts session first second =
      enabling session ∷ restarting session ∷ first ∷ restarting session ∷ second ∷ restarting session ∷ []

  -- the commands that give the one capture
  abbrev pub in_one : ℕ → Command A → Command A → List (Command A)
  in_one session first second =
      enabling session ∷ restarting session ∷ first ∷ capturing session ∷ second ∷ capturing session
      ∷ capturing session ∷ []

  -- ---- commands that are accepted, the oldest event first

  module _ (h : List (Event A)) (x : Command A) (r : Reply A) (commands : List (Command A)) (legal : IsLegal (h ++ event_by 0 x r ∷ [])) where
    -- those after the first
    pub later-accepted : AreAccepted h (x ∷ commands) → AreAccepted (h ++ event_by 0 x r ∷ []) commands
    unfolding AreAccepted
    later-accepted all = subst (λ t. AreAccepted (h ++ event_by 0 x t ∷ []) commands) (sym (was-answered h 0 x r legal)) all.2

    -- one before them
    pub first-accepted : AreAccepted h (x ∷ []) → AreAccepted (h ++ event_by 0 x r ∷ []) commands → AreAccepted h (x ∷ commands)
    unfolding AreAccepted
    first-accepted first others = (first.0, first.1, subst (λ t. AreAccepted (h ++ event_by 0 x t ∷ []) commands) (was-answered h 0 x r legal) others)

  -- the first
  pub is-accepted : (h : List (Event A)) (x : Command A) (commands : List (Command A)) → AreAccepted h (x ∷ commands) → is_accepted (reply_of h x) ≡ true
  unfolding AreAccepted
  is-accepted h x commands all = all.1

  pub room-for : (h : List (Event A)) (x : Command A) (commands : List (Command A)) → AreAccepted h (x ∷ commands) → HasRoom (length h)
  unfolding AreAccepted
  room-for h x commands all = all.0

  pub one-of : (h : List (Event A)) (x : Command A) (commands : List (Command A)) → AreAccepted h (x ∷ commands) → AreAccepted h (x ∷ [])
  unfolding AreAccepted
  one-of h x commands all = (all.0, all.1, tt)

  -- the first two
  pub two-of : (h : List (Event A)) (x y : Command A) (commands : List (Command A)) → AreAccepted h (x ∷ y ∷ commands) → AreAccepted h (x ∷ y ∷ [])
  unfolding AreAccepted
  two-of h x y commands all = (all.0, all.1, (all.2.0, all.2.1, tt))

  module _ (h : List (Event A)) (x y : Command A) (r s : Reply A) (commands : List (Command A)) (legal : IsLegal ((h ++ event_by 0 x r ∷ []) ++ event_by 0 y s ∷ [])) where
    before : IsLegal (h ++ event_by 0 x r ∷ [])
    before = was-legal (h ++ event_by 0 x r ∷ []) 0 y s legal

    -- those after the first two
    pub after-two : AreAccepted h (x ∷ y ∷ commands) → AreAccepted ((h ++ event_by 0 x r ∷ []) ++ event_by 0 y s ∷ []) commands
    after-two all = later-accepted (h ++ event_by 0 x r ∷ []) y s commands legal (later-accepted h x r (y ∷ commands) before all)

    -- two before them
    pub with-two : AreAccepted h (x ∷ y ∷ []) → AreAccepted ((h ++ event_by 0 x r ∷ []) ++ event_by 0 y s ∷ []) commands → AreAccepted h (x ∷ y ∷ commands)
    with-two both others =
        first-accepted h x r (y ∷ commands) before (one-of h x (y ∷ []) both)
        (first-accepted (h ++ event_by 0 x r ∷ []) y s commands legal (later-accepted h x r (y ∷ []) before both) others)

  -- one alone
  pub alone-accepted : (h : List (Event A)) (x : Command A) (r : Reply A) → IsLegal (h ++ event_by 0 x r ∷ []) → HasRoom (length h) → is_accepted r ≡ true → AreAccepted h (x ∷ [])
  unfolding AreAccepted
  alone-accepted h x r legal room accepted = (room, ap is_accepted (sym (was-answered h 0 x r legal)) ∙ accepted, tt)

  -- ---- replies that are no refusals

  was-made : (now : State A) (result : Result (OutcomeState A) RefusedAt) → is_accepted (write_reply now (made result)) ≡ true → (version : ℕ) × (write_reply now (made result) ≡ reply.Written version)
  was-made now (Ok outcome) accepted = (now.version + 1, refl)
  was-made now (Err why) accepted = absurd (let is : false ≡ true = accepted in cc)

  was-written : (now : State A) (why : Option Refusal) (ops : List (Op A)) → is_accepted (write_reply now (commit_unless why now.main ops)) ≡ true
      → (version : ℕ) × (write_reply now (commit_unless why now.main ops) ≡ reply.Written version)
  was-written now None ops accepted = was-made now (run now.main ops) accepted
  was-written now (Some why) ops accepted = absurd (let is : false ≡ true = accepted in cc)

  -- an accepted commit writes
  pub writes : (now : State A) (batch : BatchState A) → is_accepted (answer now (Commit batch)) ≡ true → (version : ℕ) × (answer now (Commit batch) ≡ reply.Written version)
  writes now batch accepted = was-written now (stale batch.base batch.reads (snapshot_of now)) batch.ops accepted

  was-found : (found : Option (SessionState A)) (reply : SessionState A → Reply A) → is_accepted (session_answer found reply) ≡ true → is_some found ≡ true
  was-found None reply accepted = accepted
  was-found (Some session) reply accepted = refl

  replied-by : (found : Option (SessionState A)) (reply : SessionState A → Reply A) → is_some found ≡ true → (session : SessionState A) × (session_answer found reply ≡ reply session)
  replied-by None reply there = absurd (let is : false ≡ true = there in cc)
  replied-by (Some session) reply there = (session, refl)

  module _ (now : State A) (session : ℕ) where
    abbrev pub is_there : Bool
    is_there = is_some (session_numbered now.sessions session)

    pub there-captured : is_accepted (answer now (capturing session)) ≡ true → is_there ≡ true
    there-captured accepted = was-found (session_numbered now.sessions session) (session_reply now Capture) accepted

    pub there-restarted : is_accepted (answer now (restarting session)) ≡ true → is_there ≡ true
    there-restarted accepted = was-found (session_numbered now.sessions session) (session_reply now (Change Restart)) accepted

    pub there-enabled : is_accepted (answer now (enabling session)) ≡ true → is_there ≡ true
    there-enabled accepted = was-found (session_numbered now.sessions session) (session_reply now (Change (Enable (Some true)))) accepted

    -- the replies of a session that is there
    module _ (there : is_there ≡ true) where
      pub captures : (capture : CaptureState A) × (answer now (capturing session) ≡ reply.Capture capture)
      captures = let found = replied-by (session_numbered now.sessions session) (session_reply now Capture) there in (record { version = now.version; changes = session_changes now.main found.0 }, found.1)

      pub restarts : (capture : CaptureState A) × (answer now (restarting session) ≡ reply.Capture capture)
      restarts = let found = replied-by (session_numbered now.sessions session) (session_reply now (Change Restart)) there in (record { version = now.version; changes = session_changes now.main found.0 }, found.1)

      pub enables : answer now (enabling session) ≡ reply.Flag true
      enables = (replied-by (session_numbered now.sessions session) (session_reply now (Change (Enable (Some true)))) there).1

  -- the same after a history
  module _ (h : List (Event A)) (session : ℕ) where
    one-capture : is_accepted (reply_of h (capturing session)) ≡ true → (capture : CaptureState A) × (reply_of h (capturing session) ≡ reply.Capture capture)
    unfolding reply_of
    one-capture accepted = captures (state h) session (there-captured (state h) session accepted)

    one-restart : is_accepted (reply_of h (restarting session)) ≡ true → (capture : CaptureState A) × (reply_of h (restarting session) ≡ reply.Capture capture)
    unfolding reply_of
    one-restart accepted = restarts (state h) session (there-restarted (state h) session accepted)

    by-capture : (command : Command A) → (command ≡ capturing session) ⊎ (command ≡ restarting session) → is_accepted (reply_of h command) ≡ true
        → (capture : CaptureState A) × (reply_of h command ≡ reply.Capture capture)
    by-capture command (inl is) = subst (λ (c : Command A). is_accepted (reply_of h c) ≡ true → (capture : CaptureState A) × (reply_of h c ≡ reply.Capture capture)) (sym is) one-capture
    by-capture command (inr is) = subst (λ (c : Command A). is_accepted (reply_of h c) ≡ true → (capture : CaptureState A) × (reply_of h c ≡ reply.Capture capture)) (sym is) one-restart

    pub a-flag : is_accepted (reply_of h (enabling session)) ≡ true → reply_of h (enabling session) ≡ reply.Flag true
    unfolding reply_of
    a-flag accepted = enables (state h) session (there-enabled (state h) session accepted)

  a-written : (h : List (Event A)) (batch : BatchState A) → is_accepted (reply_of h (Commit batch)) ≡ true → (version : ℕ) × (reply_of h (Commit batch) ≡ reply.Written version)
  unfolding reply_of
  a-written h batch accepted = writes (state h) batch accepted

  pub a-capture : (h : List (Event A)) (command : Command A) → IsCapture command → is_accepted (reply_of h command) ≡ true → (capture : CaptureState A) × (reply_of h command ≡ reply.Capture capture)
  a-capture h command (session, is) = by-capture h session command is

  pub a-commit : (h : List (Event A)) (commit : Command A) → IsCommit commit → is_accepted (reply_of h commit) ≡ true → (version : ℕ) × (reply_of h commit ≡ reply.Written version)
  a-commit h commit (batch, is) =
      subst (λ command. is_accepted (reply_of h command) ≡ true → (version : ℕ) × (reply_of h command ≡ reply.Written version)) (sym is) (a-written h batch)

  -- ---- a session that is there stays

  found-alike : (f g : ℕ → SessionState A) (number : ℕ) (numbers : List ℕ)
      → is_some (lookup (nat_eq number) (map (λ k. (k, f k)) numbers)) ≡ is_some (lookup (nat_eq number) (map (λ k. (k, g k)) numbers))
  found-alike f g number [] = refl
  found-alike f g number (k ∷ numbers) =
      elim (nat_eq number k) as (λ b. is_some (cond b (Some (f k)) (lookup (nat_eq number) (map (λ j. (j, f j)) numbers))) ≡ is_some (cond b (Some (g k)) (lookup (nat_eq number) (map (λ j. (j, g j)) numbers)))) [
        | true ↦ refl
        | false ↦ found-alike f g number numbers
      ]

  still-there : (past later : Past A) (session : ℕ) → live_sessions later ≡ live_sessions past → is_there (state_after past) session ≡ true → is_there (state_after later) session ≡ true
  still-there past later session same there =
      ap (λ numbers. is_some (lookup (nat_eq session) (map (λ k. (k, session_of later k)) numbers))) same ∙ found-alike (session_of later) (session_of past) session (live_sessions past) ∙ there

  told-none : (b : Bool) (command : SessionCommand A) → deletes (Some command) ≡ false → deletes (cond b (Some command) None) ≡ false
  told-none true command is = is
  told-none false command is = refl

  no-drop : (number k : ℕ) (command : SessionCommand A) (r : Reply A) → deletes (Some command) ≡ false → (is_accepted r && deletes (cond (nat_eq number k) (Some command) None)) ≡ false
  no-drop number k command r none = ap (λ d. is_accepted r && d) (told-none (nat_eq number k) command none) ∙ and_false (is_accepted r)

  -- all sessions stay after a command to one that does not delete it
  all-stay : (past : Past A) (number : ℕ) (command : SessionCommand A) (r : Reply A) → deletes (Some command) ≡ false → live_sessions (event_by 0 (Session number command) r ∷ past) ≡ live_sessions past
  all-stay past number command r none =
      λ i. filter (λ k. not (no-drop number k command r none i || is_dropped past k)) (range_with_len 1 (ap (λ b. cond b (sessions_made past + 1) (sessions_made past)) (and_false (is_accepted r)) i))

  -- ---- commands after a past, the newest event first

  abbrev AfterPast : Past A → List (Command A) → Type 0
  AfterPast past [] = Unit {0}
  AfterPast past (command ∷ commands) =
      HasRoom (length past) × (is_accepted (answer (state_after past) command) ≡ true) × AfterPast (event_by 0 command (answer (state_after past) command) ∷ past) commands

  of-past : (h : List (Event A)) (commands : List (Command A)) → AfterPast (reverse h) commands → AreAccepted h commands
  unfolding AreAccepted reply_of state
  of-past h [] all = tt
  of-past h (command ∷ commands) all =
      let event : Event A = event_by 0 command (answer (state_after (reverse h)) command) in
      (subst HasRoom (length-reverse h) all.0, all.1, of-past (h ++ event ∷ []) commands (subst (λ p. AfterPast p commands) (sym (reverse-append h (event ∷ []))) all.2))

  to-past : (h : List (Event A)) (commands : List (Command A)) → AreAccepted h commands → AfterPast (reverse h) commands
  unfolding AreAccepted reply_of state
  to-past h [] all = tt
  to-past h (command ∷ commands) all =
      let event : Event A = event_by 0 command (answer (state_after (reverse h)) command) in
      (subst HasRoom (sym (length-reverse h)) all.0, all.1, subst (λ p. AfterPast p commands) (reverse-append h (event ∷ [])) (to-past (h ++ event ∷ []) commands all.2))

  module _ (past : Past A) (command : Command A) (r : Reply A) (is : answer (state_after past) command ≡ r) (commands : List (Command A)) where
    one-more : HasRoom (length past) → is_accepted r ≡ true → AfterPast (event_by 0 command r ∷ past) commands → AfterPast past (command ∷ commands)
    one-more room accepted others = (room, ap is_accepted is ∙ accepted, subst (λ s. AfterPast (event_by 0 command s ∷ past) commands) (sym is) others)

    one-less : AfterPast past (command ∷ commands) → AfterPast (event_by 0 command r ∷ past) commands
    one-less all = subst (λ s. AfterPast (event_by 0 command s ∷ past) commands) is all.2

  module _ (past : Past A) (session : ℕ) (first second : BatchState A) (there : is_there (state_after past) session ≡ true) where
    abbrev a : Event A
    a = event_by 0 (enabling session) (reply.Flag true)

    abbrev restarted : CaptureState A → Event A
    restarted capture = event_by 0 (restarting session) (reply.Capture capture)

    abbrev captured : CaptureState A → Event A
    captured capture = event_by 0 (capturing session) (reply.Capture capture)

    abbrev c : ℕ → Event A
    c v = event_by 0 (Commit first) (reply.Written v)

    abbrev e : ℕ → Event A
    e w = event_by 0 (Commit second) (reply.Written w)

    old : (capture : CaptureState A) × (answer (state_after (a ∷ past)) (restarting session) ≡ reply.Capture capture)
    old = restarts (state_after (a ∷ past)) session (still-there past (a ∷ past) session (all-stay past session (Change (Enable (Some true))) (reply.Flag true) refl) there)

    -- the session is enabled and restarted
    abbrev start : Past A
    start = restarted old.0 ∷ a ∷ past

    at-start : live_sessions start ≡ live_sessions past
    at-start = all-stay (a ∷ past) session (Change Restart) (reply.Capture old.0) refl ∙ all-stay past session (Change (Enable (Some true))) (reply.Flag true) refl

    begun : HasRoom (length (a ∷ past)) → (commands : List (Command A)) → AfterPast start commands → AfterPast past (enabling session ∷ restarting session ∷ commands)
    begun room commands others =
        one-more past (enabling session) (reply.Flag true) (enables (state_after past) session there) (restarting session ∷ commands) (omega arith) refl
        (one-more (a ∷ past) (restarting session) (reply.Capture old.0) old.1 commands room refl others)

    from-start : (commands : List (Command A)) → AfterPast past (enabling session ∷ restarting session ∷ commands) → AfterPast start commands
    from-start commands all =
        one-less (a ∷ past) (restarting session) (reply.Capture old.0) old.1 commands
        (one-less past (enabling session) (reply.Flag true) (enables (state_after past) session there) (restarting session ∷ commands) all)

    module _ (v : ℕ) (one : answer (state_after past) (Commit first) ≡ reply.Written v) where
      part : (capture : CaptureState A) × (answer (state_after (c v ∷ start)) (restarting session) ≡ reply.Capture capture)
      part = restarts (state_after (c v ∷ start)) session (still-there past (c v ∷ start) session at-start there)

      module _ (w : ℕ) (two : answer (state_after (c v ∷ past)) (Commit second) ≡ reply.Written w) (room : length past + 7 < 2 ^ 63) where
        parts-accepted : AfterPast past (in_two_parts session (Commit first) (Commit second))
        parts-accepted =
            let middle = restarted part.0 ∷ c v ∷ start in
            let last = restarts (state_after (e w ∷ middle)) session (still-there past (e w ∷ middle) session (all-stay (c v ∷ start) session (Change Restart) (reply.Capture part.0) refl ∙ at-start) there) in
            begun (omega arith) (Commit first ∷ restarting session ∷ Commit second ∷ restarting session ∷ [])
            (one-more start (Commit first) (reply.Written v) one (restarting session ∷ Commit second ∷ restarting session ∷ []) (omega arith) refl
            (one-more (c v ∷ start) (restarting session) (reply.Capture part.0) part.1 (Commit second ∷ restarting session ∷ []) (omega arith) refl
            (one-more middle (Commit second) (reply.Written w) two (restarting session ∷ []) (omega arith) refl
            (one-more (e w ∷ middle) (restarting session) (reply.Capture last.0) last.1 [] (omega arith) refl tt))))

        one-accepted : AfterPast past (in_one session (Commit first) (Commit second))
        one-accepted =
            let half = captures (state_after (c v ∷ start)) session (still-there past (c v ∷ start) session at-start there) in
            let middle = captured half.0 ∷ c v ∷ start in
            let stays : live_sessions middle ≡ live_sessions past = all-stay (c v ∷ start) session Capture (reply.Capture half.0) refl ∙ at-start in
            let more = captures (state_after (e w ∷ middle)) session (still-there past (e w ∷ middle) session stays there) in
            let last = captures (state_after (captured more.0 ∷ e w ∷ middle)) session (still-there past (captured more.0 ∷ e w ∷ middle) session (all-stay (e w ∷ middle) session Capture (reply.Capture more.0) refl ∙ stays) there) in
            begun (omega arith) (Commit first ∷ capturing session ∷ Commit second ∷ capturing session ∷ capturing session ∷ [])
            (one-more start (Commit first) (reply.Written v) one (capturing session ∷ Commit second ∷ capturing session ∷ capturing session ∷ []) (omega arith) refl
            (one-more (c v ∷ start) (capturing session) (reply.Capture half.0) half.1 (Commit second ∷ capturing session ∷ capturing session ∷ []) (omega arith) refl
            (one-more middle (Commit second) (reply.Written w) two (capturing session ∷ capturing session ∷ []) (omega arith) refl
            (one-more (e w ∷ middle) (capturing session) (reply.Capture more.0) more.1 (capturing session ∷ []) (omega arith) refl
            (one-more (captured more.0 ∷ e w ∷ middle) (capturing session) (reply.Capture last.0) last.1 [] (omega arith) refl tt)))))

      second-accepted : AfterPast past (in_two_parts session (Commit first) (Commit second)) → is_accepted (answer (state_after (c v ∷ past)) (Commit second)) ≡ true
      second-accepted all =
          (one-less (c v ∷ start) (restarting session) (reply.Capture part.0) part.1 (Commit second ∷ restarting session ∷ [])
          (one-less start (Commit first) (reply.Written v) one (restarting session ∷ Commit second ∷ restarting session ∷ [])
          (from-start (Commit first ∷ restarting session ∷ Commit second ∷ restarting session ∷ []) all))).1

    first-is-accepted : AfterPast past (in_two_parts session (Commit first) (Commit second)) → is_accepted (answer (state_after past) (Commit first)) ≡ true
    first-is-accepted all = (from-start (Commit first ∷ restarting session ∷ Commit second ∷ restarting session ∷ []) all).1

  -- ---- the same of a history

  -- the reply to a command after one more event
  after-event : (h : List (Event A)) (command other : Command A) (r : Reply A) → reply_of h command ≡ r
      → reply_of (h ++ event_by 0 command (reply_of h command) ∷ []) other ≡ answer (state_after (event_by 0 command r ∷ reverse h)) other
  unfolding reply_of state
  after-event h command other r is =
      ap (λ p. answer (state_after p) other) (reverse-append h (event_by 0 command (reply_of h command) ∷ []) ∙ ap (λ s. event_by 0 command s ∷ reverse h) is)

  module _ (h : List (Event A)) (session : ℕ) (first second : BatchState A) where
    both-accepted : CanBeInParts h session (Commit first) (Commit second)
        → AreAccepted h (in_two_parts session (Commit first) (Commit second)) × AreAccepted h (in_one session (Commit first) (Commit second))
    unfolding reply_of state
    both-accepted can =
        let past = reverse h in
        let one = writes (state_after past) first can.first_accepted in
        let two = writes (state_after (event_by 0 (Commit first) (reply.Written one.0) ∷ past)) second (ap is_accepted (sym (after-event h (Commit first) (Commit second) (reply.Written one.0) one.1)) ∙ can.second_accepted) in
        let room : length past + 7 < 2 ^ 63 = let same = length-reverse h in let few = can.room in omega arith in (
          of-past h (in_two_parts session (Commit first) (Commit second)) (parts-accepted past session first second can.live one.0 one.1 two.0 two.1 room),
          of-past h (in_one session (Commit first) (Commit second)) (one-accepted past session first second can.live one.0 one.1 two.0 two.1 room),
        )

    can-from : AreAccepted h (in_two_parts session (Commit first) (Commit second)) → AreAccepted h (in_one session (Commit first) (Commit second)) → CanBeInParts h session (Commit first) (Commit second)
    unfolding reply_of state
    can-from parts whole =
        let past = reverse h in
        let all = to-past h (in_two_parts session (Commit first) (Commit second)) parts in
        let there = there-enabled (state_after past) session all.1 in
        let accepted = first-is-accepted past session first second there all in
        let one = writes (state_after past) first accepted in
        let last = (to-past h (in_one session (Commit first) (Commit second)) whole).2.2.2.2.2.2.0 in
        record {
          live = there;
          commits = ((first, refl), (second, refl));
          first_accepted = accepted;
          second_accepted = ap is_accepted (after-event h (Commit first) (Commit second) (reply.Written one.0) one.1) ∙ second-accepted past session first second there one.0 one.1 all;
          room = let same = length-reverse h in omega arith;
        }

  abbrev Both : List (Event A) → ℕ → Command A → Command A → Type 0
  Both h session first second = AreAccepted h (in_two_parts session first second) × AreAccepted h (in_one session first second)

  -- all commands are accepted
  pub all-accepted : (h : List (Event A)) (session : ℕ) (first second : Command A) → CanBeInParts h session first second → Both h session first second
  all-accepted h session first second can =
      let (one, is) = can.commits.0 in
      let (two, is') = can.commits.1 in
      subst (λ x. CanBeInParts h session x second → Both h session x second) (sym is)
      (subst (λ y. CanBeInParts h session (Commit one) y → Both h session (Commit one) y) (sym is') (both-accepted h session one two)) can

  -- and where they are, the parts can be had
  pub can-be : (h : List (Event A)) (session : ℕ) (first second : Command A) → IsCommit first → IsCommit second → Both h session first second → CanBeInParts h session first second
  can-be h session first second (one, is) (two, is') =
      subst (λ x. Both h session x second → CanBeInParts h session x second) (sym is)
      (subst (λ y. Both h session (Commit one) y → CanBeInParts h session (Commit one) y) (sym is') (λ both. can-from h session one two both.0 both.1))
