-- The state after one more event is what its command makes of the state before.
use Rattle.std.proofs.lemmas.List.{length-reverse, map-append, reverse-append}
use Rattle.std.proofs.Common.{◌≡◌, ℕ, ◌+◌, ◌<◌, Bool, true, false, cond, Option, Some, None, Ok, Err, List, [], ◌∷◌, ◌++◌, ◌&&◌, ◌||◌, not, map, length, refl, sym, ap, ap₂, subst, ◌∙◌, arith, nat_eq, add-one, Result}
use Rattle.std.specs.Prelude.{filter, reverse, IfSome}
use Rattle.std.specs.List.{range_with_len}
use Rattle.std.specs.Option.{unwrap_or}
use Rattle.cap_value.specs.Bytes.{bytes_cmp}
use Rattle.cap_value.specs.declared.refusal.Refusal.{Refusal}
use Rattle.cap_value.specs.declared.refusal.Refusal.TheVariants.{NoDatabase, NoSession, TooMany}
use Rattle.cap_tree.specs.Tree.{put_entry, take_entry}
use Rattle.cap_database.specs.Tables.{Tables}
use Rattle.cap_session.specs.Recording.{record_commit}
use Rattle.cap_session.specs.Session.{SessionState, new_session}
use Rattle.cap_session.specs.Sessions.{session_numbered, with_session}
use Rattle.cap_core.specs.declared.event.Event.{Event}
use Rattle.cap_core.specs.declared.command.Command.{Command}
use Rattle.cap_core.specs.declared.command.Command.TheVariants as command
use Rattle.cap_core.specs.declared.session_command.SessionCommand.{SessionCommand}
use Rattle.cap_core.specs.declared.session_command.SessionCommand.TheVariants.{Change, Delete, Diff}
use Rattle.cap_core.specs.declared.reply.Reply.{Reply}
use Rattle.cap_core.specs.declared.reply.Reply.TheVariants.{Done, Refused, Session as SessionMade}
use Rattle.cap_core.specs.Answer.{IsLegal, IsLegalPast, State, answer, event_by, refusal, reply_of, session_answer, session_reply, state, state_after, version_reply, write_reply, diffed}
use Rattle.cap_core.specs.Flags.{changes_shown, command_to, deletes, is_dropped, is_quiet, live_sessions, makes_session, quiet_sessions, sessions_made}
use Rattle.cap_core.specs.History.{Databases, effect_of, event_effect, is_write, main, saved, saved_after, snapshot, version}
use Rattle.cap_core.specs.Outcome.{Effect, no_effect, outcome, Refused as Why, made}
use Rattle.cap_core.specs.Past.{Past, is_accepted}
use Rattle.cap_core.specs.Session.{session_of, sessions}
use Rattle.cap_core.specs.Transition.{after_write, next, one_more, session_left, with_left, with_sessions, written}
use Rattle.cap_core.proofs.HistoryLemmas.{map-both}
use Rattle.cap_core.proofs.SessionLemmas.{effect-refused, effect-told, record_commit-new, session-apart, session-elsewhere, session-refused, shown-recorded}
use Rattle.cap_core.proofs.NumberLemmas.{lookup-beyond, lookup-passing, numbered, passing, passing-push, with-passing, without-passing}
use Rattle.cap_core.proofs.ChangeLemmas.{change-accepted}
use Rattle.cap_core.proofs.FlagLemmas.{session-here}
use Rattle.cap_core.proofs.ToldLemmas.{is_told, to_itself, to_others}
use Rattle.cap_core.proofs.SoundLemmas.{with_same}
use Rattle.std.specs.Result.{result_err}
use Rattle.cap_value.specs.declared.memory.Fault.{Fault}
use Rattle.cap_compare.specs.declared.difference.Difference.{Difference}
use Rattle.cap_table.specs.Table.{TableState}
use Rattle.cap_database.specs.Operation.{run}
use Rattle.cap_database.specs.declared.op.Op.{Op}
use Rattle.cap_database.proofs.StepLemmas.{refused_act_is}
use Rattle.cap_core.specs.Code.CommandOutcome.{Reports}
use Rattle.cap_core.specs.RefusedFirst.{RepliesFirst, refusal_in, refused_first, refused_op, whole}

module _ {A : Type 0} where
  same_state : (s t : State A) → s.events ≡ t.events → s.main ≡ t.main → s.version ≡ t.version → s.saved ≡ t.saved → s.sessions_made ≡ t.sessions_made → s.sessions ≡ t.sessions → s ≡ t
  same_state s t e m v d n k = λ i. record { events = e i; main = m i; version = v i; saved = d i; sessions_made = n i; sessions = k i }

  abbrev is_live : Past A → ℕ → Bool
  is_live past number = not (is_dropped past number)

  -- ---- a session that is not made yet

  unknown-refused : (s : State A) (number : ℕ) → session_numbered s.sessions number ≡ None → (c : Command A) (told : SessionCommand A) → command_to number c ≡ Some told → is_accepted (answer s c) ≡ false
  unknown-refused s number none c told is =
      ap (λ c. is_accepted (answer s c)) (is_told number c told is) ∙ ap (λ found. is_accepted (session_answer found (session_reply s told))) none

  unknown-stays : (s : State A) (number : ℕ) → session_numbered s.sessions number ≡ None → (c : Command A) → (is_accepted (answer s c) && deletes (command_to number c)) ≡ false
  unknown-stays s number none c = grind (arith, unknown-refused s number none c)

  not_made : (past : Past A) (number : ℕ) → IsLegalPast past → sessions_made past < number → (session_of past number ≡ new_session) × (is_dropped past number ≡ false)
  not_made [] number legal lt = (refl, refl)
  not_made (event ∷ past) number legal lt =
      let before : sessions_made past < number = grind arith in
      let known = not_made past number legal.1 before in
      let none = lookup-beyond (is_live past) (session_of past) 1 (sessions_made past) number (omega arith) in
      let changes = changes_shown number event.command (event_effect (snapshot past) event).changes in (
        elim (command_to number event.command) as (λ o. command_to number event.command ≡ o → session_of (event ∷ past) number ≡ new_session) [
          | Some told ↦ λ is. session-refused number event past (ap is_accepted legal.0 ∙ unknown-refused (state_after past) number none event.command told is) ∙ known.0
          | None ↦ λ apart. session-elsewhere number event past apart ∙ ap (record_commit changes) known.0 ∙ record_commit-new changes
        ] refl,
        ap (λ reply. (is_accepted reply && deletes (command_to number event.command)) || is_dropped past number) legal.0
            ∙ ap₂ (λ a b. a || b) (unknown-stays (state_after past) number none event.command) known.1,
      )

  -- ---- commands that change no session

  pub after_refusal : (event : Event A) (past : Past A) → is_accepted event.reply ≡ false → one_more (state_after past) ≡ state_after (event ∷ past)
  after_refusal event past refused =
      same_state _ _ (add-one (length past))
      (sym (ap (λ e. e.database) (effect-refused event (snapshot past) refused)))
      (sym (ap (λ b. cond (b && is_write event.command) (version past + 1) (version past)) refused))
      (sym (ap (λ b. cond b (saved_after event.command (main past) (saved past)) (saved past)) refused))
      (sym (ap (λ b. cond (b && makes_session event.command) (sessions_made past + 1) (sessions_made past)) refused))
      (sym (λ i.
      map (λ number. (number, session-refused number event past refused i))
      (filter (λ number. not ((refused i && deletes (command_to number event.command)) || is_dropped past number)) (range_with_len 1 (cond (refused i && makes_session event.command) (sessions_made past + 1) (sessions_made past))))))

  sessions-still : (event : Event A) (past : Past A) → ((number : ℕ) → command_to number event.command ≡ None) → (event_effect (snapshot past) event).changes ≡ []
      → sessions past ≡ numbered (session_of (event ∷ past)) (live_sessions past)
  sessions-still event past apart none =
      sym (λ i. map (λ number. (number, session-apart number event past (apart number) none i)) (live_sessions past))

  -- ---- commands that write

  -- a command that writes and says nothing to a session
  record IsWrite (c : Command A) : Type 0 where
    writes : is_write c ≡ true
    makes : makes_session c ≡ false
    saves : (tables : Tables A) (databases : Databases A) → saved_after c tables databases ≡ databases
    apart : (number : ℕ) → command_to number c ≡ None

  next-written : (past : Past A) (event : Event A) (effect : Effect A) → IsWrite event.command → is_accepted event.reply ≡ true → outcome (snapshot past) event.command ≡ Ok effect
      → written (state_after past) effect.database effect.changes (quiet_sessions event.command) ≡ state_after (event ∷ past)
  next-written past event effect write accepted is =
      let effected : event_effect (snapshot past) event ≡ effect = λ i. cond (accepted i) (effect_of (main past) (is i)) (no_effect (main past)) in
      let recorded : (number : ℕ) → cond (is_quiet number event.command) (session_of past number) (record_commit effect.changes (session_of past number)) ≡ session_of (event ∷ past) number =
      λ number. shown-recorded effect.changes (is_quiet number event.command) (session_of past number)
      ∙ sym (session-elsewhere number event past (write.apart number) ∙ ap (λ e. record_commit (changes_shown number event.command e.changes) (session_of past number)) effected) in
      let made : sessions_made (event ∷ past) ≡ sessions_made past = λ i. cond (accepted i && write.makes i) (sessions_made past + 1) (sessions_made past) in
      let live : live_sessions (event ∷ past) ≡ live_sessions past = λ i. filter (λ number. not ((accepted i && deletes (write.apart number i)) || is_dropped past number)) (range_with_len 1 (made i)) in
      same_state _ _ (add-one (length past))
      (sym (ap (λ e. e.database) effected))
      (sym (λ i. cond (accepted i && write.writes i) (version past + 1) (version past)))
      (sym (λ i. cond (accepted i) (write.saves (main past) (saved past) i) (saved past)))
      (sym made)
      (map-both (λ session. (session.0, cond (is_quiet session.0 event.command) session.1 (record_commit effect.changes session.1))) (λ number. (number, session_of past number))
      (λ number. (number, session_of (event ∷ past) number)) (λ number. ap (λ session. (number, session)) (recorded number)) (live_sessions past)
      ∙ ap (numbered (session_of (event ∷ past))) (sym live))

  next-write : (past : Past A) (by : ℕ) (c : Command A) → IsWrite c
      → after_write (state_after past) (quiet_sessions c) (outcome (snapshot past) c) ≡ state_after (event_by by c (write_reply (state_after past) (outcome (snapshot past) c)) ∷ past)
  next-write past by c write =
      elim (outcome (snapshot past) c) as (λ r. outcome (snapshot past) c ≡ r → after_write (state_after past) (quiet_sessions c) r ≡ state_after (event_by by c (write_reply (state_after past) r) ∷ past)) [
        | Err why ↦ λ is. after_refusal (event_by by c (Refused why.0 why.1)) past refl
        | Ok effect ↦ λ is. next-written past (event_by by c (version_reply (version past + 1) effect.report)) effect write (grind arith) is
      ] refl

  -- ---- one session

  -- a command to one session leaves the others as they are
  others-stay : (past : Past A) (event : Event A) (number : ℕ) (told : SessionCommand A) → event.command ≡ command.Session number told → (other : ℕ) → (other ≡ number → ⊥) → session_of (event ∷ past) other ≡ session_of past other
  others-stay past event number told is other apart =
      session-apart other event past (ap (command_to other) is ∙ to_others other number told apart) (ap (λ e. e.changes) (effect-told past event number told is))

  -- a session that is there and goes on
  leaves-left : (past : Past A) (by number : ℕ) (told : SessionCommand A) → deletes (Some told) ≡ false → (session left : SessionState A) → session_numbered (sessions past) number ≡ Some session
      → session_left (main past) (saved past) told session ≡ Some left → (reply : Reply A) → is_accepted reply ≡ true
      → with_sessions (state_after past) (with_session (sessions past) number left) ≡ state_after (event_by by (command.Session number told) reply ∷ past)
  leaves-left past by number told stays session left is goes reply accepted =
      let event : Event A = event_by by (command.Session number told) reply in
      let found = lookup-passing (is_live past) (session_of past) 1 (sessions_made past) number session is in
      let kept : (j : ℕ) → deletes (command_to j (command.Session number told)) ≡ false =
      λ j. elim (nat_eq number j) as (λ b. deletes (cond b (Some told) None) ≡ false) [ true ↦ stays | false ↦ refl ] in
      let made : sessions_made (event ∷ past) ≡ sessions_made past = λ i. cond (accepted i && false) (sessions_made past + 1) (sessions_made past) in
      let live : live_sessions (event ∷ past) ≡ live_sessions past = λ i. filter (λ j. not ((accepted i && kept j i) || is_dropped past j)) (range_with_len 1 (made i)) in
      let changed : left ≡ session_of (event ∷ past) number =
      ap (λ o. unwrap_or o (session_of past number)) (sym goes ∙ ap (session_left (main past) (saved past) told) found.1) ∙ sym (session-here past by number told reply accepted) in
      same_state _ _ (add-one (length past))
      (sym (λ i. (cond (accepted i) (no_effect (main past)) (no_effect (main past))).database))
      (sym (λ i. cond (accepted i && false) (version past + 1) (version past)))
      (sym (λ i. cond (accepted i) (saved past) (saved past)))
      (sym made)
      (with-passing (is_live past) (session_of past) (session_of (event ∷ past)) 1 (sessions_made past) number left changed (λ j other. sym (others-stay past event number told refl j other))
      ∙ ap (numbered (session_of (event ∷ past))) (sym live))

  -- a command that a session refuses leaves it as it is
  pub refused-left : (s : State A) (told : SessionCommand A) (session : SessionState A) → is_accepted (session_reply s told session) ≡ false → session_left s.main s.saved told session ≡ Some session
  refused-left s (Change change) session is = let clash : true ≡ false = sym (change-accepted change s.version s.main session) ∙ is in cc
  refused-left s (Diff from name) session is = grind arith
  refused-left s _ session is = cc

  -- what a command to a session leaves where it is there
  leaves : (past : Past A) (by number : ℕ) (told : SessionCommand A) (session : SessionState A) → session_numbered (sessions past) number ≡ Some session
      → with_sessions (state_after past) (with_left (sessions past) number (session_left (main past) (saved past) told session)) ≡ state_after (event_by by (command.Session number told) (session_reply (state_after past) told session) ∷ past)
  leaves past by number Delete session is =
      let event : Event A = event_by by (command.Session number Delete) Done in
      same_state _ _ (add-one (length past)) refl refl refl refl
      (without-passing (is_live past) (is_live (event ∷ past)) (session_of past) (session_of (event ∷ past)) 1 (sessions_made past) number
      (ap (λ told. not (deletes told || is_dropped past number)) (to_itself number Delete))
      (λ j apart. (sym (others-stay past event number Delete refl j apart), sym (ap (λ told. not (deletes told || is_dropped past j)) (to_others j number Delete apart)))))
  leaves past by number told session is =
      let s = state_after past in
      let reply = session_reply s told session in
      let left = unwrap_or (session_left (main past) (saved past) told session) session in
      let refused = after_refusal (event_by by (command.Session number told) reply) past in
      grind (arith, leaves-left past by number told refl session left is refl reply, refused-left s told session, with_same number (sessions past) session is)

  -- ---- any command

  -- one that is not named only asks
  pub next-is : (past : Past A) (by : ℕ) (c : Command A) → IsLegalPast past → next (state_after past) c ≡ state_after (event_by by c (answer (state_after past) c) ∷ past)
  next-is past by (command.CreateTable name schema) legal = next-write past by (command.CreateTable name schema) (record { writes = refl; makes = refl; saves = λ _ _. refl; apart = λ _. refl })
  next-is past by (command.Commit batch) legal = next-write past by (command.Commit batch) (record { writes = refl; makes = refl; saves = λ _ _. refl; apart = λ _. refl })
  next-is past by (command.Apply blob policy quiet) legal =
      let c : Command A = command.Apply blob policy quiet in
      grind (arith, next-write past by c (record { writes = refl; makes = refl; saves = λ _ _. refl; apart = λ _. refl }), λ (why : Refusal). after_refusal (event_by by c (Refused None why)) past refl)
  next-is past by (command.SaveAs name) legal =
      let event : Event A = event_by by (command.SaveAs name) Done in
      let saved : record (one_more (state_after past)) { saved = put_entry bytes_cmp (saved past) name (main past) } ≡ state_after (event ∷ past) =
      same_state _ _ (add-one (length past)) refl refl refl refl (sessions-still event past (λ _. refl) refl) in
      let refused = after_refusal (event_by by (command.SaveAs name) (refusal TooMany)) past refl in
      grind arith
  next-is past by (command.DropDatabase name) legal =
      let event : Event A = event_by by (command.DropDatabase name) Done in
      let dropped : record (one_more (state_after past)) { saved = take_entry bytes_cmp (saved past) name } ≡ state_after (event ∷ past) =
      same_state _ _ (add-one (length past)) refl refl refl refl (sessions-still event past (λ _. refl) refl) in
      let refused = after_refusal (event_by by (command.DropDatabase name) (refusal NoDatabase)) past refl in
      grind arith
  next-is past by command.NewSession legal =
      let event : Event A = event_by by command.NewSession (SessionMade (sessions_made past + 1)) in
      let n = sessions_made past in
      let lt : n < 1 + n = omega arith in
      let same : 1 + n ≡ n + 1 = omega arith in
      let new = not_made past (1 + n) legal lt in
      let here = session-apart (1 + n) event past refl refl ∙ new.0 in
      let added : sessions past ++ (n + 1, new_session) ∷ [] ≡ sessions (event ∷ past) =
      sym (ap (λ k. numbered (session_of (event ∷ past)) (passing (is_live past) 1 k)) (add-one n)
      ∙ ap (numbered (session_of (event ∷ past))) (passing-push (is_live past) n ∙ ap (λ b. live_sessions past ++ cond (not b) ((1 + n) ∷ []) []) new.1)
      ∙ map-append (λ number. (number, session_of (event ∷ past) number)) (live_sessions past) ((1 + n) ∷ [])
      ∙ ap₂ (λ xs x. xs ++ x ∷ []) (sym (sessions-still event past (λ _. refl) refl)) (ap₂ (λ k x. (k, x)) same here)) in
      let made : record (one_more (state_after past)) { sessions_made = n + 1; sessions = sessions past ++ (n + 1, new_session) ∷ [] } ≡ state_after (event ∷ past) =
      same_state _ _ (add-one (length past)) refl refl refl refl added in
      let refused = after_refusal (event_by by command.NewSession (refusal TooMany)) past refl in
      grind arith
  next-is past by (command.Session number told) legal =
      let refused = after_refusal (event_by by (command.Session number told) (refusal NoSession)) past refl in
      grind (arith, leaves past by number told)
  next-is past by c legal =
      same_state _ _ (add-one (length past)) refl refl refl refl (sessions-still (event_by by c (answer (state_after past) c)) past (λ _. refl) refl)

  -- ---- histories, the first event first

  -- the state after one more event whose reply is that of its command, and that the history stays legal
  pub state-push : (history : List (Event A)) (by : ℕ) (c : Command A) (s new : State A) (reply : Reply A) → IsLegal history → state history ≡ s → new ≡ next s c → reply ≡ answer s c
      → (reply ≡ reply_of history c) × (new ≡ state (history ++ event_by by c reply ∷ [])) × IsLegal (history ++ event_by by c reply ∷ [])
  unfolding IsLegal state reply_of
  state-push history by c s new reply legal is left answered =
      let replied : reply ≡ answer (state_after (reverse history)) c = answered ∙ ap (λ t. answer t c) (sym is) in
      let push = reverse-append history (event_by by c reply ∷ []) in (
        replied,
        left ∙ ap (λ t. next t c) (sym is) ∙ next-is (reverse history) by c legal
            ∙ ap (λ r. state_after (event_by by c r ∷ reverse history)) (sym replied)
            ∙ ap state_after (sym push),
        subst IsLegalPast (sym push) (replied, legal),
      )

  pub events-state : (history : List (Event A)) → (state history).events ≡ length history
  unfolding state
  events-state history = length-reverse history

module _ {A : Type 0} where
  -- ---- the reply

  refused-is : (reply : Reply A) (why : Why) → refusal_in reply ≡ Some why → reply ≡ Refused why.0 why.1
  refused-is (Refused at why) known is = let same : (at, why) ≡ known = cc in ap (λ (w : Why). Refused w.0 w.1) same
  refused-is _ known is = cc

  op-refused : (s : State A) (ops : List (Op A)) (why : Why) → refused_op s.main ops ≡ Some why → write_reply s (made (run s.main ops)) ≡ Refused why.0 why.1
  op-refused s [] why is = cc
  op-refused s (op ∷ ops) why is = grind (arith, λ (table : TableState A). refused_act_is table op.action)

  pub first-answer : (s : State A) (c : Command A) (why : Why) → refused_first s c ≡ Some why → answer s c ≡ Refused why.0 why.1
  first-answer s (command.Commit batch) why is = grind (arith, op-refused s batch.ops why)
  first-answer s (command.Apply blob policy quiet) why is = grind arith
  first-answer s c why is = refused-is (answer s c) why is

  -- ---- the state after it

  refused-next : (s : State A) (c : Command A) (why : Why) → refusal_in (answer s c) ≡ Some why → next s c ≡ one_more s
  refused-next s (command.Session number told) why is =
      let left = λ (session : SessionState A) (refused : refusal_in (session_reply s told session) ≡ Some why). refused-left s told session (ap is_accepted (refused-is (session_reply s told session) why refused)) in
      grind (arith, left, with_same number s.sessions)
  refused-next s c why is = grind arith

  -- ---- what a step answers

  pub ok-first : (E : Type 0) (s : State A) (c : Command A) (told : Reply A) → told ≡ answer s c → RepliesFirst {E = E} (refused_first s c) (Ok told)
  ok-first E s c told is = inner (refused_first s c) refl
    where
      inner : (known : Option Why) → refused_first s c ≡ known → IfSome known (λ why. told ≡ Refused why.0 why.1)
      inner None refuses = tt
      inner (Some why) refuses = is ∙ first-answer s c why refuses

  -- ---- what is known of a command to a session

  pub diff_known : (r : Result (Option (List (Difference A))) Refusal) → whole (result_err r) ≡ refusal_in {A = A} (diffed r)
  diff_known r = grind arith

module _ {A S E : Type 0} (gives : S → Reply A → Result Unit E → S → Type 0) where
  -- a command that is refused so has that reply, and leaves that
  pub refused-reports : (s new : State A) (c : Command A) (before after : S) (why : Why) (r : Result (Reply A) (Fault E)) → Some why ≡ refused_first s c
      → Reports gives (Refused why.0 why.1) (one_more s) s new before after r → Reports gives (answer s c) (next s c) s new before after r
  refused-reports s new c before after why r is told =
      subst (λ (n : State A). Reports gives (answer s c) n s new before after r) (sym (refused-next s c why (ap refusal_in (first-answer s c why (sym is)))))
      (subst (λ (reply : Reply A). Reports gives reply (one_more s) s new before after r) (sym (first-answer s c why (sym is))) told)
