-- What a line that carries out a command makes of a course.
use Rattle.std.proofs.Common.{◌≡◌, ℕ, ◌≤◌, true, false, List, [], ◌∷◌, ◌++◌, Option, None, Some, Result, Ok, Err, length, refl, sym, ap, subst, ◌∙◌, length-append, arith}
use Rattle.std.specs.Prelude.{IfErr, IfOk, MatchResult, OnErr, OnOk, is_some}
use Rattle.std.proofs.lemmas.Bool.{false≢true}
use Rattle.std.proofs.lemmas.List.{reverse-append, length-reverse}
use Rattle.cap_table.specs.declared.row_ref.RowRef.{RowRef}
use Rattle.cap_txn.specs.Transaction.{TxnState}
use Rattle.cap_txn.specs.declared.answered_call.Answer.{Answer}
use Rattle.cap_txn.specs.declared.answered_call.Asked.{Asked}
use Rattle.cap_core.specs.Answer.{State, IsLegal, IsLegalPast, answer, event_by, reply_of, state}
use Rattle.cap_core.specs.Past.{HasRoom}
use Rattle.cap_core.specs.Table.{BlobFits, BlobsFit, BlobsFitPast}
use Rattle.cap_core.specs.Transition.{next}
use Rattle.cap_core.specs.declared.command.Command.{Command}
use Rattle.cap_core.specs.declared.event.Event.{Event}
use Rattle.cap_core.specs.declared.reply.Reply.{Reply}
use Rattle.cap_script.specs.declared.line.Show.{Show}
use Rattle.cap_script.specs.declared.line.Show.TheVariants as show
use Rattle.cap_script.specs.declared.step.Step.{Step}
use Rattle.cap_locked.specs.declared.fault.CallFault.{CallFault}
use Rattle.cap_locked.specs.declared.fault.CallFault.TheVariants.{OutOfMemory, Overtaken, HistoryFull}
use Rattle.cap_replies.specs.Outcomes.{outcome_text}
use Rattle.cap_replies.specs.Printed.{reply_text}
use Rattle.cap_replies.specs.declared.outcome.Outcome.TheVariants as outcome
use Rattle.cap_replies.specs.declared.run_line.RunLine.{RunLine}
use Rattle.cap_interpreter.specs.Calls.{IsCalled}
use Rattle.cap_interpreter.specs.Code.Runs.{Did, FaultIs, Ran, holding}
use Rattle.cap_interpreter.specs.Interpreter.{InterpreterState}
use Rattle.cap_interpreter.specs.Application.{ApplicationState}
use Rattle.cap_interpreter.specs.declared.held.Open.{Open}
use Rattle.cap_interpreter.specs.declared.held.Open.TheVariants.{Transaction}
use Rattle.cap_interpreter.specs.Lines.{Course, Deed, IsAt, IsFull, after, after_line, command_of, deed, deed_applying, deed_text, deed_within, events_max, history_with, on_a_line, text_of, txn_after}
use Rattle.cap_interpreter.specs.Lines.Deed.{Call, Serve}

module _ {A : Type 0} where
  -- ---- histories

  IsLegal-push : (h : List (Event A)) (c : Command A) → IsLegal h → IsLegal (h ++ event_by 0 c (reply_of h c) ∷ [])
  unfolding IsLegal reply_of state
  IsLegal-push h c legal = subst IsLegalPast (sym (reverse-append h (event_by 0 c (reply_of h c) ∷ []))) (refl, legal)

  fits-push : (h : List (Event A)) (c : Command A) (reply : Reply A) → BlobsFit h → BlobFits c → BlobsFit (h ++ event_by 0 c reply ∷ [])
  unfolding BlobsFit
  fits-push h c reply fits one = subst BlobsFitPast (sym (reverse-append h (event_by 0 c reply ∷ []))) (one, fits)

  events-state : (h : List (Event A)) → (state h).events ≡ length h
  unfolding state
  events-state h = length-reverse h

  -- a command is one event, after each history that left the server
  pub one_event : (h : List (Event A)) (command : Command A) (core left : State A) → state h ≡ core → left ≡ next core command
      → state (h ++ event_by 0 command (reply_of h command) ∷ []) ≡ next (state h) command → left ≡ state (h ++ event_by 0 command (reply_of h command) ∷ [])
  one_event h command core left is made more = made ∙ ap (λ (s : State A). next s command) (sym is) ∙ sym more

  -- what is printed is the reply to it
  pub its_reply : (h : List (Event A)) (line : RunLine A) (command : Command A) (core : State A) (old new : List ℕ) → state h ≡ core → new ≡ old ++ on_a_line (reply_text line (answer core command))
      → reply_of h command ≡ answer (state h) command → new ≡ old ++ on_a_line (reply_text line (reply_of h command))
  its_reply h line command core old new is made reply =
      made ∙ ap (λ (r : Reply A). old ++ on_a_line (reply_text line r)) (sym (reply ∙ ap (λ (s : State A). answer s command) is))

  -- ---- lines

  at_command : (course : Course A) (does : Deed A) (command : Command A) (old new : InterpreterState A) → IsAt course old → command_of does ≡ Some command → BlobFits command → HasRoom old.core.events
      → new.core ≡ state (course.history ++ event_by 0 command (reply_of course.history command) ∷ []) → new.txn ≡ txn_after course does → IsAt (after course does) new
  at_command course does command old new at is fits room core txn =
      let h = course.history in
      let event = event_by 0 command (reply_of h command) in
      let events = ap (λ (s : State A). s.events) at.core ∙ events-state h in
      let one : history_with h (command_of does) ≡ h ++ event ∷ [] = ap (history_with h) is in
      record {
        legal = subst IsLegal (sym one) (IsLegal-push h command at.legal);
        blobs = subst BlobsFit (sym one) (fits-push h command (reply_of h command) at.blobs fits);
        few = omega (arith, room, events, ap length one, length-append h (event ∷ []));
        core = core ∙ ap state (sym one);
        txn = txn;
      }

  -- where a line leads that carries out a command, and its text
  led : (course : Course A) (line : RunLine A) (does : Deed A) (command : Command A) (old new : InterpreterState A) (before printed : List ℕ) → IsAt course old → deed old.txn line.line ≡ does
      → command_of does ≡ Some command → BlobFits command → HasRoom old.core.events → new.core ≡ state (course.history ++ event_by 0 command (reply_of course.history command) ∷ [])
      → new.txn ≡ txn_after course does → printed ≡ before ++ on_a_line (deed_text line course.history does)
      → IsAt (after_line course line) new × (printed ≡ before ++ on_a_line (text_of course line))
  led course line does command old new before printed at is one fits room core txn text =
      let here : does ≡ deed course.txn line.line = sym is ∙ ap (λ (t : Option (Open A)). deed t line.line) at.txn in
      subst (λ (d : Deed A). IsAt (after course d) new × (printed ≡ before ++ on_a_line (deed_text line course.history d))) here
      (at_command course does command old new at one fits room core txn, text)

  -- the same of one that carries out none
  told : (course : Course A) (line : RunLine A) (does : Deed A) (old new : InterpreterState A) (before printed : List ℕ) → IsAt course old → deed old.txn line.line ≡ does → command_of does ≡ None
      → new.core ≡ old.core → new.txn ≡ txn_after course does → printed ≡ before ++ on_a_line (deed_text line course.history does)
      → IsAt (after_line course line) new × (printed ≡ before ++ on_a_line (text_of course line))
  told course line does old new before printed at is none core txn text =
      let here : does ≡ deed course.txn line.line = sym is ∙ ap (λ (t : Option (Open A)). deed t line.line) at.txn in
      let same : course.history ≡ history_with course.history (command_of does) = sym (ap (history_with course.history) none) in
      subst (λ (d : Deed A). IsAt (after course d) new × (printed ≡ before ++ on_a_line (deed_text line course.history d))) here (
        record {
          legal = subst IsLegal same at.legal;
          blobs = subst BlobsFit same at.blobs;
          few = subst (λ (h : List (Event A)). length h ≤ events_max) same at.few;
          core = core ∙ at.core ∙ ap state same;
          txn = txn;
        },
        text,
      )

  -- ---- the outcomes of lines

  is_full : (line : RunLine A) (old : InterpreterState A) (does : Deed A) (command : Command A) → deed old.txn line.line ≡ does → command_of does ≡ Some command → events_max ≤ old.core.events → IsFull old line
  is_full line old does command is one full = (ap (λ (d : Deed A). is_some (command_of d)) is ∙ ap is_some one, full)

  not_full : (line : RunLine A) (old : InterpreterState A) (does : Deed A) → deed old.txn line.line ≡ does → command_of does ≡ None → IsFull old line → ⊥
  not_full line old does is none full =
      let never : false ≡ true = sym (ap (λ (d : Deed A). is_some (command_of d)) is ∙ ap is_some none) ∙ full.0 in
      absurd (false≢true never)

  -- a fault of a line's command is one of the line
  fault_of : (line : RunLine A) (old : InterpreterState A) (does : Deed A) (command : Command A) (fault : CallFault) → deed old.txn line.line ≡ does → command_of does ≡ Some command
      → FaultIs fault (events_max ≤ old.core.events) → FaultIs fault (IsFull old line)
  fault_of line old does command OutOfMemory is one met = λ full. met full.1
  fault_of line old does command (Overtaken front) is one met = met
  fault_of line old does command HistoryFull is one met = is_full line old does command is one met

  -- a line that carries out a command
  pub ran_command : (line : RunLine A) (old : InterpreterState A) (does : Deed A) (command : Command A) (core : State A) (txn : Option (Open A)) (text : List (Event A) → List ℕ)
      (result : Result (Option (Open A)) CallFault) (before printed : List ℕ) → deed old.txn line.line ≡ does → command_of does ≡ Some command → BlobFits command
      → ((course : Course A) → IsAt course old → txn ≡ txn_after course does) → ((h : List (Event A)) → text h ≡ deed_text line h does)
      → ((h : List (Event A)) → IsLegal h → state h ≡ old.core → OnOk result ((core ≡ state (h ++ event_by 0 command (reply_of h command) ∷ [])) × (printed ≡ before ++ on_a_line (text h))))
      → IfOk result (λ left. left ≡ txn) → OnOk result (HasRoom old.core.events) → IfErr result (λ fault. FaultIs fault (events_max ≤ old.core.events))
      → OnErr result (core ≡ old.core) → OnErr result (printed ≡ before) → Ran line old core result before printed
  ran_command line old does command core txn text (Ok left) before printed is one fits opens shows served is_left room fault unchanged same = (
    λ full. omega (arith, full.1, room),
    λ course at.
        let run = served course.history at.legal (sym at.core) in
        led course line does command old (holding core left) before printed at is one fits room run.0 (is_left ∙ opens course at) (run.1 ∙ ap (λ (t : List ℕ). before ++ on_a_line t) (shows course.history)),
  )
  ran_command line old does command core txn text (Err why) before printed is one fits opens shows served is_left room fault unchanged same =
      (unchanged, same, fault_of line old does command why is one fault)

  -- a line that carries out none
  pub ran_none : (line : RunLine A) (old : InterpreterState A) (does : Deed A) (txn : Option (Open A)) (text : List ℕ) (result : Result (Option (Open A)) CallFault) (before printed : List ℕ)
      → deed old.txn line.line ≡ does → command_of does ≡ None → ((course : Course A) → IsAt course old → txn ≡ txn_after course does) → ((h : List (Event A)) → text ≡ deed_text line h does)
      → IfOk result (λ left. left ≡ txn) → OnOk result (printed ≡ before ++ on_a_line text) → IfErr result (λ fault. fault ≡ OutOfMemory) → OnErr result (printed ≡ before)
      → Ran line old old.core result before printed
  ran_none line old does txn text (Ok left) before printed is none opens shows is_left wrote memory same = (
    not_full line old does is none,
    λ course at. told course line does old (holding old.core left) before printed at is none refl (is_left ∙ opens course at) (wrote ∙ ap (λ (t : List ℕ). before ++ on_a_line t) (shows course.history)),
  )
  ran_none line old does txn text (Err why) before printed is none opens shows is_left wrote memory same =
      (refl, same, subst (λ (f : CallFault). FaultIs f (IsFull old line)) (sym memory) (not_full line old does is none))

  -- a line that makes a call
  pub ran_call : {E : Type 0} (line : RunLine A) (core : State A) (txn left : TxnState A) (asked : Asked A) (answered : Result (Answer A) E) (result : Result (Option (Open A)) CallFault) (before printed : List ℕ)
      → deed (Some (Transaction txn)) line.line ≡ Call txn asked → IfOk answered (λ answer. IsCalled txn asked answer left) → IfOk result (λ l. l ≡ Some (Transaction left))
      → OnOk result (MatchResult answered (λ answer. printed ≡ before ++ on_a_line (outcome_text line (outcome.Answer answer))) (λ e. ⊥)) → IfErr result (λ fault. fault ≡ OutOfMemory) → OnErr result (printed ≡ before)
      → Ran line (holding core (Some (Transaction txn))) core result before printed
  ran_call line core txn left asked (Ok answer) result before printed is called is_left wrote memory same =
      ran_none line (holding core (Some (Transaction txn))) (Call txn asked) (Some (Transaction left)) (outcome_text line (outcome.Answer answer)) result before printed is refl (λ course at. ap (λ (t : TxnState A). Some (Transaction t)) called.1)
      (λ h. ap (λ (a : Answer A). outcome_text line (outcome.Answer a)) called.0) is_left wrote memory same
  ran_call line core txn left asked (Err e) (Ok l) before printed is called is_left wrote memory same = absurd wrote
  ran_call line core txn left asked (Err e) (Err why) before printed is called is_left wrote memory same =
      (refl, same, subst (λ (f : CallFault). FaultIs f (IsFull (holding core (Some (Transaction txn))) line)) (sym memory) (not_full line (holding core (Some (Transaction txn))) (Call txn asked) is refl))

  -- a line that is no read and no step, where a transaction is open
  pub serves_within : (txn : TxnState A) (how : Show A) (command : Command A) → ((table : List ℕ) (row : RowRef A) → how ≡ show.Get table row → ⊥) → ((table : List ℕ) → how ≡ show.Scan table → ⊥)
      → ((step : Step A) → how ≡ show.Step step → ⊥) → deed_within txn how command ≡ Serve command
  serves_within txn show.Plain command get scan step = refl
  serves_within txn (show.Get table row) command get scan step = absurd (get table row refl)
  serves_within txn (show.Scan table) command get scan step = absurd (scan table refl)
  serves_within txn (show.Step s) command get scan step = absurd (step s refl)
  serves_within txn (show.Changeset flags) command get scan step = refl
  serves_within txn (show.Patchset flags) command get scan step = refl
  serves_within txn show.Report command get scan step = refl
  serves_within txn show.Buffer command get scan step = refl
  serves_within txn (show.Accepted detail numbers) command get scan step = refl
  serves_within txn (show.Decided report passed) command get scan step = refl

  -- a line that is no step, where an application is open
  pub serves_applying : (app : ApplicationState A) (how : Show A) (command : Command A) → ((step : Step A) → how ≡ show.Step step → ⊥) → deed_applying app how command ≡ Serve command
  serves_applying app show.Plain command step = refl
  serves_applying app (show.Get table row) command step = refl
  serves_applying app (show.Scan table) command step = refl
  serves_applying app (show.Step s) command step = absurd (step s refl)
  serves_applying app (show.Changeset flags) command step = refl
  serves_applying app (show.Patchset flags) command step = refl
  serves_applying app show.Report command step = refl
  serves_applying app show.Buffer command step = refl
  serves_applying app (show.Accepted detail numbers) command step = refl
  serves_applying app (show.Decided report passed) command step = refl

  -- what a line did that carries out none
  pub did : (line : RunLine A) (does : Deed A) (held stays : Option (Open A)) (text : List ℕ) (result : Result (Option (Open A)) CallFault) (before printed : List ℕ)
      → command_of does ≡ None → ((course : Course A) → course.txn ≡ held → stays ≡ txn_after course does) → ((h : List (Event A)) → text ≡ deed_text line h does)
      → IfOk result (λ left. left ≡ stays) → OnOk result (printed ≡ before ++ on_a_line text) → IfErr result (λ fault. fault ≡ OutOfMemory) → OnErr result (printed ≡ before)
      → Did line does held result before printed
  did line does held stays text (Ok left) before printed none opens shows is_left wrote memory same =
      (none, (λ course is. is_left ∙ opens course is), (λ h. wrote ∙ ap (λ (t : List ℕ). before ++ on_a_line t) (shows h)))
  did line does held stays text (Err why) before printed none opens shows is_left wrote memory same = (none, memory, same)

  pub ran_did : (line : RunLine A) (old : InterpreterState A) (does : Deed A) (result : Result (Option (Open A)) CallFault) (before printed : List ℕ)
      → deed old.txn line.line ≡ does → Did line does old.txn result before printed → Ran line old old.core result before printed
  ran_did line old does (Ok left) before printed is run = (
    not_full line old does is run.0,
    λ course at. told course line does old (holding old.core left) before printed at is run.0 refl (run.1 course (sym at.txn)) (run.2 course.history),
  )
  ran_did line old does (Err why) before printed is run =
      (refl, run.2, subst (λ (f : CallFault). FaultIs f (IsFull old line)) (sym run.1) (not_full line old does is run.0))
