-- The output of a run: the text of the reply to each line, and then the fault at which it ended.
use Rattle.std.specs.Prelude.{◌≡◌, ℕ, List, [], ◌∷◌, ◌++◌, Option, Result, Ok, Err, IfSome}
use Rattle.std.specs.Prelude.{length, codes, decimal}
use Rattle.std.specs.Io.KnownBytes.{Appends, Keeps}
use Rattle.cap_locked.specs.declared.fault.CallFault.{CallFault}
use Rattle.cap_locked.specs.declared.fault.CallFault.TheVariants as call
use Rattle.cap_core.specs.Answer.{IsLegal}
use Rattle.cap_core.specs.Past.{HasRoom}
use Rattle.cap_core.specs.Table.{BlobsFit}
use Rattle.cap_core.specs.declared.event.Event.{Event}
use Rattle.cap_interpreter.specs.Lines.{Course, after_line, after_lines, begin_course, command_of, deed}
use Rattle.cap_interpreter.specs.Lines.{events_max, on_a_line, text_of}
use Rattle.cap_run.specs.declared.fault.RunFault.{RunFault}
use Rattle.cap_run.specs.declared.fault.RunFault.TheVariants.{Call, Write}
use Rattle.cap_replies.specs.declared.run_line.ReplyForm.{ReplyForm}
use Rattle.cap_replies.specs.declared.run_line.ReplyForm.TheVariants.{Json, Text}
use Rattle.cap_replies.specs.declared.run_line.RunLine.{RunLine}
use Rattle.cap_replies.specs.Lines.{SpellsLines}
use Rattle.cap_stream.specs.Writing.{AppendsFront}

-- what a writer holds, where it is known
abbrev pub Known : Type 0
Known = Option (List ℕ)

-- how lines ended: after the last, or at the fault of the first without a reply
abbrev pub Ended : Type 0
Ended = Result (Unit {0}) CallFault

unfoldable pub call_fault_text : CallFault → List ℕ
call_fault_text call.OutOfMemory = codes "refused for memory"
call_fault_text (call.Overtaken front) = codes "overtaken " ++ decimal front
call_fault_text call.HistoryFull = codes "history full"

-- the fault of the line at which a run ended, on a line of its own: as text or as a JSON object
abbrev pub fault_line : ReplyForm → CallFault → List ℕ
fault_line Text fault = on_a_line (call_fault_text fault)
fault_line Json fault = codes "{\"fault\":\"" ++ (call_fault_text fault ++ (codes "\"}" ++ 10 ∷ []))

-- the same, where there is such a line
abbrev pub ending : ReplyForm → Ended → List ℕ
ending form (Ok done) = []
ending form (Err fault) = fault_line form fault

-- the outcome of a run whose lines ended so
abbrev pub run_outcome : Ended → Result (Unit {0}) RunFault
run_outcome (Ok done) = Ok done
run_outcome (Err fault) = Err (Call fault)

module _ {A : Type 0} where
  -- ---- lines one after the other

  -- the text of the reply to each, on a line of its own
  abbrev pub replies_to : Course A → List (RunLine A) → List ℕ
  replies_to course [] = []
  replies_to course (line ∷ lines) =
      on_a_line (text_of course line) ++ replies_to (after_line course line) lines

  -- the history of a run of the lines, from a new server on
  abbrev pub history_of : List (RunLine A) → List (Event A)
  history_of lines = (after_lines begin_course lines).history

  -- that history is legal, and its blobs fit
  pub record IsLegalRun (lines : List (RunLine A)) : Type 0 where
    pub legal : IsLegal (history_of lines)
    pub blobs : BlobsFit (history_of lines)

  -- where a line carries out a command of the server, the history has room for its event
  abbrev pub HasRoomAt : Course A → RunLine A → Type 0
  HasRoomAt course line =
      IfSome (command_of (deed course.txn line.line)) (λ command. HasRoom (length course.history))

  -- there is a next line, and it is so
  abbrev pub NextIs : (RunLine A → Type 0) → List (RunLine A) → Type 0
  NextIs IsSo [] = ⊥
  NextIs IsSo (line ∷ lines) = IsSo line

  -- Where a run ends, after some lines and before others: without a fault after the last line. Out of memory
  -- may end it before any line that has room, and a full history before a line.
  abbrev pub EndsAt : Ended → List (RunLine A) → List (RunLine A) → Type 0
  EndsAt (Ok done) lines others = others ≡ []
  EndsAt (Err call.OutOfMemory) lines others = NextIs (HasRoomAt (after_lines begin_course lines)) others
  EndsAt (Err (call.Overtaken front)) lines others = ⊥
  EndsAt (Err call.HistoryFull) lines others =
      NextIs (λ line. length (history_of lines) ≡ events_max) others

  -- ---- the output

  -- the replies, and what ended the run behind them
  abbrev pub run_text : ReplyForm → List (RunLine A) → Ended → List ℕ
  run_text form lines ended = replies_to begin_course lines ++ ending form ended

  -- all of a run's text was written: the first lines have replies, up to the line at which it ended
  abbrev pub WritesRun : ReplyForm → List (RunLine A) → Ended → Known → Known → Type 0
  WritesRun form lines ended old new =
      (first others : List (RunLine A)) × (lines ≡ first ++ others) × IsLegalRun first
      × EndsAt ended first others × Appends old new (run_text form first ended)

  -- a prefix of a run's text was written
  abbrev pub BeginsRun : ReplyForm → List (RunLine A) → Known → Known → Type 0
  BeginsRun form lines old new =
      (first others : List (RunLine A)) × (ended : Ended) × (lines ≡ first ++ others) × IsLegalRun first
      × AppendsFront old new (run_text form first ended)

  -- The output of a run of the lines: all of its text, a prefix where a write failed, or nothing where it did
  -- not begin.
  abbrev pub Writes : ReplyForm → List (RunLine A) → Result (Unit {0}) RunFault → Known → Known
      → Type 0
  Writes form lines (Ok done) old new = WritesRun form lines (Ok done) old new
  Writes form lines (Err (Call fault)) old new = WritesRun form lines (Err fault) old new
  Writes form lines (Err Write) old new = BeginsRun form lines old new
  Writes form lines (Err fault) old new = Keeps old new

  -- the input spells the lines, where it is known
  abbrev pub IsSpelled : ReplyForm → Known → List (RunLine A) → Type 0
  IsSpelled form input lines = IfSome input (λ text. SpellsLines form lines text)

-- the same of a run of the lines that the input spells
abbrev pub WritesInput : (A : Type 0) → ReplyForm → Known → Result (Unit {0}) RunFault → Known → Known
    → Type 0
WritesInput A form input (Ok done) old new =
    (lines : List (RunLine A)) × IsSpelled form input lines × WritesRun form lines (Ok done) old new
WritesInput A form input (Err (Call fault)) old new =
    (lines : List (RunLine A)) × IsSpelled form input lines × WritesRun form lines (Err fault) old new
WritesInput A form input (Err Write) old new =
    (lines : List (RunLine A)) × IsSpelled form input lines × BeginsRun form lines old new
WritesInput A form input (Err fault) old new = Keeps old new
