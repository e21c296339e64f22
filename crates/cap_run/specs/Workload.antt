-- The output of a workload on threads.
use Rattle.std.specs.Prelude.{◌≡◌, ◌⊎◌, ℕ, ◌+◌, ◌%◌, ◌<◌, ◌≤◌, List, [], ◌∷◌, ◌++◌, Option, Some, None}
use Rattle.std.specs.Prelude.{Result, Ok, Err, drop, length}
use Rattle.std.specs.Io.KnownBytes.{Appends, Keeps}
use mathlib.Core.List.{IsPrefix}
use Rattle.cap_core.specs.Answer.{IsLegal, event_by}
use Rattle.cap_core.specs.Table.{BlobsFit}
use Rattle.cap_core.specs.declared.event.Event.{Event}
use Rattle.cap_core.specs.declared.reply.Reply.{Reply}
use Rattle.cap_history.specs.History.{own}
use Rattle.cap_interpreter.specs.Lines.{events_max, on_a_line}
use Rattle.cap_run.specs.Run.{Ended, IsSpelled, Known, ending}
use Rattle.cap_stream.specs.Writing.{AppendsFront}
use Rattle.cap_run.specs.declared.fault.RunFault.{RunFault}
use Rattle.cap_run.specs.declared.fault.RunFault.TheVariants.{Call, Close, Write}
use Rattle.cap_replies.specs.Printed.{reply_text}
use Rattle.cap_replies.specs.declared.run_line.ReplyForm.{ReplyForm}
use Rattle.cap_replies.specs.declared.run_line.RunLine.{RunLine}
use Rattle.cap_locked.specs.Fault.{MatchCallFault}

-- the seat from which a line is called: seat 0, or for `@K` that of a worker
abbrev pub seat_of : ℕ → Option ℕ → ℕ
seat_of threads None = 0
seat_of threads (Some number) = number % threads + 1

-- each line has a reply, or where they ended at a fault a prefix of them
abbrev pub HasCount : Ended → ℕ → ℕ → Type 0
HasCount (Ok done) count lines = count ≡ lines
HasCount (Err fault) count lines = count < lines

-- What the fault at which lines ended says of a number of events: that of the history that overtook a call,
-- or that of a full history. Out of memory says nothing of it.
abbrev pub ReportsEvents : (ℕ → Type 0) → Ended → Type 0
ReportsEvents Are (Ok done) = Unit {0}
ReportsEvents Are (Err fault) = MatchCallFault fault (Unit {0}) Are (Are events_max)

module _ {A : Type 0} where
  -- the replies to the first lines, each on a line of its own
  abbrev pub reply_lines : List (RunLine A) → List (Reply A) → List ℕ
  reply_lines [] replies = []
  reply_lines (line ∷ lines) [] = []
  reply_lines (line ∷ lines) (reply ∷ replies) =
      on_a_line (reply_text line reply) ++ reply_lines lines replies

  -- the calls of the lines that have replies, in the order of the lines, each by its line's seat
  abbrev pub calls_of : ℕ → List (RunLine A) → List (Reply A) → List (Event A)
  calls_of threads [] replies = []
  calls_of threads (line ∷ lines) [] = []
  calls_of threads (line ∷ lines) (reply ∷ replies) =
      event_by (seat_of threads line.line.worker) line.line.command reply ∷ calls_of threads lines replies

  -- the calls are these, or where the lines ended at a fault these are a prefix of them
  abbrev pub AreCalls : Ended → List (Event A) → List (Event A) → Type 0
  AreCalls (Ok done) some all = all ≡ some
  AreCalls (Err fault) some all = IsPrefix some all

  -- A block ends with this line: it or the line behind it is without `@`, or there is none behind it. A line
  -- without `@` is a block of its own.
  abbrev pub EndsBlock : RunLine A → List (RunLine A) → Type 0
  EndsBlock line [] = Unit {0}
  EndsBlock line (next ∷ behind) = (line.line.worker ≡ None) ⊎ (next.line.worker ≡ None)

  -- at the end of each block whose lines have replies, this holds of the lines up to there and those behind
  abbrev pub EachBlock : List (RunLine A) → List (Reply A) → (List (RunLine A) → List (RunLine A) → Type 0) → Type 0
  EachBlock lines replies IsSo = (before : List (RunLine A)) (line : RunLine A) (behind : List (RunLine A))
      → lines ≡ before ++ line ∷ behind → EndsBlock line behind → length before < length replies
      → IsSo (before ++ line ∷ []) behind

  -- The history is in two parts. The first has the calls of the lines before, and the second those of the
  -- lines behind: each seat's own calls there are these, or these are a prefix of them.
  pub record IsDivided (Are : List (Event A) → List (Event A) → Type 0) (threads : ℕ)
      (replies : List (Reply A)) (history : List (Event A)) (before behind : List (RunLine A)) : Type 0 where
    pub front : List (Event A)
    pub rest : List (Event A)
    pub parts : history ≡ front ++ rest
    pub first : (number : ℕ) → Are (own number (calls_of threads before replies)) (own number front)
    pub later : (number : ℕ)
        → Are (own number (calls_of threads behind (drop (length before) replies))) (own number rest)

  -- One legal history, whose blobs fit, has the calls of the lines that have replies, each seat's in the
  -- order of its lines: its own calls in that history are these, or these are a prefix of them. The end of
  -- each block divides it.
  pub record AreOfOneHistory (Are : List (Event A) → List (Event A) → Type 0) (threads : ℕ)
      (lines : List (RunLine A)) (replies : List (Reply A)) : Type 0 where
    pub history : List (Event A)
    pub legal : IsLegal history
    pub blobs : BlobsFit history
    pub calls_are : (number : ℕ) → Are (own number (calls_of threads lines replies)) (own number history)
    pub blocks : EachBlock lines replies (IsDivided Are threads replies history)

  -- A run of the lines that ended so has this text: the replies in the order of the lines, up to the first
  -- line that has none, and then its fault. The history has at least as many events as the fault reports.
  pub record IsWorkload (form : ReplyForm) (Are : List (Event A) → List (Event A) → Type 0) (threads : ℕ)
      (lines : List (RunLine A)) (ended : Ended) (text : List ℕ) : Type 0 where
    pub replies : List (Reply A)
    pub count : HasCount ended (length replies) (length lines)
    pub text_is : text ≡ reply_lines lines replies ++ ending form ended
    pub history : AreOfOneHistory Are threads lines replies
    pub events : ReportsEvents (λ count. count ≤ length history.history) ended

  -- A run that came so far has this text.
  pub record IsBegun (form : ReplyForm) (threads : ℕ) (lines : List (RunLine A)) (ended : Ended) (text : List ℕ) : Type 0 where
    pub replies : List (Reply A)
    pub few : length replies ≤ length lines
    pub text_is : text ≡ reply_lines lines replies ++ ending form ended
    pub history : AreOfOneHistory IsPrefix threads lines replies
    pub events : ReportsEvents (λ count. count ≤ length history.history) ended

  -- all of a run's text was written
  abbrev pub WritesAll : ReplyForm → ℕ → List (RunLine A) → Ended → Known → Known → Type 0
  WritesAll form threads lines ended old new =
      (text : List ℕ) × IsWorkload form (AreCalls ended) threads lines ended text × Appends old new text

  -- all of it was written, and each line has its reply; the server was not closed, so its history has these
  -- calls, and may have more
  abbrev pub WritesUnclosed : ReplyForm → ℕ → List (RunLine A) → Known → Known → Type 0
  WritesUnclosed form threads lines old new =
      (text : List ℕ) × IsWorkload form IsPrefix threads lines (Ok tt) text × Appends old new text

  -- a prefix of it was written
  abbrev pub WritesSome : ReplyForm → ℕ → List (RunLine A) → Known → Known → Type 0
  WritesSome form threads lines old new =
      (ended : Ended) × (text : List ℕ) × IsBegun form threads lines ended text × AppendsFront old new text

-- The output of a run of the lines that the input spells: all of its text, also where the server was not
-- closed, a prefix where a write failed, or nothing where it did not begin.
abbrev pub WritesWorkload : (A : Type 0) → ReplyForm → ℕ → Known → Result (Unit {0}) RunFault → Known
    → Known → Type 0
WritesWorkload A form threads input (Ok done) old new =
    (lines : List (RunLine A)) × IsSpelled form input lines × WritesAll form threads lines (Ok done) old new
WritesWorkload A form threads input (Err (Call fault)) old new =
    (lines : List (RunLine A)) × IsSpelled form input lines × WritesAll form threads lines (Err fault) old new
WritesWorkload A form threads input (Err Write) old new =
    (lines : List (RunLine A)) × IsSpelled form input lines × WritesSome form threads lines old new
WritesWorkload A form threads input (Err Close) old new =
    (lines : List (RunLine A)) × IsSpelled form input lines × WritesUnclosed form threads lines old new
WritesWorkload A form threads input (Err fault) old new = Keeps old new
