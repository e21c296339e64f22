-- The calls of the seats of a run, and the output so far.
use Rattle.std.specs.Prelude.{◌≡◌, ◌⊎◌, ◌≤◌, ℕ, ◌+◌, List, [], ◌∷◌, ◌++◌, Result, Ok, Err, filter, get_or}
use Rattle.std.specs.Prelude.{is_some, length, nat_eq, suc, true, false, if◌then◌else◌, OnOk}
use Rattle.std.specs.List.{AllByRecursion, AllZip, Any, concat}
use Rattle.std.specs.Io.KnownBytes.{Appends}
use mathlib.Core.List.{IsPrefix}
use Rattle.cap_core.specs.Answer.{event_by}
use Rattle.cap_core.specs.declared.event.Event.{Event}
use Rattle.cap_core.specs.declared.reply.Reply.{Reply}
use Rattle.cap_history.specs.History.{own}
use Rattle.cap_history.specs.Seat.{SeatState, calls}
use Rattle.cap_locked.specs.declared.fault.CallFault.TheVariants.{OutOfMemory}
use Rattle.cap_interpreter.specs.Lines.{on_a_line}
use Rattle.cap_run.specs.Run.{Ended, Known, ending}
use Rattle.cap_stream.specs.Writing.{AppendsFront}
use Rattle.cap_run.specs.declared.fault.RunFault.{RunFault}
use Rattle.cap_run.specs.declared.fault.RunFault.TheVariants.{Call, Close, Write}
use Rattle.cap_replies.specs.Printed.{reply_text}
use Rattle.cap_replies.specs.Lines.{LinesLeft, SpellsRun, begins_at}
use Rattle.cap_replies.specs.declared.run_line.ReplyForm.{ReplyForm}
use Rattle.cap_replies.specs.declared.run_line.RunLine.{RunLine}
use Rattle.cap_run.specs.Workload.{AreCalls, EachBlock, HasCount, ReportsEvents, calls_of, reply_lines, seat_of}

-- a worker after its lines of a block: its seat, the texts of their replies, and the fault of the line after
-- those
pub record Work (A : Type 0) : Type 0 where
  pub seat : SeatState A
  pub texts : List (List ℕ)
  pub ended : Ended

abbrev pub work : {A : Type 0} → SeatState A → List (List ℕ) → Ended → Work A
work seat texts ended = record { seat = seat; texts = texts; ended = ended }

module _ {A : Type 0} where
  -- what the seat has called since stands behind `front`: it has called nothing, or `front` has no calls of
  -- the seat but the earlier ones
  pub record CallsBehind (front : List (Event A)) (old new : SeatState A) : Type 0 where
    pub number : new.number ≡ old.number
    pub none_in : (calls new ≡ calls old) ⊎ IsPrefix (own old.number front) (calls old)

  -- the seat has seen more, and what it has called stands behind all that it had seen
  pub record GoesOn (old new : SeatState A) : Type 0 where
    pub seen : IsPrefix old.seen new.seen
    pub behind : CallsBehind old.seen old new

  -- the seat's calls are as before; it has seen more, and at least `front`
  pub record HasMet (front : List (Event A)) (old new : SeatState A) : Type 0 where
    pub number : new.number ≡ old.number
    pub answered : new.answered ≡ old.answered
    pub seen : IsPrefix old.seen new.seen
    pub meets : IsPrefix front new.seen

  -- each seat has seen no more than `front`
  abbrev pub EachSawIn : List (Event A) → List (SeatState A) → Type 0
  EachSawIn front seats = AllByRecursion (λ seat. IsPrefix seat.seen front) seats

  -- what the first seat has seen
  abbrev pub first_seen : List (SeatState A) → List (Event A)
  first_seen [] = []
  first_seen (seat ∷ seats) = seat.seen

  -- the first seat has seen all that the others have seen, and each seat has seen its own calls
  abbrev pub FirstHasMet : List (SeatState A) → Type 0
  FirstHasMet seats =
      AllByRecursion (λ seat. IsPrefix seat.answered seat.seen) seats × EachSawIn (first_seen seats) seats

  -- the seat has made this line's call, and no other; the text is that of the reply
  pub record HasCalledLine (line : RunLine A) (text : List ℕ) (old new : SeatState A) : Type 0 where
    pub reply : Reply A
    pub text_is : text ≡ on_a_line (reply_text line reply)
    pub number : new.number ≡ old.number
    pub calls_are : calls new ≡ calls old ++ event_by old.number line.line.command reply ∷ []
    pub seen : IsPrefix new.answered new.seen
    pub goes_on : GoesOn old new

  -- the seat has the calls that it had, and may have more
  pub record KeepsCalls (old new : SeatState A) : Type 0 where
    pub number : new.number ≡ old.number
    pub begins : IsPrefix (calls old) (calls new)
    pub seen : IsPrefix old.answered old.seen → IsPrefix new.answered new.seen
    pub goes_on : GoesOn old new

  -- the lines that are called from a seat
  abbrev pub seat_lines : ℕ → ℕ → List (RunLine A) → List (RunLine A)
  seat_lines threads number lines = filter (λ line. nat_eq (seat_of threads line.line.worker) number) lines

  -- the text of each reply, on a line of its own
  abbrev pub reply_texts : List (RunLine A) → List (Reply A) → List (List ℕ)
  reply_texts [] replies = []
  reply_texts (line ∷ lines) [] = []
  reply_texts (line ∷ lines) (reply ∷ replies) = on_a_line (reply_text line reply) ∷ reply_texts lines replies

  -- what the fault reports is what the seat has seen
  abbrev pub HasSeen : Ended → SeatState A → Type 0
  HasSeen ended seat = ReportsEvents (λ count. length seat.seen ≡ count) ended

  -- The seat has called these lines, one after the other, up to one whose call had a fault. These are the
  -- texts of the replies.
  pub record HasCalledLines (threads : ℕ) (lines : List (RunLine A)) (ended : Ended) (texts : List (List ℕ))
      (old new : SeatState A) : Type 0 where
    pub replies : List (Reply A)
    pub count : HasCount ended (length replies) (length lines)
    pub texts_are : texts ≡ reply_texts lines replies
    pub number : new.number ≡ old.number
    pub calls_are : AreCalls ended (calls old ++ calls_of threads lines replies) (calls new)
    pub seen : IsPrefix old.answered old.seen → IsPrefix new.answered new.seen
    pub goes_on : GoesOn old new
    pub events : HasSeen ended new

  -- a worker that had this seat has called its lines of a block
  abbrev pub HasWorked : ℕ → List (RunLine A) → SeatState A → Work A → Type 0
  HasWorked threads block old new =
      HasCalledLines threads (seat_lines threads old.number block) new.ended new.texts old new.seat

  -- out of memory, or the fault that ended one of the workers
  abbrev pub IsFaultOf : List (Work A) → Ended → Type 0
  IsFaultOf works (Ok done) = Unit {0}
  IsFaultOf works (Err fault) = (fault ≡ OutOfMemory) ⊎ Any (λ work. work.ended ≡ Err fault) works

  -- those of the texts that are of a seat's lines
  abbrev pub texts_of : ℕ → ℕ → List (RunLine A) → List (List ℕ) → List (List ℕ)
  texts_of threads number [] texts = []
  texts_of threads number (line ∷ lines) [] = []
  texts_of threads number (line ∷ lines) (text ∷ texts) =
      if nat_eq (seat_of threads line.line.worker) number then text ∷ texts_of threads number lines texts
      else texts_of threads number lines texts

  -- The text has a part for each line, in the order of the lines, up to the first without a reply. The parts
  -- of each seat's lines are a prefix of that seat's texts.
  pub record Gathers (threads : ℕ) (lines : List (RunLine A)) (texts : List (List (List ℕ))) (ended : Ended)
      (text : List ℕ) : Type 0 where
    pub parts : List (List ℕ)
    pub count : HasCount ended (length parts) (length lines)
    pub text_is : text ≡ concat parts
    pub of_seats : (number : ℕ) → IsPrefix (texts_of threads number lines parts) (get_or texts number [])

  -- the seat has made its own of these calls
  pub record HasCalledOwn (ended : Ended) (made : List (Event A)) (old new : SeatState A) : Type 0 where
    pub number : new.number ≡ old.number
    pub calls_are : AreCalls ended (calls old ++ own old.number made) (calls new)
    pub seen : IsPrefix old.answered old.seen → IsPrefix new.answered new.seen

  -- one of the seats has seen as many events as the fault reports
  abbrev pub OneHasSeen : Ended → List (SeatState A) → Type 0
  OneHasSeen ended seats = ReportsEvents (λ count. Any (λ seat. count ≤ length seat.seen) seats) ended

  -- `front` has the calls that the seat had made before and its own of these, first. It has no more of the
  -- seat's calls, or the seat has made no more.
  pub record HasCut (front made : List (Event A)) (old new : SeatState A) : Type 0 where
    pub number : new.number ≡ old.number
    pub has : IsPrefix (calls old ++ own old.number made) (own old.number front)
    pub no_more : (calls new ≡ calls old ++ own old.number made)
        ⊎ IsPrefix (own old.number front) (calls old ++ own old.number made)

  -- a history that the first seat has seen divides the calls of the seats after these
  pub record AreCut (made : List (Event A)) (old new : List (SeatState A)) : Type 0 where
    pub front : List (Event A)
    pub seen : IsPrefix front (first_seen new)
    pub seats : AllZip (HasCut front made) old new

  -- The first seat has seen what the others have seen. What the seats have called stands behind all that it
  -- had seen before, and what they have called behind the end of a block stands behind the calls up to there.
  pub record AreInOrder (threads : ℕ) (lines : List (RunLine A)) (replies : List (Reply A))
      (old new : List (SeatState A)) : Type 0 where
    pub met : FirstHasMet new
    pub seen : IsPrefix (first_seen old) (first_seen new)
    pub behind : AllZip (CallsBehind (first_seen old)) old new
    pub blocks : EachBlock lines replies (λ before behind. AreCut (calls_of threads before replies) old new)

  -- The seats have called these lines, each its own in their order, up to one that has no reply. This is the
  -- text of the replies, in the order of the lines.
  pub record HaveCalled (threads : ℕ) (lines : List (RunLine A)) (ended : Ended) (text : List ℕ)
      (old new : List (SeatState A)) : Type 0 where
    pub replies : List (Reply A)
    pub count : HasCount ended (length replies) (length lines)
    pub text_is : text ≡ reply_lines lines replies
    pub seats : AllZip (HasCalledOwn ended (calls_of threads lines replies)) old new
    pub events : OneHasSeen ended new
    pub order : FirstHasMet old → AreInOrder threads lines replies old new

  -- each seat's number is its index
  abbrev pub AreNumbered : (ℕ → ℕ) → List (SeatState A) → Type 0
  AreNumbered number [] = Unit {0}
  AreNumbered number (seat ∷ seats) =
      (seat.number ≡ number 0) × AreNumbered (λ place. number (suc place)) seats

  -- seat 0 and the seats of this many workers
  abbrev pub AreSeats : ℕ → List (SeatState A) → Type 0
  AreSeats threads seats = (length seats ≡ threads + 1) × AreNumbered (λ place. place) seats

-- how a run ends whose server was not closed
abbrev pub unclosed_outcome : Result (Unit {0}) RunFault → Result (Unit {0}) RunFault
unclosed_outcome (Ok done) = Err Close
unclosed_outcome (Err fault) = Err fault

module _ {A : Type 0} where
  -- How lines ended that the seats have called, and what of the text of their replies was written. Where a
  -- write failed some of the lines may not have been called.
  abbrev pub RunsLines : ReplyForm → ℕ → List (RunLine A) → Result (Unit {0}) RunFault → List (SeatState A)
      → List (SeatState A) → Known → Known → Type 0
  RunsLines form threads lines (Ok done) a b old new =
      (text : List ℕ) × HaveCalled threads lines (Ok done) text a b × Appends old new text
  RunsLines form threads lines (Err (Call fault)) a b old new =
      (text : List ℕ) × HaveCalled threads lines (Err fault) text a b
      × Appends old new (text ++ ending form (Err fault))
  RunsLines form threads lines (Err Write) a b old new =
      (called : List (RunLine A)) × (others : List (RunLine A)) × (ended : Ended) × (text : List ℕ)
      × (lines ≡ called ++ others) × HaveCalled threads called ended text a b
      × AppendsFront old new (text ++ ending form ended)
  RunsLines form threads lines (Err fault) a b old new = ⊥

  -- a prefix of the lines was called, and their replies are written except what is pending
  pub record AreUnder (threads : ℕ) (lines : List (RunLine A)) (rest : LinesLeft) (pending : List ℕ)
      (a b : List (SeatState A)) (old new : Known) : Type 0 where
    pub called : List (RunLine A)
    pub others : List (RunLine A)
    pub parts : lines ≡ called ++ others
    pub spelled : SpellsRun others rest
    pub written : List ℕ
    pub made : HaveCalled threads called (Ok tt) (written ++ pending) a b
    pub wrote : Appends old new written

  -- each of the lines begins with `@`
  abbrev pub EachAt : List (RunLine A) → Type 0
  EachAt [] = Unit {0}
  EachAt (line ∷ lines) = (is_some line.line.worker ≡ true) × EachAt lines

  -- a block is a line and some lines after it, each of which begins with `@`; the rest spells the others
  pub record IsBlock (first : RunLine A) (rest block : List (RunLine A)) (behind : LinesLeft) : Type 0 where
    pub taken : List (RunLine A)
    pub left : List (RunLine A)
    pub block_is : block ≡ first ∷ taken
    pub parts : rest ≡ taken ++ left
    pub each : EachAt taken
    pub spelled : SpellsRun left behind

  -- those up to the next without `@`
  abbrev pub IsWholeBlock : RunLine A → List (RunLine A) → List (RunLine A) → LinesLeft → Type 0
  IsWholeBlock first rest block behind = (so : IsBlock first rest block behind) × (begins_at so.left ≡ false)

  -- A line was called, and some lines after it. The text of their replies is appended to what is pending.
  pub record IsNext (threads : ℕ) (line : RunLine A) (rest : List (RunLine A)) (ended : Ended) (behind : LinesLeft)
      (old new : List ℕ) (a b : List (SeatState A)) : Type 0 where
    pub taken : List (RunLine A)
    pub left : List (RunLine A)
    pub parts : rest ≡ taken ++ left
    pub text : List ℕ
    pub text_is : new ≡ old ++ text
    pub made : HaveCalled threads (line ∷ taken) ended text a b
    pub spelled : OnOk ended (SpellsRun left behind)

  -- how all lines ended, and what of the replies was written
  abbrev pub HaveEnded : ℕ → List (RunLine A) → Ended → List ℕ → List (SeatState A) → List (SeatState A) → Known
      → Known → Type 0
  HaveEnded threads lines ended pending a b old new =
      (written : List ℕ) × HaveCalled threads lines ended (written ++ pending) a b × Appends old new written
