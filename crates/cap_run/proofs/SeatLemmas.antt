-- What lines that seats have called make together.
use Rattle.std.proofs.Common.{◌≡◌, ◌≢◌, ℕ, zero, suc, ◌+◌, ◌<◌, ◌≤◌, List, [], ◌∷◌, ◌++◌, Option, None, Some, Ok, Err, Bool, true, false, length, get_or, map, nat_eq, set, refl, mod-lt, sym, ap, ap₂, subst, ◌∙◌, append_assoc, append-nil, length-append, arith}
use Rattle.std.proofs.lemmas.Bool.Decides.{nat_tests}
use Rattle.std.proofs.lemmas.List.{map_push}
use Rattle.std.proofs.lemmas.List.FromFn.{length-map-range_with_len}
use Rattle.std.specs.List.{AllZip, Any, range_with_len}
use Rattle.std.specs.Prelude.{OnErr, OnOk}
use mathlib.Core.List.{IsPrefix}
use Rattle.cap_core.specs.Answer.{event_by}
use Rattle.cap_core.specs.declared.event.Event.{Event}
use Rattle.cap_core.specs.declared.reply.Reply.{Reply}
use Rattle.cap_history.specs.Beginnings.{prefix-self}
use Rattle.cap_history.specs.History.{own}
use Rattle.cap_history.specs.Own.{own-append}
use Rattle.cap_history.specs.Seat.{SeatState, calls, newcomer}
use Rattle.cap_run.proofs.OrderLemmas.{order_alone, order_longer, order_more, order_none}
use Rattle.cap_interpreter.specs.Lines.{events_max, on_a_line}
use Rattle.cap_run.specs.Run.{Ended}
use Rattle.cap_run.specs.Code.Calls.{AreNumbered, AreSeats, HasCalledLine, HasCalledOwn, HasSeen, HaveCalled, KeepsCalls, reply_texts, seat_lines, texts_of}
use Rattle.cap_run.specs.Workload.{AreCalls, HasCount, ReportsEvents, calls_of, reply_lines, seat_of}
use Rattle.cap_replies.specs.Printed.{reply_text}
use Rattle.cap_replies.specs.declared.run_line.RunLine.{RunLine}
use Rattle.cap_locked.specs.declared.fault.CallFault.{CallFault}
use Rattle.cap_locked.specs.declared.fault.CallFault.TheVariants as call

-- ---- counts and numbers

pub seat_of-most : (threads : ℕ) (worker : Option ℕ) → 1 ≤ threads → seat_of threads worker ≤ threads
seat_of-most threads None some = omega arith
seat_of-most threads (Some number) some = omega (arith, mod-lt number {m = threads} (omega (arith, some)))

pub count_few : (ended : Ended) (count lines : ℕ) → HasCount ended count lines → count ≤ lines
count_few (Ok done) count lines is = omega (arith, is)
count_few (Err fault) count lines is = omega (arith, is)

pub count_more : (ended : Ended) (first lines count others : ℕ) → first ≡ lines → HasCount ended count others → HasCount ended (first + count) (lines + others)
count_more (Ok done) first lines count others same is = omega (arith, same, is)
count_more (Err fault) first lines count others same is = omega (arith, same, is)

pub same_length : {X Y : Type 0} (R : X → Y → Type 0) (a : List X) (b : List Y) → AllZip R a b → length b ≡ length a
same_length R [] [] each = refl
same_length R [] (y ∷ b) each = absurd each
same_length R (x ∷ a) [] each = absurd each
same_length R (x ∷ a) (y ∷ b) each = ap suc (same_length R a b each.1)

-- where each fits its partner, those at one place fit
pub zip-at : {X Y : Type 0} (R : X → Y → Type 0) (a : List X) (b : List Y) (place : ℕ) (d : X) (e : Y) → AllZip R a b → place < length a → R (get_or a place d) (get_or b place e)
zip-at R [] b place d e each within = absurd (omega (arith, within))
zip-at R (x ∷ a) [] place d e each within = absurd each
zip-at R (x ∷ a) (y ∷ b) zero d e each within = each.0
zip-at R (x ∷ a) (y ∷ b) (suc place) d e each within = zip-at R a b place d e each.1 (omega (arith, within))

pub nat_eq-same : (n : ℕ) → nat_eq n n ≡ true
nat_eq-same n = grind (arith, nat_tests)

pub nat_eq-other : (n m : ℕ) → n ≢ m → nat_eq n m ≡ false
nat_eq-other n m other = grind (arith, nat_tests)

pub same-nat_eq : (n m : ℕ) → nat_eq n m ≡ true → n ≡ m
same-nat_eq n m is = grind (arith, nat_tests)

-- what is reported is whatever follows from it
pub reports : (P Q : ℕ → Type 0) → ((count : ℕ) → P count → Q count) → (ended : Ended) → ReportsEvents P ended → ReportsEvents Q ended
reports P Q so (Ok done) has = tt
reports P Q so (Err call.OutOfMemory) has = tt
reports P Q so (Err (call.Overtaken front)) has = so front has
reports P Q so (Err call.HistoryFull) has = so events_max has

module _ {A : Type 0} where
  -- ---- seats of lines

  abbrev pub is_of : ℕ → ℕ → RunLine A → Bool
  is_of threads number line = nat_eq (seat_of threads line.line.worker) number

  pub lines-own : (threads number : ℕ) (line : RunLine A) (lines : List (RunLine A)) → is_of threads number line ≡ true → seat_lines threads number (line ∷ lines) ≡ line ∷ seat_lines threads number lines
  lines-own threads number line lines is = rw is

  pub lines-other : (threads number : ℕ) (line : RunLine A) (lines : List (RunLine A)) → is_of threads number line ≡ false → seat_lines threads number (line ∷ lines) ≡ seat_lines threads number lines
  lines-other threads number line lines is = rw is

  pub texts-own : (threads number : ℕ) (line : RunLine A) (lines : List (RunLine A)) (text : List ℕ) (texts : List (List ℕ)) → is_of threads number line ≡ true
      → texts_of threads number (line ∷ lines) (text ∷ texts) ≡ text ∷ texts_of threads number lines texts
  texts-own threads number line lines text texts is = rw is

  pub texts-other : (threads number : ℕ) (line : RunLine A) (lines : List (RunLine A)) (text : List ℕ) (texts : List (List ℕ)) → is_of threads number line ≡ false
      → texts_of threads number (line ∷ lines) (text ∷ texts) ≡ texts_of threads number lines texts
  texts-other threads number line lines text texts is = rw is

  pub own-one : (number by : ℕ) (event : Event A) (events : List (Event A)) → event.by ≡ by → nat_eq by number ≡ true → own number (event ∷ events) ≡ event ∷ own number events
  own-one number by event events same is = let met : nat_eq event.by number ≡ true = ap (λ n. nat_eq n number) same ∙ is in rw met

  pub own-other : (number by : ℕ) (event : Event A) (events : List (Event A)) → event.by ≡ by → nat_eq by number ≡ false → own number (event ∷ events) ≡ own number events
  own-other number by event events same is = let met : nat_eq event.by number ≡ false = ap (λ n. nat_eq n number) same ∙ is in rw met

  pub reply_texts-none : (lines : List (RunLine A)) → reply_texts lines [] ≡ []
  reply_texts-none [] = refl
  reply_texts-none (line ∷ lines) = refl

  pub reply_lines-none : (lines : List (RunLine A)) → reply_lines lines [] ≡ []
  reply_lines-none [] = refl
  reply_lines-none (line ∷ lines) = refl

  pub calls_of-none : (threads : ℕ) (lines : List (RunLine A)) → calls_of threads lines [] ≡ []
  calls_of-none threads [] = refl
  calls_of-none threads (line ∷ lines) = refl

  -- ---- lines and then others

  pub calls_of-append : (threads : ℕ) (lines others : List (RunLine A)) (replies more : List (Reply A)) → length replies ≡ length lines
      → calls_of threads (lines ++ others) (replies ++ more) ≡ calls_of threads lines replies ++ calls_of threads others more
  calls_of-append threads [] others [] more same = refl
  calls_of-append threads [] others (reply ∷ replies) more same = absurd (omega (arith, same))
  calls_of-append threads (line ∷ lines) others [] more same = absurd (omega (arith, same))
  calls_of-append threads (line ∷ lines) others (reply ∷ replies) more same =
      ap (λ (calls : List (Event A)). event_by (seat_of threads line.line.worker) line.line.command reply ∷ calls) (calls_of-append threads lines others replies more (omega (arith, same)))

  pub reply_lines-append : (lines others : List (RunLine A)) (replies more : List (Reply A)) → length replies ≡ length lines
      → reply_lines (lines ++ others) (replies ++ more) ≡ reply_lines lines replies ++ reply_lines others more
  reply_lines-append [] others [] more same = refl
  reply_lines-append [] others (reply ∷ replies) more same = absurd (omega (arith, same))
  reply_lines-append (line ∷ lines) others [] more same = absurd (omega (arith, same))
  reply_lines-append (line ∷ lines) others (reply ∷ replies) more same =
      let first = on_a_line (reply_text line reply) in
      ap (λ (text : List ℕ). first ++ text) (reply_lines-append lines others replies more (omega (arith, same))) ∙ sym (append_assoc first (reply_lines lines replies) (reply_lines others more))

  -- lines behind those that have replies say nothing
  pub calls_of-longer : (threads : ℕ) (lines others : List (RunLine A)) (replies : List (Reply A)) → length replies ≤ length lines → calls_of threads (lines ++ others) replies ≡ calls_of threads lines replies
  calls_of-longer threads [] others [] few = calls_of-none threads others
  calls_of-longer threads [] others (reply ∷ replies) few = absurd (omega (arith, few))
  calls_of-longer threads (line ∷ lines) others [] few = refl
  calls_of-longer threads (line ∷ lines) others (reply ∷ replies) few =
      ap (λ (calls : List (Event A)). event_by (seat_of threads line.line.worker) line.line.command reply ∷ calls) (calls_of-longer threads lines others replies (omega (arith, few)))

  pub reply_lines-longer : (lines others : List (RunLine A)) (replies : List (Reply A)) → length replies ≤ length lines → reply_lines (lines ++ others) replies ≡ reply_lines lines replies
  reply_lines-longer [] others [] few = reply_lines-none others
  reply_lines-longer [] others (reply ∷ replies) few = absurd (omega (arith, few))
  reply_lines-longer (line ∷ lines) others [] few = refl
  reply_lines-longer (line ∷ lines) others (reply ∷ replies) few = ap (λ (text : List ℕ). on_a_line (reply_text line reply) ++ text) (reply_lines-longer lines others replies (omega (arith, few)))

  -- ---- what seats have called

  pub calls-begin : (ended : Ended) (some all : List (Event A)) → AreCalls ended some all → IsPrefix some all
  calls-begin (Ok done) some all is = subst (λ (l : List (Event A)). IsPrefix some l) (sym is) (prefix-self some)
  calls-begin (Err fault) some all is = is

  -- calls of nobody
  pub own_none : (ended : Ended) (seat : SeatState A) → HasCalledOwn ended [] seat seat
  own_none (Ok done) seat = record { number = refl; calls_are = sym (append-nil (calls seat)); seen = λ so. so }
  own_none (Err fault) seat = record { number = refl; calls_are = subst (λ (l : List (Event A)). IsPrefix l (calls seat)) (sym (append-nil (calls seat))) (prefix-self (calls seat)); seen = λ so. so }

  pub each_none : (ended : Ended) (seats : List (SeatState A)) → AllZip (HasCalledOwn ended []) seats seats
  each_none ended [] = tt
  each_none ended (seat ∷ seats) = (own_none ended seat, each_none ended seats)

  pub called_none : (threads : ℕ) (seats : List (SeatState A)) → HaveCalled threads [] (Ok tt) [] seats seats
  called_none threads seats = record {
    replies = [];
    count = refl;
    text_is = refl;
    seats = each_none (Ok tt) seats;
    events = tt;
    order = λ met. order_none threads [] seats met;
  }

  -- out of memory for the first of some lines
  pub called_refused : (threads : ℕ) (lines : List (RunLine A)) (seats : List (SeatState A)) → 0 < length lines → HaveCalled threads lines (Err call.OutOfMemory) [] seats seats
  called_refused threads lines seats some = record {
    replies = [];
    count = some;
    text_is = sym (reply_lines-none lines);
    seats = subst (λ (made : List (Event A)). AllZip (HasCalledOwn (Err call.OutOfMemory) made) seats seats) (sym (calls_of-none threads lines)) (each_none (Err call.OutOfMemory) seats);
    events = tt;
    order = λ met. order_none threads lines seats met;
  }

  pub own_more : (ended : Ended) (made more : List (Event A)) (a b c : SeatState A) → HasCalledOwn (Ok tt) made a b → HasCalledOwn ended more b c → HasCalledOwn ended (made ++ more) a c
  own_more ended made more a b c first second =
      let together : calls b ++ own b.number more ≡ calls a ++ own a.number (made ++ more) =
      ap₂ (λ (l : List (Event A)) (n : ℕ). l ++ own n more) first.calls_are first.number
      ∙ append_assoc (calls a) (own a.number made) (own a.number more) ∙ ap (λ (l : List (Event A)). calls a ++ l) (sym (own-append a.number made more)) in
      record {
        number = second.number ∙ first.number;
        calls_are = subst (λ (l : List (Event A)). AreCalls ended l (calls c)) together second.calls_are;
        seen = λ so. second.seen (first.seen so);
      }

  pub each_more : (ended : Ended) (made more : List (Event A)) (a b c : List (SeatState A)) → AllZip (HasCalledOwn (Ok tt) made) a b → AllZip (HasCalledOwn ended more) b c
      → AllZip (HasCalledOwn ended (made ++ more)) a c
  each_more ended made more [] [] [] first second = tt
  each_more ended made more [] [] (z ∷ c) first second = absurd second
  each_more ended made more [] (y ∷ b) c first second = absurd first
  each_more ended made more (x ∷ a) [] c first second = absurd first
  each_more ended made more (x ∷ a) (y ∷ b) [] first second = absurd second
  each_more ended made more (x ∷ a) (y ∷ b) (z ∷ c) first second = (own_more ended made more x y z first.0 second.0, each_more ended made more a b c first.1 second.1)

  -- lines, and then others
  pub called_more : (threads : ℕ) (ended : Ended) (lines others : List (RunLine A)) (text more : List ℕ) (a b c : List (SeatState A)) → HaveCalled threads lines (Ok tt) text a b
      → HaveCalled threads others ended more b c → HaveCalled threads (lines ++ others) ended (text ++ more) a c
  called_more threads ended lines others text more a b c first second = record {
    replies = first.replies ++ second.replies;
    count = subst (λ (n : ℕ). HasCount ended n (length (lines ++ others))) (sym (length-append first.replies second.replies))
        (subst (λ (n : ℕ). HasCount ended (length first.replies + length second.replies) n) (sym (length-append lines others))
        (count_more ended (length first.replies) (length lines) (length second.replies) (length others) first.count second.count));
    text_is = ap₂ (λ (t u : List ℕ). t ++ u) first.text_is second.text_is ∙ sym (reply_lines-append lines others first.replies second.replies first.count);
    seats = subst (λ (made : List (Event A)). AllZip (HasCalledOwn ended made) a c) (sym (calls_of-append threads lines others first.replies second.replies first.count))
        (each_more ended (calls_of threads lines first.replies) (calls_of threads others second.replies) a b c first.seats second.seats);
    events = second.events;
    order = λ met.
        let so = first.order met in
        order_more threads lines others first.replies second.replies a b c first.count first.seats so (second.order so.met);
  }

  -- the lines behind the one that has no reply
  pub called_longer : (threads : ℕ) (fault : CallFault) (lines others : List (RunLine A)) (text : List ℕ) (a b : List (SeatState A)) → HaveCalled threads lines (Err fault) text a b
      → HaveCalled threads (lines ++ others) (Err fault) text a b
  called_longer threads fault lines others text a b so =
      let few : length so.replies ≤ length lines = omega (arith, so.count) in
      record {
        replies = so.replies;
        count = omega (arith, so.count, length-append lines others);
        text_is = so.text_is ∙ sym (reply_lines-longer lines others so.replies few);
        seats = subst (λ (made : List (Event A)). AllZip (HasCalledOwn (Err fault) made) a b) (sym (calls_of-longer threads lines others so.replies few)) so.seats;
        events = so.events;
        order = λ met. order_longer threads lines others so.replies a b few (so.order met);
      }

  -- ---- numbers of seats

  pub same_numbers : (ended : Ended) (made : List (Event A)) (number : ℕ → ℕ) (a b : List (SeatState A)) → AllZip (HasCalledOwn ended made) a b → AreNumbered number a → AreNumbered number b
  same_numbers ended made number [] [] each so = tt
  same_numbers ended made number [] (y ∷ b) each so = absurd each
  same_numbers ended made number (x ∷ a) [] each so = absurd each
  same_numbers ended made number (x ∷ a) (y ∷ b) each so = (each.0.number ∙ so.0, same_numbers ended made (λ place. number (suc place)) a b each.1 so.1)

  pub number-at : (number : ℕ → ℕ) (seats : List (SeatState A)) (place : ℕ) (d : SeatState A) → AreNumbered number seats → place < length seats → (get_or seats place d).number ≡ number place
  number-at number [] place d so within = absurd (omega (arith, within))
  number-at number (seat ∷ seats) zero d so within = so.0
  number-at number (seat ∷ seats) (suc place) d so within = number-at (λ p. number (suc p)) seats place d so.1 (omega (arith, within))

  -- the seats stay seats
  pub still_seats : (threads : ℕ) (lines : List (RunLine A)) (ended : Ended) (text : List ℕ) (a b : List (SeatState A)) → HaveCalled threads lines ended text a b → AreSeats threads a → AreSeats threads b
  still_seats threads lines ended text a b so seats =
      let made = calls_of threads lines so.replies in
      (same_length (HasCalledOwn ended made) a b so.seats ∙ seats.0, same_numbers ended made (λ place. place) a b so.seats seats.1)

  pub numbers_agree : (f g : ℕ → ℕ) (seats : List (SeatState A)) → ((place : ℕ) → f place ≡ g place) → AreNumbered f seats → AreNumbered g seats
  numbers_agree f g [] agree so = tt
  numbers_agree f g (seat ∷ seats) agree so = (so.0 ∙ agree 0, numbers_agree (λ place. f (suc place)) (λ place. g (suc place)) seats (λ place. agree (suc place)) so.1)

  -- ---- a line of the first seat

  pub first-own : (threads : ℕ) (line : RunLine A) (reply : Reply A) → line.line.worker ≡ None → calls_of threads (line ∷ []) (reply ∷ []) ≡ event_by 0 line.line.command reply ∷ []
  first-own threads line reply is = ap (λ (worker : Option ℕ). event_by (seat_of threads worker) line.line.command reply ∷ []) is

  pub others_none : (ended : Ended) (event : Event A) (number : ℕ → ℕ) (seats : List (SeatState A)) → event.by ≡ 0 → AreNumbered (λ place. suc (number place)) seats
      → AllZip (HasCalledOwn ended (event ∷ [])) seats seats
  others_none ended event number [] by so = tt
  others_none ended event number (seat ∷ seats) by so =
      let none : own seat.number (event ∷ []) ≡ own seat.number [] = own-other seat.number 0 event [] by (nat_eq-other 0 seat.number (λ same. absurd (omega (arith, same, so.0)))) in
      let nothing = own_none ended seat in (
        record { number = nothing.number; calls_are = subst (λ (l : List (Event A)). AreCalls ended (calls seat ++ l) (calls seat)) (sym none) nothing.calls_are; seen = nothing.seen },
        others_none ended event (λ place. number (suc place)) seats by so.1,
      )

  -- the first seat's line has its reply
  pub first_called : (threads : ℕ) (line : RunLine A) (text : List ℕ) (old new : SeatState A) (seats : List (SeatState A)) → line.line.worker ≡ None → AreNumbered (λ place. place) (old ∷ seats)
      → HasCalledLine line text old new → HaveCalled threads (line ∷ []) (Ok tt) text (old ∷ seats) (new ∷ seats)
  first_called threads line text old new seats alone so answered =
      let event = event_by 0 line.line.command answered.reply in
      let its : own old.number (event ∷ []) ≡ event ∷ [] = own-one old.number 0 event [] refl (ap (λ n. nat_eq 0 n) so.0) in
      let made : event_by old.number line.line.command answered.reply ≡ event = ap (λ (n : ℕ). event_by n line.line.command answered.reply) so.0 in
      let each = subst (λ (l : List (Event A)). AllZip (HasCalledOwn (Ok tt) l) (old ∷ seats) (new ∷ seats)) (sym (first-own threads line answered.reply alone)) (
        record {
          number = answered.number;
          calls_are = answered.calls_are ∙ ap (λ (e : Event A). calls old ++ e ∷ []) made ∙ ap (λ (l : List (Event A)). calls old ++ l) (sym its);
          seen = λ before. answered.seen;
        },
        others_none (Ok tt) event (λ place. place) seats refl so.1,
      ) in
      record {
        replies = answered.reply ∷ [];
        count = refl;
        text_is = answered.text_is ∙ sym (append-nil (on_a_line (reply_text line answered.reply)));
        seats = each;
        events = tt;
        order = λ met. order_alone threads line (Ok tt) (answered.reply ∷ []) old new seats refl each answered.goes_on met;
      }

  -- it has none
  pub first_refused : (threads : ℕ) (fault : CallFault) (line : RunLine A) (old new : SeatState A) (seats : List (SeatState A)) → KeepsCalls old new → HasSeen (Err fault) new
      → HaveCalled threads (line ∷ []) (Err fault) [] (old ∷ seats) (new ∷ seats)
  first_refused threads fault line old new seats so events =
      let each : AllZip (HasCalledOwn (Err fault) []) (old ∷ seats) (new ∷ seats) = (
        record { number = so.number; calls_are = subst (λ (l : List (Event A)). IsPrefix l (calls new)) (sym (append-nil (calls old))) so.begins; seen = so.seen },
        each_none (Err fault) seats,
      ) in
      record {
        replies = [];
        count = omega arith;
        text_is = refl;
        seats = each;
        events = reports (λ count. length new.seen ≡ count) (λ count. Any (λ (seat : SeatState A). count ≤ length seat.seen) (new ∷ seats)) (λ count same. (0, new, omega arith, refl, omega (arith, same))) (Err fault) events;
        order = λ met. order_alone threads line (Err fault) [] old new seats (omega arith) each so.goes_on met;
      }

  -- ---- workers, each with a seat

  module _ {W : Type 0} (seat : W → SeatState A) where
    -- a worker for one seat more
    pub workers_made : (workers more : List W) (worker : W) (seats before left : List (SeatState A)) → map seat workers ++ before ≡ seats → before ≡ seat worker ∷ left → more ≡ workers ++ worker ∷ []
        → map seat more ++ left ≡ seats
    workers_made workers more worker seats before left so first is =
        ap (λ (l : List W). map seat l ++ left) is ∙ ap (λ (l : List (SeatState A)). l ++ left) (map_push seat workers worker) ∙ append_assoc (map seat workers) (seat worker ∷ []) left
        ∙ sym (ap (λ (l : List (SeatState A)). map seat workers ++ l) first) ∙ so

    -- the seat of one worker more is taken
    pub seats_taken : (seats more all : List (SeatState A)) (before left : List W) (worker : W) → seats ++ map seat before ≡ all → before ≡ worker ∷ left → more ≡ seats ++ seat worker ∷ []
        → more ++ map seat left ≡ all
    seats_taken seats more all before left worker so first is =
        ap (λ (l : List (SeatState A)). l ++ map seat left) is ∙ append_assoc seats (seat worker ∷ []) (map seat left) ∙ sym (ap (λ (l : List W). seats ++ map seat l) first) ∙ so

    alone_called : (threads : ℕ) (line : RunLine A) (text : List ℕ) (workers : List W) (first new : W) → AreSeats threads (map seat workers) → line.line.worker ≡ None → first ≡ get_or workers 0 first
        → HasCalledLine line text (seat first) (seat new) → HaveCalled threads (line ∷ []) (Ok tt) text (map seat workers) (map seat (set workers 0 new))
    alone_called threads line text [] first new so alone is answered = absurd (omega (arith, so.0))
    alone_called threads line text (x ∷ workers) first new so alone is answered =
        first_called threads line text (seat x) (seat new) (map seat workers) alone so.1 (subst (λ (w : W). HasCalledLine line text (seat w) (seat new)) is answered)

    alone_refused : (threads : ℕ) (fault : CallFault) (line : RunLine A) (workers : List W) (first new : W) → AreSeats threads (map seat workers) → first ≡ get_or workers 0 first
        → KeepsCalls (seat first) (seat new) → HasSeen (Err fault) (seat new) → HaveCalled threads (line ∷ []) (Err fault) [] (map seat workers) (map seat (set workers 0 new))
    alone_refused threads fault line [] first new so is keeps events = absurd (omega (arith, so.0))
    alone_refused threads fault line (x ∷ workers) first new so is keeps events =
        first_refused threads fault line (seat x) (seat new) (map seat workers) (subst (λ (w : W). KeepsCalls (seat w) (seat new)) is keeps) events

    -- the first worker called a line
    pub called_alone : (threads : ℕ) (line : RunLine A) (ended : Ended) (old new : List ℕ) (workers : List W) (first next : W) → AreSeats threads (map seat workers) → line.line.worker ≡ None → first ≡ get_or workers 0 first
        → OnOk ended ((text : List ℕ) × (new ≡ old ++ text) × HasCalledLine line text (seat first) (seat next)) → OnErr ended ((new ≡ old) × KeepsCalls (seat first) (seat next))
        → HasSeen ended (seat next) → (text : List ℕ) × (new ≡ old ++ text) × HaveCalled threads (line ∷ []) ended text (map seat workers) (map seat (set workers 0 next))
    called_alone threads line (Ok done) old new workers first next so alone is answered refused events =
        (answered.0, answered.1, alone_called threads line answered.0 workers first next so alone is answered.2)
    called_alone threads line (Err fault) old new workers first next so alone is answered refused events =
        ([], refused.0 ∙ sym (append-nil old), alone_refused threads fault line workers first next so is refused.1 events)

    -- there is a first one
    pub some_worker : (threads : ℕ) (workers : List W) → AreSeats threads (map seat workers) → 0 < length workers
    some_worker threads [] so = absurd (omega (arith, so.0))
    some_worker threads (x ∷ workers) so = omega arith

pub newcomers_from : (A : Type 0) (first count : ℕ) → AreNumbered (λ place. first + place) (map (newcomer {A = A}) (range_with_len first count))
newcomers_from A first zero = tt
newcomers_from A first (suc count) =
    (omega arith, numbers_agree (λ place. (first + 1) + place) (λ place. first + suc place) (map (newcomer {A = A}) (range_with_len (first + 1) count)) (λ place. omega arith) (newcomers_from A (first + 1) count))

pub newcomers_seats : (A : Type 0) (threads : ℕ) → AreSeats threads (map (newcomer {A = A}) (range_with_len 0 (threads + 1)))
newcomers_seats A threads = (length-map-range_with_len (newcomer {A = A}) 0 (threads + 1), numbers_agree (λ place. 0 + place) (λ place. place) (map (newcomer {A = A}) (range_with_len 0 (threads + 1))) (λ place. omega arith) (newcomers_from A 0 (threads + 1)))
