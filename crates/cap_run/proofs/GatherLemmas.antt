-- The texts of all workers' replies, put together in the order of the lines.
use Rattle.std.proofs.Common.{◌≡◌, ℕ, zero, suc, ◌+◌, ◌<◌, ◌≤◌, List, [], ◌∷◌, ◌++◌, Ok, Err, true, false, length, map, nat_eq, drop, get_or, take, take-append-drop, take_all, if◌then◌else◌, inl, inr, refl, replicate, set, sym, ap, ap₂, subst, ◌∙◌, append_assoc, append-nil, length-append, arith}
use Rattle.std.proofs.lemmas.Bool.{cases_Bool, cases_eq, cases_lt}
use Rattle.std.proofs.lemmas.List.{drop_more, get_or-map, map_push, take_more, get_or-replicate, get_or-set_other, get_or-set_same, length-replicate, length-set}
use Rattle.std.proofs.lemmas.List.Folds.{concat-append}
use Rattle.std.proofs.lemmas.Simd.{map-map}
use Rattle.std.specs.List.{AllZip, Any, concat}
use Rattle.std.proofs.lemmas.List.{length-map}
use mathlib.Core.List.{IsPrefix}
use Rattle.cap_core.specs.Answer.{event_by}
use Rattle.cap_core.specs.declared.event.Event.{Event}
use Rattle.cap_core.specs.declared.reply.Reply.{Reply}
use Rattle.cap_history.specs.Beginnings.{prefix-length, prefix-of-none, prefix-trans}
use Rattle.cap_history.specs.History.{own}
use Rattle.cap_history.specs.Seat.{SeatState, calls, newcomer}
use Rattle.cap_run.proofs.OrderLemmas.{each_met_called, order_block}
use Rattle.cap_run.proofs.SeatLemmas.{calls-begin, count_few, is_of, lines-other, lines-own, nat_eq-other, nat_eq-same, number-at, own-one, own-other, reply_texts-none, reports, same-nat_eq, same_length, seat_of-most, texts-other, texts-own, zip-at}
use Rattle.cap_run.proofs.WorkerLemmas.{seat_lines-parts, seat_lines-some}
use Rattle.cap_interpreter.specs.Lines.{on_a_line}
use Rattle.cap_run.specs.Run.{Ended}
use Rattle.cap_run.specs.Code.Calls.{AreNumbered, AreSeats, EachAt, EachSawIn, Gathers, GoesOn, HasMet, first_seen, HasCalledLines, HasCalledOwn, HasSeen, HasWorked, HaveCalled, IsFaultOf, OneHasSeen, Work, reply_texts, seat_lines, texts_of, work}
use Rattle.cap_run.specs.Workload.{HasCount, calls_of, reply_lines, seat_of}
use Rattle.cap_replies.specs.Printed.{reply_text}
use Rattle.cap_replies.specs.declared.run_line.RunLine.{RunLine}
use Rattle.cap_locked.specs.declared.fault.CallFault.{CallFault}

pub take-begins : {X : Type 0} (n : ℕ) (xs : List X) → IsPrefix (take n xs) xs
take-begins n xs = (drop n xs, take-append-drop n xs)

get_or-any : {X : Type 0} (xs : List X) (place : ℕ) (d e : X) → place < length xs → get_or xs place d ≡ get_or xs place e
get_or-any [] place d e within = absurd (omega (arith, within))
get_or-any (x ∷ xs) zero d e within = refl
get_or-any (x ∷ xs) (suc place) d e within = get_or-any xs place d e (omega (arith, within))

module _ {A : Type 0} where
  -- ---- the texts of all workers, in the order of the lines

  pub replies_of : (threads : ℕ) (lines : List (RunLine A)) (old : List (SeatState A)) (new : List (Work A)) → AllZip (HasWorked threads lines) old new → ℕ → List (Reply A)
  replies_of threads lines [] [] each place = []
  replies_of threads lines [] (y ∷ new) each place = []
  replies_of threads lines (x ∷ old) [] each place = []
  replies_of threads lines (x ∷ old) (y ∷ new) each zero = each.0.replies
  replies_of threads lines (x ∷ old) (y ∷ new) each (suc place) = replies_of threads lines old new each.1 place

  abbrev pub seats_of : List (Work A) → List (SeatState A)
  seats_of works = map (λ work. work.seat) works

  abbrev pub all_texts : List (Work A) → List (List (List ℕ))
  all_texts works = map (λ work. work.texts) works

  pub texts_at : (threads : ℕ) (lines : List (RunLine A)) (number : ℕ → ℕ) (old : List (SeatState A)) (new : List (Work A)) (each : AllZip (HasWorked threads lines) old new) → AreNumbered number old → (place : ℕ)
      → get_or (all_texts new) place [] ≡ reply_texts (seat_lines threads (number place) lines) (replies_of threads lines old new each place)
  unfolding replies_of
  texts_at threads lines number [] [] each so place = sym (reply_texts-none (seat_lines threads (number place) lines))
  texts_at threads lines number [] (y ∷ new) each so place = absurd each
  texts_at threads lines number (x ∷ old) [] each so place = absurd each
  texts_at threads lines number (x ∷ old) (y ∷ new) each so zero =
      each.0.texts_are ∙ ap (λ (n : ℕ). reply_texts (seat_lines threads n lines) each.0.replies) so.0
  texts_at threads lines number (x ∷ old) (y ∷ new) each so (suc place) = texts_at threads lines (λ p. number (suc p)) old new each.1 so.1 place

  worked-numbers : (threads : ℕ) (lines : List (RunLine A)) (number : ℕ → ℕ) (old : List (SeatState A)) (new : List (Work A)) → AllZip (HasWorked threads lines) old new → AreNumbered number old
      → AreNumbered number (seats_of new)
  worked-numbers threads lines number [] [] each so = tt
  worked-numbers threads lines number [] (y ∷ new) each so = absurd each
  worked-numbers threads lines number (x ∷ old) [] each so = absurd each
  worked-numbers threads lines number (x ∷ old) (y ∷ new) each so = (each.0.number ∙ so.0, worked-numbers threads lines (λ place. number (suc place)) old new each.1 so.1)

  -- after a block the seats are still numbered by their places
  pub worked_seats : (threads : ℕ) (lines : List (RunLine A)) (old : List (SeatState A)) (new : List (Work A)) → AllZip (HasWorked threads lines) old new → AreSeats threads old → AreSeats threads (seats_of new)
  worked_seats threads lines old new each so =
      (length-map new (λ work. work.seat) ∙ same_length (HasWorked threads lines) old new each ∙ so.0, worked-numbers threads lines (λ place. place) old new each so.1)

  -- one worker more
  pub worked_push : (threads : ℕ) (lines : List (RunLine A)) (old : List (SeatState A)) (new : List (Work A)) (seat : SeatState A) (done : Work A) → AllZip (HasWorked threads lines) old new
      → HasWorked threads lines seat done → AllZip (HasWorked threads lines) (old ++ seat ∷ []) (new ++ done ∷ [])
  worked_push threads lines [] [] seat done each so = (so, tt)
  worked_push threads lines [] (y ∷ new) seat done each so = absurd each
  worked_push threads lines (x ∷ old) [] seat done each so = absurd each
  worked_push threads lines (x ∷ old) (y ∷ new) seat done each so = (each.0, worked_push threads lines old new seat done each.1 so)

  -- a worker is put back behind those that have ended
  pub worked_back : {W : Type 0} (seat : W → SeatState A) (made : W → Work A) (threads : ℕ) (block : List (RunLine A)) (before rest done all : List W) (worker back : W) → before ≡ rest ++ worker ∷ []
      → all ≡ done ++ back ∷ [] → AllZip (HasWorked threads block) (map seat rest) (map made done) → HasWorked threads block (seat worker) (made back)
      → AllZip (HasWorked threads block) (map seat before) (map made all)
  worked_back {W} seat made threads block before rest done all worker back before_is all_is each so =
      subst (λ (l : List W). AllZip (HasWorked threads block) (map seat l) (map made all)) (sym before_is)
      (subst (λ (l : List W). AllZip (HasWorked threads block) (map seat (rest ++ worker ∷ [])) (map made l)) (sym all_is)
      (subst (λ (l : List (SeatState A)). AllZip (HasWorked threads block) l (map made (done ++ back ∷ []))) (sym (map_push seat rest worker))
      (subst (λ (l : List (Work A)). AllZip (HasWorked threads block) (map seat rest ++ seat worker ∷ []) l) (sym (map_push made done back))
      (worked_push threads block (map seat rest) (map made done) (seat worker) (made back) each so))))

  -- The replies to the lines that have texts, put together of those of each seat.
  pub record Merged (threads : ℕ) (lines : List (RunLine A)) (parts : List (List ℕ)) (replies_by : ℕ → List (Reply A)) : Type 0 where
    pub replies : List (Reply A)
    pub counted : length replies ≡ length parts
    pub parts_are : parts ≡ reply_texts lines replies
    pub begins : (number : ℕ) → IsPrefix (own number (calls_of threads lines replies)) (calls_of threads (seat_lines threads number lines) (replies_by number))
    pub whole : length parts ≡ length lines → (number : ℕ) → own number (calls_of threads lines replies) ≡ calls_of threads (seat_lines threads number lines) (replies_by number)

  -- the replies of a seat without its first
  abbrev pub without : ℕ → List (Reply A) → (ℕ → List (Reply A)) → ℕ → List (Reply A)
  without seat rest replies_by number = if nat_eq seat number then rest else replies_by number

  pub without-own : (seat number : ℕ) (rest : List (Reply A)) (replies_by : ℕ → List (Reply A)) → nat_eq seat number ≡ true → without seat rest replies_by number ≡ rest
  without-own seat number rest replies_by is = rw is

  pub without-other : (seat number : ℕ) (rest : List (Reply A)) (replies_by : ℕ → List (Reply A)) → nat_eq seat number ≡ false → without seat rest replies_by number ≡ replies_by number
  without-other seat number rest replies_by is = rw is

  -- what the texts of each seat have to be
  abbrev pub Has : ℕ → List (RunLine A) → List (List ℕ) → (ℕ → List (Reply A)) → Type 0
  Has threads lines parts replies_by = (number : ℕ) → IsPrefix (texts_of threads number lines parts) (reply_texts (seat_lines threads number lines) (replies_by number))

  -- a first text, and the reply of which it is
  pub record First (threads : ℕ) (line : RunLine A) (lines : List (RunLine A)) (text : List ℕ) (parts : List (List ℕ)) (replies : List (Reply A)) : Type 0 where
    pub reply : Reply A
    pub rest : List (Reply A)
    pub is : replies ≡ reply ∷ rest
    pub text_is : text ≡ on_a_line (reply_text line reply)
    pub others : IsPrefix (texts_of threads (seat_of threads line.line.worker) lines parts) (reply_texts (seat_lines threads (seat_of threads line.line.worker) lines) rest)

  pub first_of : (threads : ℕ) (line : RunLine A) (lines : List (RunLine A)) (text : List ℕ) (parts : List (List ℕ)) (replies : List (Reply A))
      → IsPrefix (text ∷ texts_of threads (seat_of threads line.line.worker) lines parts) (reply_texts (line ∷ seat_lines threads (seat_of threads line.line.worker) lines) replies)
      → First threads line lines text parts replies
  first_of threads line lines text parts [] begins = absurd (cc (begins.1))
  first_of threads line lines text parts (reply ∷ rest) begins = record {
    reply = reply;
    rest = rest;
    is = refl;
    text_is = cc (begins.1);
    others = (begins.0, cc (begins.1));
  }

  pub first-has : (threads : ℕ) (line : RunLine A) (lines : List (RunLine A)) (text : List ℕ) (parts : List (List ℕ)) (replies_by : ℕ → List (Reply A)) → Has threads (line ∷ lines) (text ∷ parts) replies_by
      → First threads line lines text parts (replies_by (seat_of threads line.line.worker))
  first-has threads line lines text parts replies_by has =
      let seat = seat_of threads line.line.worker in
      let same = nat_eq-same seat in
      first_of threads line lines text parts (replies_by seat)
      (subst (λ (l : List (RunLine A)). IsPrefix (text ∷ texts_of threads seat lines parts) (reply_texts l (replies_by seat))) (lines-own threads seat line lines same)
      (subst (λ (l : List (List ℕ)). IsPrefix l (reply_texts (seat_lines threads seat (line ∷ lines)) (replies_by seat))) (texts-own threads seat line lines text parts same) (has seat)))

  pub rest-has : (threads : ℕ) (line : RunLine A) (lines : List (RunLine A)) (text : List ℕ) (parts : List (List ℕ)) (replies_by : ℕ → List (Reply A)) (has : Has threads (line ∷ lines) (text ∷ parts) replies_by)
      (first : First threads line lines text parts (replies_by (seat_of threads line.line.worker))) → Has threads lines parts (without (seat_of threads line.line.worker) first.rest replies_by)
  rest-has threads line lines text parts replies_by has first number =
      let seat = seat_of threads line.line.worker in
      elim (cases_Bool (nat_eq seat number)) [
        | inl same ↦
            let at : seat ≡ number = same-nat_eq seat number same in
            subst (λ (l : List (Reply A)). IsPrefix (texts_of threads number lines parts) (reply_texts (seat_lines threads number lines) l)) (sym (without-own seat number first.rest replies_by same))
            (subst (λ (n : ℕ). IsPrefix (texts_of threads n lines parts) (reply_texts (seat_lines threads n lines) first.rest)) at first.others)
        | inr other ↦
            subst (λ (l : List (Reply A)). IsPrefix (texts_of threads number lines parts) (reply_texts (seat_lines threads number lines) l)) (sym (without-other seat number first.rest replies_by other))
            (subst (λ (l : List (RunLine A)). IsPrefix (texts_of threads number lines parts) (reply_texts l (replies_by number))) (lines-other threads number line lines other)
            (subst (λ (l : List (List ℕ)). IsPrefix l (reply_texts (seat_lines threads number (line ∷ lines)) (replies_by number))) (texts-other threads number line lines text parts other) (has number)))
      ]

  -- the first call among those of a seat
  abbrev pub IsCallsOf : (List (Event A) → List (Event A) → Type 0) → ℕ → ℕ → List (RunLine A) → List (Reply A) → List (Reply A) → Type 0
  IsCallsOf R threads number lines all replies = R (own number (calls_of threads lines all)) (calls_of threads (seat_lines threads number lines) replies)

  pub calls-first : (R : List (Event A) → List (Event A) → Type 0) → ((e : Event A) (xs ys : List (Event A)) → R xs ys → R (e ∷ xs) (e ∷ ys)) → (threads number : ℕ) (line : RunLine A) (lines : List (RunLine A))
      (text : List ℕ) (parts : List (List ℕ)) (replies_by : ℕ → List (Reply A)) (first : First threads line lines text parts (replies_by (seat_of threads line.line.worker))) (all : List (Reply A))
      → IsCallsOf R threads number lines all (without (seat_of threads line.line.worker) first.rest replies_by number)
      → IsCallsOf R threads number (line ∷ lines) (first.reply ∷ all) (replies_by number)
  calls-first R push threads number line lines text parts replies_by first all so =
      let seat = seat_of threads line.line.worker in
      let event = event_by seat line.line.command first.reply in
      elim (cases_Bool (nat_eq seat number)) [
        | inl same ↦
            let at : seat ≡ number = same-nat_eq seat number same in
            let replies_are : replies_by number ≡ first.reply ∷ first.rest = ap replies_by (sym at) ∙ first.is in
            let rest : IsCallsOf R threads number lines all first.rest = subst (λ (l : List (Reply A)). IsCallsOf R threads number lines all l) (without-own seat number first.rest replies_by same) so in
            let pushed = push event (own number (calls_of threads lines all)) (calls_of threads (seat_lines threads number lines) first.rest) rest in
            subst (λ (l : List (Reply A)). IsCallsOf R threads number (line ∷ lines) (first.reply ∷ all) l) (sym replies_are)
            (subst (λ (l : List (RunLine A)). R (own number (calls_of threads (line ∷ lines) (first.reply ∷ all))) (calls_of threads l (first.reply ∷ first.rest))) (sym (lines-own threads number line lines same))
            (subst (λ (l : List (Event A)). R l (calls_of threads (line ∷ seat_lines threads number lines) (first.reply ∷ first.rest))) (sym (own-one number seat event (calls_of threads lines all) refl same)) pushed))
        | inr other ↦
            let rest : IsCallsOf R threads number lines all (replies_by number) = subst (λ (l : List (Reply A)). IsCallsOf R threads number lines all l) (without-other seat number first.rest replies_by other) so in
            subst (λ (l : List (RunLine A)). R (own number (calls_of threads (line ∷ lines) (first.reply ∷ all))) (calls_of threads l (replies_by number))) (sym (lines-other threads number line lines other))
            (subst (λ (l : List (Event A)). R l (calls_of threads (seat_lines threads number lines) (replies_by number))) (sym (own-other number seat event (calls_of threads lines all) refl other)) rest)
      ]

  pub push-prefix : (e : Event A) (xs ys : List (Event A)) → IsPrefix xs ys → IsPrefix (e ∷ xs) (e ∷ ys)
  push-prefix e xs ys so = (so.0, ap (λ (l : List (Event A)). e ∷ l) so.1)

  pub merged : (threads : ℕ) (lines : List (RunLine A)) (parts : List (List ℕ)) (replies_by : ℕ → List (Reply A)) → length parts ≤ length lines → Has threads lines parts replies_by → Merged threads lines parts replies_by
  merged threads [] [] replies_by few has = record { replies = []; counted = refl; parts_are = refl; begins = λ number. prefix-of-none []; whole = λ all number. refl }
  merged threads [] (text ∷ parts) replies_by few has = absurd (omega (arith, few))
  merged threads (line ∷ lines) [] replies_by few has = record {
    replies = [];
    counted = refl;
    parts_are = refl;
    begins = λ number. prefix-of-none (calls_of threads (seat_lines threads number (line ∷ lines)) (replies_by number));
    whole = λ all number. absurd (omega (arith, all));
  }
  merged threads (line ∷ lines) (text ∷ parts) replies_by few has =
      let seat = seat_of threads line.line.worker in
      let first = first-has threads line lines text parts replies_by has in
      let rest = merged threads lines parts (without seat first.rest replies_by) (omega (arith, few)) (rest-has threads line lines text parts replies_by has first) in
      record {
        replies = first.reply ∷ rest.replies;
        counted = ap suc rest.counted;
        parts_are = ap₂ (λ (t : List ℕ) (l : List (List ℕ)). t ∷ l) first.text_is rest.parts_are;
        begins = λ number. calls-first IsPrefix push-prefix threads number line lines text parts replies_by first rest.replies (rest.begins number);
        whole = λ all number. calls-first (λ xs ys. xs ≡ ys) (λ e xs ys so. ap (λ (l : List (Event A)). e ∷ l) so) threads number line lines text parts replies_by first rest.replies
            (rest.whole (omega (arith, all)) number);
      }

  pub concat-texts : (lines : List (RunLine A)) (replies : List (Reply A)) → concat (reply_texts lines replies) ≡ reply_lines lines replies
  concat-texts [] replies = refl
  concat-texts (line ∷ lines) [] = refl
  concat-texts (line ∷ lines) (reply ∷ replies) = ap (λ (text : List ℕ). on_a_line (reply_text line reply) ++ text) (concat-texts lines replies)

  pub length-texts : (lines : List (RunLine A)) (replies : List (Reply A)) → length replies ≤ length lines → length (reply_texts lines replies) ≡ length replies
  length-texts [] [] few = refl
  length-texts [] (reply ∷ replies) few = absurd (omega (arith, few))
  length-texts (line ∷ lines) [] few = refl
  length-texts (line ∷ lines) (reply ∷ replies) few = ap suc (length-texts lines replies (omega (arith, few)))

  -- where each line has a text each line of a seat has one
  pub length-texts_of : (threads number : ℕ) (lines : List (RunLine A)) (parts : List (List ℕ)) → length parts ≡ length lines → length (texts_of threads number lines parts) ≡ length (seat_lines threads number lines)
  length-texts_of threads number [] parts all = refl
  length-texts_of threads number (line ∷ lines) [] all = absurd (omega (arith, all))
  length-texts_of threads number (line ∷ lines) (text ∷ parts) all =
      let rest = length-texts_of threads number lines parts (omega (arith, all)) in
      elim (cases_Bool (is_of threads number line)) [
        | inl same ↦ ap length (texts-own threads number line lines text parts same) ∙ ap suc rest ∙ sym (ap length (lines-own threads number line lines same))
        | inr other ↦ ap length (texts-other threads number line lines text parts other) ∙ rest ∙ sym (ap length (lines-other threads number line lines other))
      ]

  -- a worker whose lines all have texts has ended without a fault
  pub calls-all : (threads : ℕ) (lines : List (RunLine A)) (ended : Ended) (texts : List (List ℕ)) (old new : SeatState A) (so : HasCalledLines threads lines ended texts old new) → length lines ≤ length texts
      → calls new ≡ calls old ++ calls_of threads lines so.replies
  calls-all threads lines (Ok done) texts old new so all = so.calls_are
  calls-all threads lines (Err fault) texts old new so all =
      absurd (omega (arith, so.count, all, ap length so.texts_are, length-texts lines so.replies (omega (arith, so.count))))

  -- and one whose lines have not has ended at a fault
  pub ended-fault : (threads : ℕ) (lines : List (RunLine A)) (ended : Ended) (texts : List (List ℕ)) (old new : SeatState A) → HasCalledLines threads lines ended texts old new → length texts < length lines
      → (fault : CallFault) × (ended ≡ Err fault)
  ended-fault threads lines (Ok done) texts old new so few =
      absurd (omega (arith, so.count, few, ap length so.texts_are, length-texts lines so.replies (omega (arith, so.count))))
  ended-fault threads lines (Err fault) texts old new so few = (fault, refl)

  pub fault-of : (works : List (Work A)) (one : Work A) (place : ℕ) → place < length works → get_or works place one ≡ one → (ended : Ended) → one.ended ≡ ended → IsFaultOf works ended
  fault-of works one place within is (Ok done) same = tt
  fault-of works one place within is (Err fault) same = inr (place, one, within, is, same)

  pub prefix-behind : (xs ys zs : List (Event A)) → IsPrefix ys zs → IsPrefix (xs ++ ys) (xs ++ zs)
  prefix-behind xs ys zs so = (so.0, append_assoc xs ys so.0 ∙ ap (λ (l : List (Event A)). xs ++ l) so.1)

  pub worker-all : (threads : ℕ) (lines : List (RunLine A)) (made : List (Event A)) (number : ℕ) (old : SeatState A) (new : Work A) (so : HasWorked threads lines old new) → old.number ≡ number
      → length (seat_lines threads number lines) ≤ length new.texts → own number made ≡ calls_of threads (seat_lines threads number lines) so.replies → HasCalledOwn (Ok tt) made old new.seat
  worker-all threads lines made number old new so is all whole =
      let mine = seat_lines threads old.number lines in
      let few : length mine ≤ length new.texts = subst (λ (n : ℕ). length (seat_lines threads n lines) ≤ length new.texts) (sym is) all in
      let same : own old.number made ≡ calls_of threads mine so.replies =
      subst (λ (n : ℕ). own n made ≡ calls_of threads (seat_lines threads n lines) so.replies) (sym is) whole in
      record {
        number = so.number;
        calls_are = calls-all threads mine new.ended new.texts old new.seat so few ∙ ap (λ (l : List (Event A)). calls old ++ l) (sym same);
        seen = so.seen;
      }

  pub worker-some : (threads : ℕ) (fault : CallFault) (lines : List (RunLine A)) (made : List (Event A)) (number : ℕ) (old : SeatState A) (new : Work A) (so : HasWorked threads lines old new) → old.number ≡ number
      → IsPrefix (own number made) (calls_of threads (seat_lines threads number lines) so.replies) → HasCalledOwn (Err fault) made old new.seat
  worker-some threads fault lines made number old new so is begins =
      let mine = seat_lines threads old.number lines in
      let some : IsPrefix (own old.number made) (calls_of threads mine so.replies) =
      subst (λ (n : ℕ). IsPrefix (own n made) (calls_of threads (seat_lines threads n lines) so.replies)) (sym is) begins in
      let made_all = calls old ++ calls_of threads mine so.replies in
      record {
        number = so.number;
        calls_are = prefix-trans (calls old ++ own old.number made) made_all (calls new.seat) (prefix-behind (calls old) (own old.number made) (calls_of threads mine so.replies) some)
            (calls-begin new.ended made_all (calls new.seat) so.calls_are);
        seen = so.seen;
      }

  pub each-all : (threads : ℕ) (lines : List (RunLine A)) (made : List (Event A)) (number : ℕ → ℕ) (old : List (SeatState A)) (new : List (Work A)) (each : AllZip (HasWorked threads lines) old new) → AreNumbered number old
      → ((place : ℕ) → length (seat_lines threads (number place) lines) ≤ length (get_or (all_texts new) place []))
      → ((place : ℕ) → own (number place) made ≡ calls_of threads (seat_lines threads (number place) lines) (replies_of threads lines old new each place))
      → AllZip (HasCalledOwn (Ok tt) made) old (seats_of new)
  unfolding replies_of
  each-all threads lines made number [] [] each so all whole = tt
  each-all threads lines made number [] (y ∷ new) each so all whole = absurd each
  each-all threads lines made number (x ∷ old) [] each so all whole = absurd each
  each-all threads lines made number (x ∷ old) (y ∷ new) each so all whole = (
    worker-all threads lines made (number 0) x y each.0 so.0 (all 0) (whole 0),
    each-all threads lines made (λ place. number (suc place)) old new each.1 so.1 (λ place. all (suc place)) (λ place. whole (suc place)),
  )

  pub each-some : (threads : ℕ) (fault : CallFault) (lines : List (RunLine A)) (made : List (Event A)) (number : ℕ → ℕ) (old : List (SeatState A)) (new : List (Work A)) (each : AllZip (HasWorked threads lines) old new)
      → AreNumbered number old
      → ((place : ℕ) → IsPrefix (own (number place) made) (calls_of threads (seat_lines threads (number place) lines) (replies_of threads lines old new each place)))
      → AllZip (HasCalledOwn (Err fault) made) old (seats_of new)
  unfolding replies_of
  each-some threads fault lines made number [] [] each so begins = tt
  each-some threads fault lines made number [] (y ∷ new) each so begins = absurd each
  each-some threads fault lines made number (x ∷ old) [] each so begins = absurd each
  each-some threads fault lines made number (x ∷ old) (y ∷ new) each so begins = (
    worker-some threads fault lines made (number 0) x y each.0 so.0 (begins 0),
    each-some threads fault lines made (λ place. number (suc place)) old new each.1 so.1 (λ place. begins (suc place)),
  )

  -- each of the lines has a text, so each of a seat's lines has one
  pub texts-all : (threads : ℕ) (lines : List (RunLine A)) (parts texts : List (List ℕ)) (number : ℕ) → length parts ≡ length lines → IsPrefix (texts_of threads number lines parts) texts
      → length (seat_lines threads number lines) ≤ length texts
  texts-all threads lines parts texts number all begins =
      omega (arith, prefix-length (texts_of threads number lines parts) texts begins, length-texts_of threads number lines parts all)

  pub each-ended : (threads : ℕ) (lines : List (RunLine A)) (ended : Ended) (old : List (SeatState A)) (new : List (Work A)) (each : AllZip (HasWorked threads lines) old new) → AreNumbered (λ place. place) old
      → (parts : List (List ℕ)) → HasCount ended (length parts) (length lines) → ((number : ℕ) → IsPrefix (texts_of threads number lines parts) (get_or (all_texts new) number []))
      → (all : Merged threads lines parts (replies_of threads lines old new each)) → AllZip (HasCalledOwn ended (calls_of threads lines all.replies)) old (seats_of new)
  each-ended threads lines (Ok done) old new each so parts count texts all =
      each-all threads lines (calls_of threads lines all.replies) (λ place. place) old new each so (λ place. texts-all threads lines parts (get_or (all_texts new) place []) place count (texts place)) (all.whole count)
  each-ended threads lines (Err fault) old new each so parts count texts all = each-some threads fault lines (calls_of threads lines all.replies) (λ place. place) old new each so all.begins

  -- what the fault that ended a worker reports is what its seat has seen
  pub works_seen : (threads : ℕ) (lines : List (RunLine A)) (ended : Ended) (old : List (SeatState A)) (new : List (Work A)) → AllZip (HasWorked threads lines) old new → IsFaultOf new ended → OneHasSeen ended (seats_of new)
  works_seen threads lines (Ok done) old new each is = tt
  works_seen threads lines (Err fault) old new each (inl memory) = subst (λ (f : CallFault). OneHasSeen (Err f) (seats_of new)) (sym memory) tt
  works_seen threads lines (Err fault) old new each (inr (place, one, within, at, ended)) =
      let d : SeatState A = newcomer 0 in
      let there : place < length old = omega (arith, same_length (HasWorked threads lines) old new each, within) in
      let its : HasWorked threads lines (get_or old place d) one =
      subst (λ (w : Work A). HasWorked threads lines (get_or old place d) w) at (zip-at (HasWorked threads lines) old new place d one each there) in
      let long : place < length (seats_of new) = omega (arith, length-map new (λ (w : Work A). w.seat), within) in
      let seat_is : get_or (seats_of new) place one.seat ≡ one.seat = get_or-map (λ (w : Work A). w.seat) new place one one.seat within ∙ ap (λ (w : Work A). w.seat) at in
      reports (λ count. length one.seat.seen ≡ count) (λ count. Any (λ (seat : SeatState A). count ≤ length seat.seen) (seats_of new)) (λ count same. (place, one.seat, long, seat_is, omega (arith, same))) (Err fault)
      (subst (λ (e : Ended). HasSeen e one.seat) ended its.events)

  -- ---- seats that meet before and after a block

  met_numbers : (front : List (Event A)) (number : ℕ → ℕ) (old new : List (SeatState A)) → AllZip (HasMet front) old new → AreNumbered number old → AreNumbered number new
  met_numbers front number [] [] met so = tt
  met_numbers front number [] (y ∷ new) met so = absurd met
  met_numbers front number (x ∷ old) [] met so = absurd met
  met_numbers front number (x ∷ old) (y ∷ new) met so = (met.0.number ∙ so.0, met_numbers front (λ place. number (suc place)) old new met.1 so.1)

  -- they are still numbered by their places
  pub met_seats : (threads : ℕ) (front : List (Event A)) (old new : List (SeatState A)) → AllZip (HasMet front) old new → AreSeats threads old → AreSeats threads new
  met_seats threads front old new met so = (same_length (HasMet front) old new met ∙ so.0, met_numbers front (λ place. place) old new met so.1)

  -- and have seen what the fault reports
  met_reported : (front : List (Event A)) (ended : Ended) (old new : List (SeatState A)) → AllZip (HasMet front) old new → OneHasSeen ended old → OneHasSeen ended new
  met_reported front ended old new met seen =
      reports (λ count. Any (λ (seat : SeatState A). count ≤ length seat.seen) old) (λ count. Any (λ (seat : SeatState A). count ≤ length seat.seen) new)
      (λ count one.
      let place = one.0 in
      let seat = one.1 in
      let other = get_or new place seat in
      let within : place < length new = omega (arith, one.2, same_length (HasMet front) old new met) in
      let both : HasMet front seat other = subst (λ (s : SeatState A). HasMet front s other) one.3 (zip-at (HasMet front) old new place seat seat met one.2) in
      (place, other, within, get_or-any new place other seat within, omega (arith, one.4, prefix-length seat.seen other.seen both.seen))) ended seen

  worked_goes : (threads : ℕ) (lines : List (RunLine A)) (old : List (SeatState A)) (new : List (Work A)) → AllZip (HasWorked threads lines) old new → AllZip GoesOn old (seats_of new)
  worked_goes threads lines [] [] each = tt
  worked_goes threads lines [] (y ∷ new) each = absurd each
  worked_goes threads lines (x ∷ old) [] each = absurd each
  worked_goes threads lines (x ∷ old) (y ∷ new) each = (each.0.goes_on, worked_goes threads lines old new each.1)

  -- the workers have called the lines of a block, and the texts were gathered
  pub block_called : (threads : ℕ) (lines : List (RunLine A)) (ended : Ended) (text : List ℕ) (first old : List (SeatState A)) (new : List (Work A)) (last : List (SeatState A)) → EachAt lines
      → AllZip (HasMet (first_seen first)) first old → AllZip (HasWorked threads lines) old new → AllZip (HasMet []) (seats_of new) last → EachSawIn (first_seen last) last → AreSeats threads first
      → Gathers threads lines (all_texts new) ended text → IsFaultOf new ended → HaveCalled threads lines ended text first last
  block_called threads lines ended text first old new last at before each after shown numbered gathers fault =
      let seats = met_seats threads (first_seen first) first old before numbered in
      let replies_by = replies_of threads lines old new each in
      let has : Has threads lines gathers.parts replies_by = λ number.
      subst (λ (l : List (List ℕ)). IsPrefix (texts_of threads number lines gathers.parts) l) (texts_at threads lines (λ place. place) old new each seats.1 number) (gathers.of_seats number) in
      let all = merged threads lines gathers.parts replies_by (count_few ended (length gathers.parts) (length lines) gathers.count) has in
      let count = subst (λ (n : ℕ). HasCount ended n (length lines)) (sym all.counted) gathers.count in
      let made = calls_of threads lines all.replies in
      let called = each-ended threads lines ended old new each seats.1 gathers.parts gathers.count gathers.of_seats all in
      record {
        replies = all.replies;
        count = count;
        text_is = gathers.text_is ∙ ap concat all.parts_are ∙ concat-texts lines all.replies;
        seats = each_met_called (first_seen first) [] ended made first old (seats_of new) last before called after;
        events = met_reported [] ended (seats_of new) last after (works_seen threads lines ended old new each fault);
        order = λ met. order_block threads lines ended all.replies first old (seats_of new) last at count called before (worked_goes threads lines old new each) after shown met;
      }

  -- ---- the same of whatever has a seat, texts and an end

  module _ {W : Type 0} (seat : W → SeatState A) (texts : W → List (List ℕ)) (ended : W → Ended) where
    abbrev pub made_of : W → Work A
    made_of w = work (seat w) (texts w) (ended w)

    seats-made : (new : List W) → seats_of (map made_of new) ≡ map seat new
    seats-made new = map-map (λ (w : Work A). w.seat) made_of new

    texts-made : (new : List W) → all_texts (map made_of new) ≡ map texts new
    texts-made new = map-map (λ (w : Work A). w.texts) made_of new

    pub worked_called : (threads : ℕ) (block : List (RunLine A)) (out : Ended) (text : List ℕ) (first old new last : List W) → EachAt block
        → AllZip (HasMet (first_seen (map seat first))) (map seat first) (map seat old) → AllZip (HasWorked threads block) (map seat old) (map made_of new)
        → AllZip (HasMet []) (map seat new) (map seat last) → EachSawIn (first_seen (map seat last)) (map seat last) → AreSeats threads (map seat first)
        → Gathers threads block (map texts new) out text → IsFaultOf (map made_of new) out → HaveCalled threads block out text (map seat first) (map seat last)
    worked_called threads block out text first old new last at before each after shown seats gathers fault =
        block_called threads block out text (map seat first) (map seat old) (map made_of new) (map seat last) at before each
        (subst (λ (l : List (SeatState A)). AllZip (HasMet []) l (map seat last)) (sym (seats-made new)) after) shown seats
        (subst (λ (l : List (List (List ℕ))). Gathers threads block l out text) (sym (texts-made new)) gathers) fault

    -- there is a worker for each seat
    pub worked_some : (threads place : ℕ) (block : List (RunLine A)) (seats : List (SeatState A)) (workers : List W) → AllZip (HasWorked threads block) seats (map made_of workers) → AreSeats threads seats → place ≤ threads
        → place < length workers
    worked_some threads place block seats workers each numbered few =
        omega (arith, same_length (HasWorked threads block) seats (map made_of workers) each, length-map workers made_of, numbered.0, few)

    -- a worker without a text for one of its lines has ended at a fault
    pub worked_fault : (threads place : ℕ) (block : List (RunLine A)) (seats : List (SeatState A)) (workers : List W) (worker : W) → AllZip (HasWorked threads block) seats (map made_of workers) → AreSeats threads seats
        → place < length workers → worker ≡ get_or workers place worker → length (texts worker) < length (seat_lines threads place block) → (fault : CallFault) × (ended worker ≡ Err fault)
    worked_fault threads place block seats workers worker each numbered within is few =
        let d : SeatState A = newcomer 0 in
        let there : place < length seats = omega (arith, same_length (HasWorked threads block) seats (map made_of workers) each, length-map workers made_of, within) in
        let made : get_or (map made_of workers) place (made_of worker) ≡ made_of worker = get_or-map made_of workers place worker (made_of worker) within ∙ ap made_of (sym is) in
        let its : HasWorked threads block (get_or seats place d) (made_of worker) =
        subst (λ (w : Work A). HasWorked threads block (get_or seats place d) w) made (zip-at (HasWorked threads block) seats (map made_of workers) place d (made_of worker) each there) in
        ended-fault threads (seat_lines threads (get_or seats place d).number block) (ended worker) (texts worker) (get_or seats place d) (seat worker) its
        (subst (λ (n : ℕ). length (texts worker) < length (seat_lines threads n block)) (sym (number-at (λ p. p) seats place d numbered.1 there)) few)

    -- that fault is a worker's
    pub worked_ended : (place : ℕ) (workers : List W) (worker : W) → place < length workers → worker ≡ get_or workers place worker → IsFaultOf (map made_of workers) (ended worker)
    worked_ended place workers worker within is =
        fault-of (map made_of workers) (made_of worker) place (omega (arith, length-map workers made_of, within)) (get_or-map made_of workers place worker (made_of worker) within ∙ ap made_of (sym is)) (ended worker) refl

    pub worked_still : (threads : ℕ) (block : List (RunLine A)) (old new : List W) → AllZip (HasWorked threads block) (map seat old) (map made_of new) → AreSeats threads (map seat old) → AreSeats threads (map seat new)
    worked_still threads block old new each seats =
        subst (λ (l : List (SeatState A)). AreSeats threads l) (seats-made new) (worked_seats threads block (map seat old) (map made_of new) each seats)

    pub worked_length : (threads : ℕ) (block : List (RunLine A)) (old new : List W) → AllZip (HasWorked threads block) (map seat old) (map made_of new) → length new ≡ length old
    worked_length threads block old new each =
        omega (arith, same_length (HasWorked threads block) (map seat old) (map made_of new) each, length-map old seat, length-map new made_of)

  -- ---- texts taken from the workers, line by line

  pub texts_of-none : (threads number : ℕ) (lines : List (RunLine A)) → texts_of threads number lines [] ≡ []
  texts_of-none threads number [] = refl
  texts_of-none threads number (line ∷ lines) = refl

  pub texts_of-append : (threads number : ℕ) (lines : List (RunLine A)) (line : RunLine A) (others : List (RunLine A)) (parts : List (List ℕ)) (text : List ℕ) → length parts ≡ length lines
      → texts_of threads number (lines ++ line ∷ others) (parts ++ text ∷ []) ≡ texts_of threads number lines parts ++ texts_of threads number (line ∷ others) (text ∷ [])
  texts_of-append threads number [] line others [] text same = refl
  texts_of-append threads number [] line others (x ∷ parts) text same = absurd (omega (arith, same))
  texts_of-append threads number (x ∷ lines) line others [] text same = absurd (omega (arith, same))
  texts_of-append threads number (x ∷ lines) line others (t ∷ parts) text same =
      let rest = texts_of-append threads number lines line others parts text (omega (arith, same)) in
      let tail = texts_of threads number (line ∷ others) (text ∷ []) in
      elim (cases_Bool (is_of threads number x)) [
        | inl its ↦ texts-own threads number x (lines ++ line ∷ others) t (parts ++ text ∷ []) its ∙ ap (λ (l : List (List ℕ)). t ∷ l) rest
            ∙ ap (λ (l : List (List ℕ)). l ++ tail) (sym (texts-own threads number x lines t parts its))
        | inr other ↦ texts-other threads number x (lines ++ line ∷ others) t (parts ++ text ∷ []) other ∙ rest
            ∙ ap (λ (l : List (List ℕ)). l ++ tail) (sym (texts-other threads number x lines t parts other))
      ]

  pub texts_of-longer : (threads number : ℕ) (lines others : List (RunLine A)) (parts : List (List ℕ)) → length parts ≤ length lines → texts_of threads number (lines ++ others) parts ≡ texts_of threads number lines parts
  texts_of-longer threads number [] others [] few = texts_of-none threads number others
  texts_of-longer threads number [] others (t ∷ parts) few = absurd (omega (arith, few))
  texts_of-longer threads number (x ∷ lines) others [] few = refl
  texts_of-longer threads number (x ∷ lines) others (t ∷ parts) few =
      let rest = texts_of-longer threads number lines others parts (omega (arith, few)) in
      elim (cases_Bool (is_of threads number x)) [
        | inl its ↦ texts-own threads number x (lines ++ others) t parts its ∙ ap (λ (l : List (List ℕ)). t ∷ l) rest ∙ sym (texts-own threads number x lines t parts its)
        | inr other ↦ texts-other threads number x (lines ++ others) t parts other ∙ rest ∙ sym (texts-other threads number x lines t parts other)
      ]

  -- no line is of a seat beyond the workers'
  pub not_beyond : (threads number : ℕ) (line : RunLine A) → 1 ≤ threads → threads < number → is_of threads number line ≡ false
  not_beyond threads number line some beyond =
      nat_eq-other (seat_of threads line.line.worker) number (λ same. absurd (omega (arith, same, seat_of-most threads line.line.worker some, beyond)))

  pub texts-beyond : (threads number : ℕ) (lines : List (RunLine A)) (parts : List (List ℕ)) → 1 ≤ threads → threads < number → texts_of threads number lines parts ≡ []
  texts-beyond threads number [] parts some beyond = refl
  texts-beyond threads number (line ∷ lines) [] some beyond = refl
  texts-beyond threads number (line ∷ lines) (t ∷ parts) some beyond =
      texts-other threads number line lines t parts (not_beyond threads number line some beyond) ∙ texts-beyond threads number lines parts some beyond

  pub calls-beyond : (threads number : ℕ) (lines : List (RunLine A)) (replies : List (Reply A)) → 1 ≤ threads → threads < number → own number (calls_of threads lines replies) ≡ []
  calls-beyond threads number [] replies some beyond = refl
  calls-beyond threads number (line ∷ lines) [] some beyond = refl
  calls-beyond threads number (line ∷ lines) (reply ∷ replies) some beyond =
      own-other number (seat_of threads line.line.worker) (event_by (seat_of threads line.line.worker) line.line.command reply) (calls_of threads lines replies) refl (not_beyond threads number line some beyond)
      ∙ calls-beyond threads number lines replies some beyond

  -- So many texts of each seat were taken, for these lines.
  pub record IsGathered (threads : ℕ) (lines : List (RunLine A)) (texts : List (List (List ℕ))) (taken : List ℕ) (text : List ℕ) : Type 0 where
    pub parts : List (List ℕ)
    pub counted : length parts ≡ length lines
    pub text_is : text ≡ concat parts
    pub of_seats : (number : ℕ) → number < 64 → texts_of threads number lines parts ≡ take (get_or taken number 0) (get_or texts number [])
    pub known : length taken ≡ 64

  pub gathered_none : (threads : ℕ) (texts : List (List (List ℕ))) → IsGathered threads [] texts (replicate 64 0) []
  gathered_none threads texts = record {
    parts = [];
    counted = refl;
    text_is = refl;
    of_seats = λ number within. ap (λ (n : ℕ). take n (get_or texts number [])) (sym (get_or-replicate 64 number 0 0 within));
    known = length-replicate {A = ℕ} 64 0;
  }

  pub gathered_more : (threads : ℕ) (lines : List (RunLine A)) (line : RunLine A) (texts : List (List (List ℕ))) (taken more : List ℕ) (text new : List ℕ) (next : List ℕ) (seat : ℕ) → IsGathered threads lines texts taken text
      → seat ≡ seat_of threads line.line.worker → seat < 64 → get_or taken seat 0 < length (get_or texts seat []) → next ≡ get_or (get_or texts seat []) (get_or taken seat 0) next
      → more ≡ set taken seat (get_or taken seat 0 + 1) → new ≡ text ++ next → IsGathered threads (lines ++ line ∷ []) texts more new
  gathered_more threads lines line texts taken more text new next seat so at within less read set_is new_is =
      record {
        parts = so.parts ++ next ∷ [];
        counted = omega (arith, so.counted, length-append so.parts (next ∷ []), length-append lines (line ∷ []));
        text_is = new_is ∙ ap (λ (t : List ℕ). t ++ next) so.text_is ∙ sym (concat-append so.parts (next ∷ []) ∙ ap (λ (t : List ℕ). concat so.parts ++ t) (append-nil next));
        known = ap length set_is ∙ length-set taken seat (get_or taken seat 0 + 1) ∙ so.known;
        of_seats = λ number few.
            let first = texts_of-append threads number lines line [] so.parts next so.counted ∙ ap (λ (l : List (List ℕ)). l ++ texts_of threads number (line ∷ []) (next ∷ [])) (so.of_seats number few) in
            elim (cases_eq number seat) [
              | inl same ↦
                  let its : is_of threads number line ≡ true = ap (λ n. nat_eq n number) (sym at ∙ sym same) ∙ nat_eq-same number in
                  let count : get_or more number 0 ≡ get_or taken number 0 + 1 =
                  ap (λ (l : List ℕ). get_or l number 0) set_is ∙ ap (λ (n : ℕ). get_or (set taken seat (get_or taken seat 0 + 1)) n 0) same
                  ∙ get_or-set_same taken seat (get_or taken seat 0 + 1) 0 (omega (arith, so.known, within)) ∙ ap (λ (n : ℕ). get_or taken n 0 + 1) (sym same) in
                  let here : next ≡ get_or (get_or texts number []) (get_or taken number 0) next =
                  subst (λ (n : ℕ). next ≡ get_or (get_or texts n []) (get_or taken n 0) next) (sym same) read in
                  let lower : get_or taken number 0 < length (get_or texts number []) = subst (λ (n : ℕ). get_or taken n 0 < length (get_or texts n [])) (sym same) less in
                  first ∙ ap (λ (l : List (List ℕ)). take (get_or taken number 0) (get_or texts number []) ++ l) (texts-own threads number line [] next [] its)
                  ∙ ap (λ (t : List ℕ). take (get_or taken number 0) (get_or texts number []) ++ t ∷ []) here
                  ∙ sym (take_more (get_or texts number []) (get_or taken number 0) next lower) ∙ ap (λ (n : ℕ). take n (get_or texts number [])) (sym count)
              | inr other ↦
                  let not_its : is_of threads number line ≡ false = nat_eq-other (seat_of threads line.line.worker) number (λ same. other (sym same ∙ sym at)) in
                  let count : get_or more number 0 ≡ get_or taken number 0 =
                  ap (λ (l : List ℕ). get_or l number 0) set_is ∙ get_or-set_other taken seat number (get_or taken seat 0 + 1) 0 other in
                  first ∙ ap (λ (l : List (List ℕ)). take (get_or taken number 0) (get_or texts number []) ++ l) (texts-other threads number line [] next [] not_its)
                  ∙ append-nil (take (get_or taken number 0) (get_or texts number [])) ∙ ap (λ (n : ℕ). take n (get_or texts number [])) (sym count)
            ];
      }

  pub gathered-seats : (threads : ℕ) (lines : List (RunLine A)) (texts : List (List (List ℕ))) (taken text : List ℕ) (so : IsGathered threads lines texts taken text) → 1 ≤ threads → threads ≤ 63 → (number : ℕ)
      → IsPrefix (texts_of threads number lines so.parts) (get_or texts number [])
  gathered-seats threads lines texts taken text so some most number =
      elim (cases_lt threads number) [
        | inl beyond ↦ subst (λ (l : List (List ℕ)). IsPrefix l (get_or texts number [])) (sym (texts-beyond threads number lines so.parts some beyond)) (prefix-of-none (get_or texts number []))
        | inr within ↦
            subst (λ (l : List (List ℕ)). IsPrefix l (get_or texts number [])) (sym (so.of_seats number (omega (arith, within, most)))) (take-begins (get_or taken number 0) (get_or texts number []))
      ]

  pub gathered_all : (threads : ℕ) (lines : List (RunLine A)) (texts : List (List (List ℕ))) (taken text : List ℕ) → 1 ≤ threads → threads ≤ 63 → IsGathered threads lines texts taken text
      → Gathers threads lines texts (Ok tt) text
  gathered_all threads lines texts taken text some most so = record {
    parts = so.parts;
    count = so.counted;
    text_is = so.text_is;
    of_seats = gathered-seats threads lines texts taken text so some most;
  }

  pub gathered_some : (threads : ℕ) (fault : CallFault) (lines others : List (RunLine A)) (texts : List (List (List ℕ))) (taken text : List ℕ) → 1 ≤ threads → threads ≤ 63 → 0 < length others
      → IsGathered threads lines texts taken text → Gathers threads (lines ++ others) texts (Err fault) text
  gathered_some threads fault lines others texts taken text some most more so = record {
    parts = so.parts;
    count = omega (arith, so.counted, more, length-append lines others);
    text_is = so.text_is;
    of_seats = λ number.
        subst (λ (l : List (List ℕ)). IsPrefix l (get_or texts number [])) (sym (texts_of-longer threads number lines others so.parts (omega (arith, so.counted))))
        (gathered-seats threads lines texts taken text so some most number);
  }

  -- so much is pending behind what was
  abbrev pub IsGatheredSo : ℕ → List (RunLine A) → List (List (List ℕ)) → List ℕ → List ℕ → List ℕ → Type 0
  IsGatheredSo threads lines texts taken old pending = (text : List ℕ) × (pending ≡ old ++ text) × IsGathered threads lines texts taken text

  pub gathered_begun : (threads : ℕ) (texts : List (List (List ℕ))) (old : List ℕ) → IsGatheredSo threads [] texts (replicate 64 0) old old
  gathered_begun threads texts old = ([], sym (append-nil old), gathered_none threads texts)

  -- one line's text is taken
  pub gathered_line : {W S : Type 0} (made : W → List S) (bytes : S → List ℕ) (threads index : ℕ) (block : List (RunLine A)) (line : RunLine A) (workers : List W) (worker : W) (item : S) (taken more old pending now : List ℕ)
      (seat : ℕ) → index < length block → line ≡ get_or block index line → seat ≡ seat_of threads line.line.worker → seat < 64 → seat < length workers → worker ≡ get_or workers seat worker
      → get_or taken seat 0 < length (made worker) → item ≡ get_or (made worker) (get_or taken seat 0) item → more ≡ set taken seat (get_or taken seat 0 + 1) → now ≡ pending ++ bytes item
      → IsGatheredSo threads (take index block) (map (λ w. map bytes (made w)) workers) taken old pending
      → IsGatheredSo threads (take (index + 1) block) (map (λ w. map bytes (made w)) workers) more old now
  gathered_line {W} {S} made bytes threads index block line workers worker item taken more old pending now seat within is at few there found less read set_is now_is (text, pending_is, so) =
      let texts = map (λ w. map bytes (made w)) workers in
      let next = bytes item in
      let mine : get_or texts seat [] ≡ map bytes (made worker) = get_or-map (λ (w : W). map bytes (made w)) workers seat worker [] there ∙ ap (λ (w : W). map bytes (made w)) (sym found) in
      let lower : get_or taken seat 0 < length (get_or texts seat []) = omega (arith, less, ap length mine, length-map (made worker) bytes) in
      let here : next ≡ get_or (get_or texts seat []) (get_or taken seat 0) next =
      sym (ap (λ (l : List (List ℕ)). get_or l (get_or taken seat 0) next) mine ∙ get_or-map bytes (made worker) (get_or taken seat 0) item next less ∙ ap bytes (sym read)) in (
        text ++ next,
        now_is ∙ ap (λ (t : List ℕ). t ++ next) pending_is ∙ append_assoc old text next,
        subst (λ (l : List (RunLine A)). IsGathered threads l texts more (text ++ next))
            (sym (take_more block index line within ∙ ap (λ (l : RunLine A). take index block ++ l ∷ []) (sym is)))
            (gathered_more threads (take index block) line texts taken more text (text ++ next) next seat so at few lower here set_is refl),
      )

  -- all texts of a seat were taken, and it has one more line
  pub gathered-few : (threads index place : ℕ) (block : List (RunLine A)) (line : RunLine A) (texts : List (List (List ℕ))) (taken text : List ℕ) → IsGathered threads (take index block) texts taken text
      → index < length block → line ≡ get_or block index line → place ≡ seat_of threads line.line.worker → place < 64 → length (get_or texts place []) ≤ get_or taken place 0
      → length (get_or texts place []) < length (seat_lines threads place block)
  gathered-few threads index place block line texts taken text so within is at few none =
      omega (
        arith,
        ap length (so.of_seats place few ∙ take_all (get_or taken place 0) (get_or texts place []) none),
        length-texts_of threads place (take index block) so.parts so.counted,
        ap length (seat_lines-parts threads place index block),
        length-append (seat_lines threads place (take index block)) (seat_lines threads place (drop index block)),
        seat_lines-some threads place index block line within is (sym at),
      )

  -- a line has no text
  pub gathered_stopped : (threads index : ℕ) (fault : CallFault) (block : List (RunLine A)) (line : RunLine A) (texts : List (List (List ℕ))) (taken old pending : List ℕ) → 1 ≤ threads → threads ≤ 63
      → index < length block → IsGatheredSo threads (take index block) texts taken old pending → (text : List ℕ) × (pending ≡ old ++ text) × Gathers threads block texts (Err fault) text
  gathered_stopped threads index fault block line texts taken old pending some most within (text, pending_is, so) =
      let more : 0 < length (drop index block) = omega (arith, ap length (drop_more block index line within)) in (
        text,
        pending_is,
        subst (λ (l : List (RunLine A)). Gathers threads l texts (Err fault) text) (take-append-drop index block)
            (gathered_some threads fault (take index block) (drop index block) texts taken text some most more so),
      )

  -- each has one
  pub gathered_done : (threads index : ℕ) (block : List (RunLine A)) (texts : List (List (List ℕ))) (taken old pending : List ℕ) → 1 ≤ threads → threads ≤ 63 → length block ≤ index
      → IsGatheredSo threads (take index block) texts taken old pending → (text : List ℕ) × (pending ≡ old ++ text) × Gathers threads block texts (Ok tt) text
  gathered_done threads index block texts taken old pending some most ended (text, pending_is, so) = (
    text,
    pending_is,
    gathered_all threads block texts taken text some most (subst (λ (l : List (RunLine A)). IsGathered threads l texts taken text) (take_all index block ended) so),
  )

  -- a line has no text, since its worker has ended at a fault
  pub gathered_ended : {W : Type 0} (seat : W → SeatState A) (texts : W → List (List ℕ)) (ended : W → Ended) (threads index place : ℕ) (block : List (RunLine A)) (line : RunLine A) (seats : List (SeatState A)) (workers : List W)
      (worker : W) (taken old pending : List ℕ) → 1 ≤ threads → threads ≤ 63 → AreSeats threads seats → AllZip (HasWorked threads block) seats (map (λ w. work (seat w) (texts w) (ended w)) workers)
      → index < length block → line ≡ get_or block index line → place ≡ seat_of threads line.line.worker → place < 64 → place < length workers → worker ≡ get_or workers place worker
      → length (texts worker) ≤ get_or taken place 0 → IsGatheredSo threads (take index block) (map texts workers) taken old pending
      → (text : List ℕ) × (pending ≡ old ++ text) × Gathers threads block (map texts workers) (ended worker) text
  gathered_ended {W} seat texts ended threads index place block line seats workers worker taken old pending some most numbered each within is at few there found none so =
      let mine : get_or (map texts workers) place [] ≡ texts worker = get_or-map texts workers place worker [] there ∙ ap texts (sym found) in
      let more = gathered-few threads index place block line (map texts workers) taken so.0 so.2 within is at few (omega (arith, none, ap length mine)) in
      let fault = worked_fault seat texts ended threads place block seats workers worker each numbered there found (omega (arith, more, ap length mine)) in
      subst (λ (e : Ended). (text : List ℕ) × (pending ≡ old ++ text) × Gathers threads block (map texts workers) e text) (sym fault.1)
      (gathered_stopped threads index fault.0 block line (map texts workers) taken old pending some most within so)
