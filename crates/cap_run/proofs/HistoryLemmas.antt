-- The one history of a run, and what the run wrote.
use Rattle.std.proofs.Common.{◌≡◌, ℕ, zero, suc, ◌+◌, ◌<◌, ◌≤◌, List, [], ◌∷◌, ◌++◌, Option, Some, Result, Ok, Err, length, map, get_or, inl, inr, ◌⊎◌, drop, length-drop, append_assoc, refl, slice_get, sym, ap, subst, ◌∙◌, append-nil, length-append, arith}
use Rattle.std.proofs.lemmas.Bool.{cases_lt}
use Rattle.std.proofs.lemmas.List.Elements.{AllZip-get_or}
use Rattle.std.proofs.lemmas.List.FromFn.{get_or-map-range_with_len, length-map-range_with_len}
use Rattle.std.specs.List.{All, AllByRecursion, AllZip, Any, range_with_len}
use Rattle.std.proofs.KnownBytes.{Keeps-refl}
use Rattle.std.specs.Io.KnownBytes.{Appends}
use mathlib.Core.List.{IsPrefix}
use Rattle.cap_core.specs.Answer.{State}
use Rattle.cap_core.specs.declared.event.Event.{Event}
use Rattle.cap_core.specs.declared.reply.Reply.{Reply}
use Rattle.cap_history.specs.Beginnings.{prefix-length, prefix-of-none, prefix-trans}
use Rattle.cap_history.specs.History.{own}
use Rattle.cap_history.specs.Own.{own-append}
use Rattle.cap_history.specs.Seat.{SeatState, calls, newcomer}
use Rattle.cap_run.proofs.GatherLemmas.{calls-beyond}
use Rattle.cap_run.proofs.OrderLemmas.{calls_of-parts, ends_sooner, none-behind, own-prefix, prefix-both, prefix-rest, same-rest, split-first}
use Rattle.cap_run.proofs.SeatLemmas.{calls-begin, calls_of-longer, count_few, newcomers_seats, number-at, reply_lines-longer, reports, still_seats}
use Rattle.cap_run.specs.Run.{Ended, IsSpelled, ending}
use Rattle.cap_stream.specs.Writing.{AppendsFront}
use Rattle.cap_run.specs.Code.Calls.{AreSeats, EachSawIn, FirstHasMet, HasCalledOwn, HasCut, HaveCalled, OneHasSeen, RunsLines, first_seen, unclosed_outcome}
use Rattle.cap_run.specs.Workload.{AreCalls, AreOfOneHistory, EachBlock, EndsBlock, IsDivided, ReportsEvents, WritesAll, WritesSome, WritesUnclosed, WritesWorkload, calls_of, reply_lines}
use Rattle.cap_run.specs.RunFault.{RunsNothing}
use Rattle.cap_run.specs.declared.fault.RunFault.{RunFault}
use Rattle.cap_run.specs.declared.fault.RunFault.TheVariants.{BlobList, Blob, Call, Close, NotHex, NotUtf8, OutOfMemory, Patchset, Read, Script, Write}
use Rattle.cap_replies.specs.declared.run_line.ReplyForm.{ReplyForm}
use Rattle.cap_replies.specs.declared.run_line.RunLine.{RunLine}
use Rattle.cap_locked.specs.declared.fault.CallFault.TheVariants as call
use Rattle.cap_server.specs.Close.{FirstHasSeen, HasAll, IsClosed, IsMissing, StandsAt}
use Rattle.cap_server.specs.Close.{MatchCloseFault}
use Rattle.cap_server.specs.declared.fault.CloseFault.{CloseFault}
use Rattle.cap_server.specs.declared.fault.CloseFault.TheVariants as closing

pub slice_get-at : {X : Type 0} (xs : List X) (place : ℕ) (d : X) → place < length xs → slice_get xs place ≡ Some (get_or xs place d)
slice_get-at [] place d within = absurd (omega (arith, within))
slice_get-at (x ∷ xs) zero d within = refl
slice_get-at (x ∷ xs) (suc place) d within = slice_get-at xs place d (omega (arith, within))

pub slice_get-less : {X : Type 0} (xs : List X) (place : ℕ) (x : X) → slice_get xs place ≡ Some x → (place < length xs) × ((d : X) → get_or xs place d ≡ x)
slice_get-less [] place x is = absurd (cc is)
slice_get-less (y ∷ xs) zero x is = (omega arith, λ d. cc is)
slice_get-less (y ∷ xs) (suc place) x is = let rest = slice_get-less xs place x is in (omega (arith, rest.0), rest.1)

pub calls-none : (A : Type 0) (ended : Ended) → AreCalls {A = A} ended [] []
calls-none A (Ok done) = refl
calls-none A (Err fault) = prefix-of-none []

opened-met : (A : Type 0) (first count : ℕ) → AllByRecursion (λ seat. IsPrefix seat.answered seat.seen) (map (newcomer {A = A}) (range_with_len first count))
    × EachSawIn [] (map (newcomer {A = A}) (range_with_len first count))
opened-met A first zero = (tt, tt)
opened-met A first (suc count) = let rest = opened-met A (first + 1) count in ((prefix-of-none [], rest.0), (prefix-of-none [], rest.1))

first-opened : (A : Type 0) (first count : ℕ) → first_seen (map (newcomer {A = A}) (range_with_len first count)) ≡ []
first-opened A first zero = refl
first-opened A first (suc count) = refl

-- new seats have seen nothing
pub opened_met : (A : Type 0) (threads : ℕ) → FirstHasMet (map (newcomer {A = A}) (range_with_len 0 (threads + 1)))
opened_met A threads =
    let seats = map (newcomer {A = A}) (range_with_len 0 (threads + 1)) in
    let each = opened-met A 0 (threads + 1) in
    (each.0, subst (λ (h : List (Event A)). EachSawIn h seats) (sym (first-opened A 0 (threads + 1))) each.1)

module _ {A : Type 0} where
  -- ---- the history that a closed server leaves

  -- each seat has its own index
  pub stands_at : (threads : ℕ) (seats : List (SeatState A)) (number : ℕ) → AreSeats threads seats → number < threads + 1 → StandsAt seats number number
  stands_at threads seats number so within =
      let d : SeatState A = newcomer 0 in
      let there : number < length seats = omega (arith, so.0, within) in
      record { seat = get_or seats number d; at = slice_get-at seats number d there; is = number-at (λ place. place) seats number d so.1 there }

  pub missing : (threads : ℕ) (seats : List (SeatState A)) (number : ℕ) → AreSeats threads seats → threads < number → IsMissing seats number
  missing threads seats number so beyond place stands =
      let found = slice_get-less seats place stands.seat stands.at in
      let is : stands.seat.number ≡ place = ap (λ (s : SeatState A). s.number) (sym (found.1 stands.seat)) ∙ number-at (λ p. p) seats place stands.seat so.1 found.0 in
      absurd (omega (arith, is, stands.is, found.0, so.0, beyond))

  -- the seats that a server opens with
  abbrev pub opened : ℕ → List (SeatState A)
  opened threads = map newcomer (range_with_len 0 (threads + 1))

  pub called-at : (threads : ℕ) (ended : Ended) (made : List (Event A)) (seats : List (SeatState A)) (number : ℕ) → AllZip (HasCalledOwn ended made) (opened threads) seats → number < threads + 1
      → HasCalledOwn ended made (newcomer number) (get_or seats number (newcomer 0))
  called-at threads ended made seats number each within =
      let there : number < length (opened threads) = omega (arith, length-map-range_with_len (newcomer {A = A}) 0 (threads + 1), within) in
      subst (λ (s : SeatState A). HasCalledOwn ended made s (get_or seats number (newcomer 0))) (get_or-map-range_with_len newcomer 0 (threads + 1) number number (newcomer 0) within (omega arith))
      (AllZip-get_or (HasCalledOwn ended made) (opened threads) seats number (newcomer 0) (newcomer 0) each there)

  pub closed-calls : (threads : ℕ) (lines : List (RunLine A)) (ended : Ended) (text : List ℕ) (seats : List (SeatState A)) (events : ℕ) (core : State A) (so : HaveCalled threads lines ended text (opened threads) seats)
      → 1 ≤ threads → AreSeats threads seats → (closed : IsClosed seats events core) → (number : ℕ) → AreCalls ended (own number (calls_of threads lines so.replies)) (own number closed.history)
  closed-calls threads lines ended text seats events core so some numbered closed number =
      let made = calls_of threads lines so.replies in
      elim (cases_lt threads number) [
        | inl beyond ↦
            let none : own number closed.history ≡ [] = closed.no_others number (missing threads seats number numbered beyond) in
            subst (λ (l : List (Event A)). AreCalls ended l (own number closed.history)) (sym (calls-beyond threads number lines so.replies some beyond))
            (subst (λ (l : List (Event A)). AreCalls ended [] l) (sym none) (calls-none A ended))
        | inr within ↦
            let seat = get_or seats number (newcomer 0) in
            let less : number < threads + 1 = omega (arith, within) in
            let there : number < length seats = omega (arith, numbered.0, less) in
            let its = called-at threads ended made seats number so.seats less in
            let same : own number closed.history ≡ calls seat = ap (λ (n : ℕ). own n closed.history) (sym (number-at (λ p. p) seats number (newcomer 0) numbered.1 there)) ∙ closed.own_calls number (newcomer 0) there in
            subst (λ (l : List (Event A)). AreCalls ended (own number made) l) (sym same) its.calls_are
      ]

  -- ---- the ends of blocks divide it

  first-shown : (seats : List (SeatState A)) (history : List (Event A)) → All (λ seat. IsPrefix seat.seen history) seats → IsPrefix (first_seen seats) history
  first-shown [] history shown = prefix-of-none history
  first-shown (seat ∷ seats) history shown = shown 0 seat (omega arith)

  -- the own calls of one seat: the first part has no more than those before
  divided : (ended : Ended) (before behind all front rest history : List (Event A)) → all ≡ before ++ behind → history ≡ front ++ rest → AreCalls ended all history → IsPrefix before front → IsPrefix front before
      → AreCalls ended before front × AreCalls ended behind rest
  divided ended before behind all front rest history calls_parts parts are begins ends =
      (first ended, later ended (subst (λ (l : List (Event A)). AreCalls ended l history) calls_parts are)) where
        first : (e : Ended) → AreCalls e before front
        first (Ok done) = prefix-both front before ends begins
        first (Err fault) = begins

        later : (e : Ended) → AreCalls e (before ++ behind) history → AreCalls e behind rest
        later (Ok done) is = same-rest before rest behind (sym (parts ∙ ap (λ (l : List (Event A)). l ++ rest) (prefix-both front before ends begins)) ∙ is)
        later (Err fault) begun =
            prefix-rest before behind rest (subst (λ (l : List (Event A)). IsPrefix (before ++ behind) l) (parts ∙ ap (λ (l : List (Event A)). l ++ rest) (prefix-both front before ends begins)) begun)

  cut-at : (threads : ℕ) (front made : List (Event A)) (seats : List (SeatState A)) (number : ℕ) → AllZip (HasCut front made) (opened threads) seats → number < threads + 1
      → HasCut front made (newcomer number) (get_or seats number (newcomer 0))
  cut-at threads front made seats number each within =
      let there : number < length (opened threads) = omega (arith, length-map-range_with_len (newcomer {A = A}) 0 (threads + 1), within) in
      subst (λ (s : SeatState A). HasCut front made s (get_or seats number (newcomer 0))) (get_or-map-range_with_len newcomer 0 (threads + 1) number number (newcomer 0) within (omega arith))
      (AllZip-get_or (HasCut front made) (opened threads) seats number (newcomer 0) (newcomer 0) each there)

  -- the own calls of one seat in lines, of those before and of those behind
  own-parts : (threads number : ℕ) (lines before behind : List (RunLine A)) (replies : List (Reply A)) → lines ≡ before ++ behind
      → own number (calls_of threads lines replies) ≡ own number (calls_of threads before replies) ++ own number (calls_of threads behind (drop (length before) replies))
  own-parts threads number lines before behind replies is =
      ap (λ (l : List (RunLine A)). own number (calls_of threads l replies)) is ∙ ap (own number) (calls_of-parts threads before behind replies)
      ∙ own-append number (calls_of threads before replies) (calls_of threads behind (drop (length before) replies))

  -- a seat of a closed server has no more calls in a front than before it
  closed-front : (threads : ℕ) (made : List (Event A)) (front history : List (Event A)) (seats : List (SeatState A)) (number : ℕ) → AreSeats threads seats → AllZip (HasCut front made) (opened threads) seats
      → IsPrefix front history → All (λ seat. own seat.number history ≡ calls seat) seats → number < threads + 1 → IsPrefix (own number front) (own number made)
  closed-front threads made front history seats number numbered cuts shown own_calls within =
      let cut = cut-at threads front made seats number cuts within in
      let seat = get_or seats number (newcomer 0) in
      let there : number < length seats = omega (arith, numbered.0, within) in
      elim cut.no_more [
        | inl none ↦
            let same : own number history ≡ calls seat = ap (λ (n : ℕ). own n history) (sym (number-at (λ p. p) seats number (newcomer 0) numbered.1 there)) ∙ own_calls number (newcomer 0) there in
            subst (λ (l : List (Event A)). IsPrefix (own number front) l) (same ∙ none) (own-prefix number front history shown)
        | inr few ↦ few
      ]

  pub closed-blocks : (threads : ℕ) (lines : List (RunLine A)) (ended : Ended) (text : List ℕ) (seats : List (SeatState A)) (events : ℕ) (core : State A) (so : HaveCalled threads lines ended text (opened threads) seats)
      → 1 ≤ threads → AreSeats threads seats → (closed : IsClosed seats events core) → EachBlock lines so.replies (IsDivided (AreCalls ended) threads so.replies closed.history)
  closed-blocks threads lines ended text seats events core so some numbered closed before line behind is ends less =
      let order = so.order (opened_met A threads) in
      let cut = order.blocks before line behind is ends less in
      let until = before ++ line ∷ [] in
      let made = calls_of threads until so.replies in
      let shown : IsPrefix cut.front closed.history = prefix-trans cut.front (first_seen seats) closed.history cut.seen (first-shown seats closed.history closed.seen) in
      let whole : lines ≡ until ++ behind = is ∙ sym (append_assoc before (line ∷ []) behind) in
      let each = λ (number : ℕ).
      divided ended (own number made) (own number (calls_of threads behind (drop (length until) so.replies))) (own number (calls_of threads lines so.replies)) (own number cut.front) (own number shown.0) (own number closed.history)
      (own-parts threads number lines until behind so.replies whole) (ap (own number) (sym shown.1) ∙ own-append number cut.front shown.0)
      (closed-calls threads lines ended text seats events core so some numbered closed number)
      (elim (cases_lt threads number) [
        | inl beyond ↦ subst (λ (l : List (Event A)). IsPrefix l (own number cut.front)) (sym (calls-beyond threads number until so.replies some beyond)) (prefix-of-none (own number cut.front))
        | inr within ↦ (cut-at threads cut.front made seats number cut.seats (omega (arith, within))).has
      ])
      (elim (cases_lt threads number) [
        | inl beyond ↦
            let none : own number closed.history ≡ [] = closed.no_others number (missing threads seats number numbered beyond) in
            prefix-trans (own number cut.front) [] (own number made) (subst (λ (l : List (Event A)). IsPrefix (own number cut.front) l) none (own-prefix number cut.front closed.history shown)) (prefix-of-none (own number made))
        | inr within ↦ closed-front threads made cut.front closed.history seats number numbered cut.seats shown closed.own_calls (omega (arith, within))
      ]) in
      record { front = cut.front; rest = shown.0; parts = sym shown.1; first = λ number. (each number).0; later = λ number. (each number).1 }

  -- what a seat has called behind a front stands in the rest of whatever history it has seen
  behind-front : (ended : Ended) (before behind all front rest history seat_calls : List (Event A)) → all ≡ before ++ behind → history ≡ front ++ rest → AreCalls ended all seat_calls → IsPrefix seat_calls history → IsPrefix before front
      → (seat_calls ≡ before) ⊎ IsPrefix front before → IsPrefix behind rest
  behind-front ended before behind all front rest history seat_calls calls_parts parts are shown begins (inl none) =
      let begun : IsPrefix (before ++ behind) before = subst (λ (l : List (Event A)). IsPrefix (before ++ behind) l) none (subst (λ (l : List (Event A)). IsPrefix l seat_calls) calls_parts (calls-begin ended all seat_calls are)) in
      subst (λ (l : List (Event A)). IsPrefix l rest) (sym (none-behind before behind begun)) (prefix-of-none rest)
  behind-front ended before behind all front rest history seat_calls calls_parts parts are shown begins (inr few) =
      (divided (Err call.OutOfMemory) before behind (before ++ behind) front rest history refl parts
      (prefix-trans (before ++ behind) seat_calls history (subst (λ (l : List (Event A)). IsPrefix l seat_calls) calls_parts (calls-begin ended all seat_calls are)) shown) begins few).1

  pub seen-blocks : (threads : ℕ) (lines : List (RunLine A)) (ended : Ended) (text : List ℕ) (seats : List (SeatState A)) (history : List (Event A)) (so : HaveCalled threads lines ended text (opened threads) seats)
      → 1 ≤ threads → AreSeats threads seats → All (λ seat. IsPrefix seat.seen history) seats → EachBlock lines so.replies (IsDivided IsPrefix threads so.replies history)
  seen-blocks threads lines ended text seats history so some numbered seen before line behind is ends less =
      let order = so.order (opened_met A threads) in
      let cut = order.blocks before line behind is ends less in
      let until = before ++ line ∷ [] in
      let made = calls_of threads until so.replies in
      let later = calls_of threads behind (drop (length until) so.replies) in
      let shown : IsPrefix cut.front history = prefix-trans cut.front (first_seen seats) history cut.seen (first-shown seats history seen) in
      let whole : lines ≡ until ++ behind = is ∙ sym (append_assoc before (line ∷ []) behind) in
      record {
        front = cut.front;
        rest = shown.0;
        parts = sym shown.1;
        first = λ number. elim (cases_lt threads number) [
          | inl beyond ↦ subst (λ (l : List (Event A)). IsPrefix l (own number cut.front)) (sym (calls-beyond threads number until so.replies some beyond)) (prefix-of-none (own number cut.front))
          | inr within ↦ (cut-at threads cut.front made seats number cut.seats (omega (arith, within))).has
        ];
        later = λ number. elim (cases_lt threads number) [
          | inl beyond ↦
              subst (λ (l : List (Event A)). IsPrefix l (own number shown.0)) (sym (calls-beyond threads number behind (drop (length until) so.replies) some beyond)) (prefix-of-none (own number shown.0))
          | inr within ↦
              let small : number < threads + 1 = omega (arith, within) in
              let seat = get_or seats number (newcomer 0) in
              let there : number < length seats = omega (arith, numbered.0, small) in
              let its = called-at threads ended (calls_of threads lines so.replies) seats number so.seats small in
              let at = cut-at threads cut.front made seats number cut.seats small in
              let answered : IsPrefix seat.answered history = prefix-trans seat.answered seat.seen history (its.seen (prefix-of-none [])) (seen number (newcomer 0) there) in
              behind-front ended (own number made) (own number later) (own number (calls_of threads lines so.replies)) (own number cut.front) (own number shown.0) (own number history) (calls seat)
              (own-parts threads number lines until behind so.replies whole) (ap (own number) (sym shown.1) ∙ own-append number cut.front shown.0) its.calls_are
              (subst (λ (n : ℕ). IsPrefix (own n seat.answered) (own number history)) (sym at.number) (own-prefix number seat.answered history answered)) at.has at.no_more
        ];
      }

  -- such a history, with as many events at least as the fault reports
  abbrev pub OneHistory : (List (Event A) → List (Event A) → Type 0) → ℕ → List (RunLine A) → List (Reply A) → Ended → Type 0
  OneHistory Are threads lines replies ended = (so : AreOfOneHistory Are threads lines replies) × ReportsEvents (λ count. count ≤ length so.history) ended

  -- what one of the seats has seen begins it
  pub seen-events : (ended : Ended) (seats : List (SeatState A)) (history : List (Event A)) → All (λ seat. IsPrefix seat.seen history) seats → OneHasSeen ended seats → ReportsEvents (λ count. count ≤ length history) ended
  seen-events ended seats history shown seen =
      reports (λ count. Any (λ (seat : SeatState A). count ≤ length seat.seen) seats) (λ count. count ≤ length history)
      (λ count one.
      let begins : IsPrefix one.1.seen history = subst (λ (seat : SeatState A). IsPrefix seat.seen history) one.3 (shown one.0 one.1 one.2) in
      omega (arith, prefix-length one.1.seen history begins, one.4)) ended seen

  pub closed_history : (threads : ℕ) (lines : List (RunLine A)) (ended : Ended) (text : List ℕ) (seats : List (SeatState A)) (events : ℕ) (core : State A) (so : HaveCalled threads lines ended text (opened threads) seats)
      → 1 ≤ threads → AreSeats threads seats → IsClosed seats events core → OneHistory (AreCalls ended) threads lines so.replies ended
  closed_history threads lines ended text seats events core so some numbered closed = (
    record {
      history = closed.history;
      legal = closed.legal;
      blobs = closed.blobs;
      calls_are = closed-calls threads lines ended text seats events core so some numbered closed;
      blocks = closed-blocks threads lines ended text seats events core so some numbered closed;
    },
    seen-events ended seats closed.history closed.seen so.events,
  )

  pub begun-history : (threads : ℕ) (lines : List (RunLine A)) (replies : List (Reply A)) (ended : Ended) → OneHistory (AreCalls ended) threads lines replies ended → OneHistory IsPrefix threads lines replies ended
  begun-history threads lines replies ended (so, events) = (
    record {
      history = so.history;
      legal = so.legal;
      blobs = so.blobs;
      calls_are = λ number. calls-begin ended (own number (calls_of threads lines replies)) (own number so.history) (so.calls_are number);
      blocks = λ before line behind is ends less.
          let part = so.blocks before line behind is ends less in
          record {
            front = part.front;
            rest = part.rest;
            parts = part.parts;
            first = λ number. calls-begin ended (own number (calls_of threads (before ++ line ∷ []) replies)) (own number part.front) (part.first number);
            later = λ number. calls-begin ended (own number (calls_of threads behind (drop (length (before ++ line ∷ [])) replies))) (own number part.rest) (part.later number);
          };
    },
    events,
  )

  -- what the first seat has seen of an unclosed server's history
  pub seen_history : (threads : ℕ) (lines : List (RunLine A)) (ended : Ended) (text : List ℕ) (seats left : List (SeatState A)) (least : List (Event A)) (front : ℕ)
      (so : HaveCalled threads lines ended text (opened threads) seats) → 1 ≤ threads → AreSeats threads seats → FirstHasSeen seats left least front → OneHistory IsPrefix threads lines so.replies ended
  seen_history threads lines ended text seats left least front so some numbered first =
      let made = calls_of threads lines so.replies in (
        record {
          history = first.history;
          legal = first.legal;
          blobs = first.blobs;
          blocks = seen-blocks threads lines ended text seats first.history so some numbered first.seen;
          calls_are = λ number.
              elim (cases_lt threads number) [
                | inl beyond ↦
                    subst (λ (l : List (Event A)). IsPrefix l (own number first.history)) (sym (calls-beyond threads number lines so.replies some beyond)) (prefix-of-none (own number first.history))
                | inr within ↦
                    let seat = get_or seats number (newcomer 0) in
                    let less : number < threads + 1 = omega (arith, within) in
                    let there : number < length seats = omega (arith, numbered.0, less) in
                    let its = called-at threads ended made seats number so.seats less in
                    let is = number-at (λ p. p) seats number (newcomer 0) numbered.1 there in
                    let begins : IsPrefix (own number made) (own number seat.answered) =
                    subst (λ (n : ℕ). IsPrefix (own number made) (own n seat.answered)) is (calls-begin ended (own number made) (calls seat) its.calls_are) in
                    let shown : IsPrefix seat.answered first.history =
                    prefix-trans seat.answered seat.seen first.history (its.seen (prefix-of-none [])) (first.seen number (newcomer 0) there) in
                    prefix-trans (own number made) (own number seat.answered) (own number first.history) begins (own-prefix number seat.answered first.history shown)
              ];
        },
        seen-events ended seats first.history first.seen so.events,
      )

  -- ---- what a run wrote

  pub sooner-history : (threads : ℕ) (lines others : List (RunLine A)) (replies : List (Reply A)) (ended : Ended) → length replies ≤ length lines → OneHistory IsPrefix threads lines replies ended
      → OneHistory IsPrefix threads (lines ++ others) replies ended
  sooner-history threads lines others replies ended few (so, events) = (
    record {
      history = so.history;
      legal = so.legal;
      blobs = so.blobs;
      blocks = λ before line behind is ends less.
          let cut = split-first lines others before line behind is (omega (arith, few, less)) in
          let sooner = ends_sooner line cut.0 others (subst (λ (l : List (RunLine A)). EndsBlock line l) cut.2 ends) in
          let part = so.blocks before line cut.0 cut.1 sooner less in
          let left = drop (length (before ++ line ∷ [])) replies in
          let long : length lines ≡ length before + suc (length cut.0) = ap length cut.1 ∙ length-append before (line ∷ cut.0) in
          let fewer : length left ≤ length cut.0 = omega (arith, length-drop (length (before ++ line ∷ [])) replies, length-append before (line ∷ []), few, long) in
          let same : calls_of threads behind left ≡ calls_of threads cut.0 left = ap (λ (l : List (RunLine A)). calls_of threads l left) cut.2 ∙ calls_of-longer threads cut.0 others left fewer in
          record {
            front = part.front;
            rest = part.rest;
            parts = part.parts;
            first = part.first;
            later = λ number. subst (λ (l : List (Event A)). IsPrefix (own number l) (own number part.rest)) (sym same) (part.later number);
          };
      calls_are = λ number. subst (λ (l : List (Event A)). IsPrefix (own number l) (own number so.history)) (sym (calls_of-longer threads lines others replies few)) (so.calls_are number);
    },
    events,
  )

  pub writes-some : (form : ReplyForm) (threads : ℕ) (called others lines : List (RunLine A)) (ended : Ended) (text : List ℕ) (seats : List (SeatState A)) (a b : Option (List ℕ)) → lines ≡ called ++ others
      → (so : HaveCalled threads called ended text (opened threads) seats) → OneHistory IsPrefix threads called so.replies ended → AppendsFront a b (text ++ ending form ended) → WritesSome form threads lines a b
  writes-some form threads called others lines ended text seats a b parts so history wrote =
      let few = count_few ended (length so.replies) (length called) so.count in
      let all = subst (λ (l : List (RunLine A)). OneHistory IsPrefix threads l so.replies ended) (sym parts) (sooner-history threads called others so.replies ended few history) in (
        ended,
        text ++ ending form ended,
        record {
          replies = so.replies;
          few = omega (arith, few, ap length parts, length-append called others);
          text_is = ap (λ (t : List ℕ). t ++ ending form ended)
              (so.text_is ∙ sym (reply_lines-longer called others so.replies few) ∙ ap (λ (l : List (RunLine A)). reply_lines l so.replies) (sym parts));
          history = all.0;
          events = all.1;
        },
        wrote,
      )

  pub writes-all : (form : ReplyForm) (threads : ℕ) (lines : List (RunLine A)) (ended : Ended) (text : List ℕ) (seats : List (SeatState A)) (a b : Option (List ℕ)) → (so : HaveCalled threads lines ended text (opened threads) seats)
      → OneHistory (AreCalls ended) threads lines so.replies ended → Appends a b (text ++ ending form ended) → WritesAll form threads lines ended a b
  writes-all form threads lines ended text seats a b so (history, events) wrote =
      (text ++ ending form ended, record { replies = so.replies; count = so.count; text_is = ap (λ (t : List ℕ). t ++ ending form ended) so.text_is; history = history; events = events }, wrote)

  -- the server was not closed
  pub writes-unclosed : (form : ReplyForm) (threads : ℕ) (lines : List (RunLine A)) (text : List ℕ) (seats : List (SeatState A)) (a b : Option (List ℕ)) → (so : HaveCalled threads lines (Ok tt) text (opened threads) seats)
      → OneHistory IsPrefix threads lines so.replies (Ok tt) → Appends a b text → WritesUnclosed form threads lines a b
  writes-unclosed form threads lines text seats a b so (history, events) wrote =
      (text, record { replies = so.replies; count = so.count; text_is = so.text_is ∙ sym (append-nil (reply_lines lines so.replies)); history = history; events = events }, wrote)

  -- ---- the whole run

  pub writes_closed : (form : ReplyForm) (threads : ℕ) (input : Option (List ℕ)) (lines : List (RunLine A)) (outcome : Result (Unit {0}) RunFault) (seats : List (SeatState A)) (events : ℕ) (core : State A) (a b : Option (List ℕ))
      → 1 ≤ threads → IsSpelled form input lines → RunsLines form threads lines outcome (opened threads) seats a b → IsClosed seats events core → WritesWorkload A form threads input outcome a b
  writes_closed form threads input lines (Ok done) seats events core a b some spelled (text, so, wrote) closed =
      let history = closed_history threads lines (Ok tt) text seats events core so some (still_seats threads lines (Ok tt) text (opened threads) seats so (newcomers_seats A threads)) closed in
      (lines, spelled, writes-all form threads lines (Ok tt) text seats a b so history (subst (λ (t : List ℕ). Appends a b t) (sym (append-nil text)) wrote))
  writes_closed form threads input lines (Err (Call fault)) seats events core a b some spelled (text, so, wrote) closed =
      let history = closed_history threads lines (Err fault) text seats events core so some (still_seats threads lines (Err fault) text (opened threads) seats so (newcomers_seats A threads)) closed in
      (lines, spelled, writes-all form threads lines (Err fault) text seats a b so history wrote)
  writes_closed form threads input lines (Err Write) seats events core a b some spelled (called, others, ended, text, parts, so, wrote) closed =
      let history = closed_history threads called ended text seats events core so some (still_seats threads called ended text (opened threads) seats so (newcomers_seats A threads)) closed in
      (lines, spelled, writes-some form threads called others lines ended text seats a b parts so (begun-history threads called so.replies ended history) wrote)
  writes_closed form threads input lines (Err Close) seats events core a b some spelled runs closed = absurd runs
  writes_closed form threads input lines (Err (Script fault)) seats events core a b some spelled runs closed = absurd runs
  writes_closed form threads input lines (Err NotUtf8) seats events core a b some spelled runs closed = absurd runs
  writes_closed form threads input lines (Err NotHex) seats events core a b some spelled runs closed = absurd runs
  writes_closed form threads input lines (Err (Blob fault)) seats events core a b some spelled runs closed = absurd runs
  writes_closed form threads input lines (Err Patchset) seats events core a b some spelled runs closed = absurd runs
  writes_closed form threads input lines (Err (BlobList fault)) seats events core a b some spelled runs closed = absurd runs
  writes_closed form threads input lines (Err Read) seats events core a b some spelled runs closed = absurd runs
  writes_closed form threads input lines (Err OutOfMemory) seats events core a b some spelled runs closed = absurd runs

  pub writes_unclosed : (form : ReplyForm) (threads : ℕ) (input : Option (List ℕ)) (lines : List (RunLine A)) (outcome : Result (Unit {0}) RunFault) (seats left : List (SeatState A)) (least : List (Event A)) (front : ℕ)
      (a b : Option (List ℕ)) → 1 ≤ threads → IsSpelled form input lines → RunsLines form threads lines outcome (opened threads) seats a b → FirstHasSeen seats left least front
      → WritesWorkload A form threads input (unclosed_outcome outcome) a b
  writes_unclosed form threads input lines (Ok done) seats left least front a b some spelled (text, so, wrote) first =
      let history = seen_history threads lines (Ok tt) text seats left least front so some (still_seats threads lines (Ok tt) text (opened threads) seats so (newcomers_seats A threads)) first in
      (lines, spelled, writes-unclosed form threads lines text seats a b so history wrote)
  writes_unclosed form threads input lines (Err (Call fault)) seats left least front a b some spelled (text, so, wrote) first =
      let history = seen_history threads lines (Err fault) text seats left least front so some (still_seats threads lines (Err fault) text (opened threads) seats so (newcomers_seats A threads)) first in
      (lines, spelled, writes-all form threads lines (Err fault) text seats a b so history wrote)
  writes_unclosed form threads input lines (Err Write) seats left least front a b some spelled (called, others, ended, text, parts, so, wrote) first =
      let history = seen_history threads called ended text seats left least front so some (still_seats threads called ended text (opened threads) seats so (newcomers_seats A threads)) first in
      (lines, spelled, writes-some form threads called others lines ended text seats a b parts so history wrote)
  writes_unclosed form threads input lines (Err Close) seats left least front a b some spelled runs first = absurd runs
  writes_unclosed form threads input lines (Err (Script fault)) seats left least front a b some spelled runs first = absurd runs
  writes_unclosed form threads input lines (Err NotUtf8) seats left least front a b some spelled runs first = absurd runs
  writes_unclosed form threads input lines (Err NotHex) seats left least front a b some spelled runs first = absurd runs
  writes_unclosed form threads input lines (Err (Blob fault)) seats left least front a b some spelled runs first = absurd runs
  writes_unclosed form threads input lines (Err Patchset) seats left least front a b some spelled runs first = absurd runs
  writes_unclosed form threads input lines (Err (BlobList fault)) seats left least front a b some spelled runs first = absurd runs
  writes_unclosed form threads input lines (Err Read) seats left least front a b some spelled runs first = absurd runs
  writes_unclosed form threads input lines (Err OutOfMemory) seats left least front a b some spelled runs first = absurd runs

  -- all seats were handed back
  pub none_missing : (threads : ℕ) (lines : List (RunLine A)) (ended : Ended) (text : List ℕ) (seats : List (SeatState A)) (number : ℕ) → HaveCalled threads lines ended text (opened threads) seats
      → number < threads + 1 → ¬ IsMissing seats number
  none_missing threads lines ended text seats number so within missed =
      missed number (stands_at threads seats number (still_seats threads lines ended text (opened threads) seats so (newcomers_seats A threads)) within)

  -- some lines were called by the seats, however the run ended
  pub runs-called : (form : ReplyForm) (threads : ℕ) (lines : List (RunLine A)) (outcome : Result (Unit {0}) RunFault) (a b : List (SeatState A)) (k l : Option (List ℕ)) → RunsLines form threads lines outcome a b k l
      → (called : List (RunLine A)) × (ended : Ended) × (text : List ℕ) × HaveCalled threads called ended text a b
  runs-called form threads lines (Ok done) a b k l (text, so, wrote) = (lines, Ok tt, text, so)
  runs-called form threads lines (Err (Call fault)) a b k l (text, so, wrote) = (lines, Err fault, text, so)
  runs-called form threads lines (Err Write) a b k l (called, others, ended, text, parts, so, wrote) = (called, ended, text, so)
  runs-called form threads lines (Err Close) a b k l runs = absurd runs
  runs-called form threads lines (Err (Script fault)) a b k l runs = absurd runs
  runs-called form threads lines (Err NotUtf8) a b k l runs = absurd runs
  runs-called form threads lines (Err NotHex) a b k l runs = absurd runs
  runs-called form threads lines (Err (Blob fault)) a b k l runs = absurd runs
  runs-called form threads lines (Err Patchset) a b k l runs = absurd runs
  runs-called form threads lines (Err (BlobList fault)) a b k l runs = absurd runs
  runs-called form threads lines (Err Read) a b k l runs = absurd runs
  runs-called form threads lines (Err OutOfMemory) a b k l runs = absurd runs

  -- ---- a run of the seats that a server opened, and that were handed back to it

  pub served_closed : (form : ReplyForm) (threads : ℕ) (input : Option (List ℕ)) (lines : List (RunLine A)) (outcome : Result (Unit {0}) RunFault) (first last back : List (SeatState A)) (events : ℕ) (core : State A)
      (a b : Option (List ℕ)) → 1 ≤ threads → IsSpelled form input lines → first ≡ opened threads → back ≡ last → RunsLines form threads lines outcome first last a b → IsClosed back events core
      → WritesWorkload A form threads input outcome a b
  served_closed form threads input lines outcome first last back events core a b some spelled new same runs closed =
      writes_closed form threads input lines outcome last events core a b some spelled
      (subst (λ (l : List (SeatState A)). RunsLines form threads lines outcome l last a b) new runs) (subst (λ (l : List (SeatState A)). IsClosed l events core) same closed)

  pub served_unclosed : (form : ReplyForm) (threads count : ℕ) (input : Option (List ℕ)) (lines : List (RunLine A)) (outcome : Result (Unit {0}) RunFault) (first last back left : List (SeatState A)) (fault : CloseFault)
      (a b : Option (List ℕ)) → 1 ≤ threads → count ≡ threads + 1 → IsSpelled form input lines → first ≡ opened threads → back ≡ last → RunsLines form threads lines outcome first last a b
      → MatchCloseFault fault (λ number. (left ≡ back) × (number < count) × IsMissing back number × HasAll back number) (λ front. HasAll back count × FirstHasSeen back left [] front)
      → WritesWorkload A form threads input (unclosed_outcome outcome) a b
  served_unclosed form threads count input lines outcome first last back left (closing.MissingSeat number) a b some seats spelled new same runs (kept, less, missed, all) =
      let began = subst (λ (l : List (SeatState A)). RunsLines form threads lines outcome l last a b) new runs in
      let ran = runs-called form threads lines outcome (opened threads) last a b began in
      absurd (none_missing threads ran.0 ran.1 ran.2 last number ran.3 (omega (arith, less, seats)) (subst (λ (l : List (SeatState A)). IsMissing l number) same missed))
  served_unclosed form threads count input lines outcome first last back left (closing.Overtaken front) a b some seats spelled new same runs (all, seen) =
      writes_unclosed form threads input lines outcome last left [] front a b some spelled
      (subst (λ (l : List (SeatState A)). RunsLines form threads lines outcome l last a b) new runs) (subst (λ (l : List (SeatState A)). FirstHasSeen l left [] front) same seen)

-- nothing was written, since the run did not begin
pub begins_nothing : (form : ReplyForm) (A : Type 0) (threads : ℕ) (input : Option (List ℕ)) (fault : RunFault) (a : Option (List ℕ)) → RunsNothing fault → WritesWorkload A form threads input (Err fault) a a
begins_nothing form A threads input (Script fault) a early = Keeps-refl a
begins_nothing form A threads input NotUtf8 a early = Keeps-refl a
begins_nothing form A threads input NotHex a early = Keeps-refl a
begins_nothing form A threads input (Blob fault) a early = Keeps-refl a
begins_nothing form A threads input Patchset a early = Keeps-refl a
begins_nothing form A threads input (BlobList fault) a early = Keeps-refl a
begins_nothing form A threads input (Call fault) a early = absurd early
begins_nothing form A threads input Read a early = Keeps-refl a
begins_nothing form A threads input Write a early = absurd early
begins_nothing form A threads input OutOfMemory a early = Keeps-refl a
begins_nothing form A threads input Close a early = absurd early
