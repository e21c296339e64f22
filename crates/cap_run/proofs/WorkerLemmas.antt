-- What a worker has called of its lines of a block.
use Rattle.std.proofs.Common.{◌≡◌, ◌≢◌, ℕ, ◌+◌, ◌<◌, ◌≤◌, List, [], ◌∷◌, ◌++◌, Ok, Err, Bool, true, false, length, nat_eq, cond, drop, get_or, take, take-append-drop, take_all, refl, sym, ap, ap₂, subst, ◌∙◌, append_assoc, append-nil, length-append, arith}
use Rattle.std.specs.Prelude.{String, map, string_bytes}
use Rattle.std.proofs.lemmas.List.{drop_more}
use Rattle.std.proofs.lemmas.List.Elements.{filter-append, filter_more}
use mathlib.Core.List.{IsPrefix}
use Rattle.cap_core.specs.Answer.{event_by}
use Rattle.cap_core.specs.declared.event.Event.{Event}
use Rattle.cap_core.specs.declared.reply.Reply.{Reply}
use Rattle.cap_core.specs.declared.command.Command.{Command}
use Rattle.cap_history.specs.Beginnings.{prefix-append, prefix-self, prefix-trans}
use Rattle.cap_history.specs.History.{own}
use Rattle.cap_history.specs.Seat.{HasCalled, SeatState, SeesMore, calls}
use Rattle.cap_run.proofs.OrderLemmas.{goes_called, goes_later, goes_same, goes_seen}
use Rattle.cap_run.proofs.SeatLemmas.{calls-begin, calls_of-append, calls_of-longer, calls_of-none, is_of, lines-own, nat_eq-other, nat_eq-same, reply_texts-none}
use Rattle.cap_interpreter.specs.Lines.{on_a_line}
use Rattle.cap_run.specs.Run.{Ended}
use Rattle.cap_run.specs.Code.Calls.{HasCalledLine, HasCalledLines, HasSeen, HasWorked, KeepsCalls, Work, reply_texts, seat_lines, work}
use Rattle.cap_run.specs.Workload.{calls_of, seat_of}
use Rattle.cap_replies.specs.Printed.{reply_text}
use Rattle.cap_replies.specs.declared.run_line.RunLine.{RunLine}
use Rattle.cap_locked.specs.Fault.{LeavesSeat}
use Rattle.cap_locked.specs.declared.fault.CallFault.{CallFault}
use Rattle.cap_locked.specs.declared.fault.CallFault.TheVariants as call

module _ {A : Type 0} where
  pub lines_none : (threads : ℕ) (seat : SeatState A) → HasCalledLines threads [] (Ok tt) [] seat seat
  lines_none threads seat = record { replies = []; count = refl; texts_are = refl; number = refl; calls_are = sym (append-nil (calls seat)); seen = λ so. so; goes_on = goes_same seat; events = tt }

  -- no line of some is called, out of memory
  pub lines_refused : (threads : ℕ) (lines : List (RunLine A)) (seat : SeatState A) → 0 < length lines → HasCalledLines threads lines (Err call.OutOfMemory) [] seat seat
  lines_refused threads lines seat some = record {
    replies = [];
    count = some;
    texts_are = sym (reply_texts-none lines);
    number = refl;
    calls_are = subst (λ (l : List (Event A)). IsPrefix (calls seat ++ l) (calls seat)) (sym (calls_of-none threads lines))
        (subst (λ (l : List (Event A)). IsPrefix l (calls seat)) (sym (append-nil (calls seat))) (prefix-self (calls seat)));
    seen = λ so. so;
    goes_on = goes_same seat;
    events = tt;
  }

  pub reply_texts-append : (lines others : List (RunLine A)) (replies more : List (Reply A)) → length replies ≡ length lines
      → reply_texts (lines ++ others) (replies ++ more) ≡ reply_texts lines replies ++ reply_texts others more
  reply_texts-append [] others [] more same = refl
  reply_texts-append [] others (reply ∷ replies) more same = absurd (omega (arith, same))
  reply_texts-append (line ∷ lines) others [] more same = absurd (omega (arith, same))
  reply_texts-append (line ∷ lines) others (reply ∷ replies) more same =
      ap (λ (texts : List (List ℕ)). on_a_line (reply_text line reply) ∷ texts) (reply_texts-append lines others replies more (omega (arith, same)))

  pub reply_texts-longer : (lines others : List (RunLine A)) (replies : List (Reply A)) → length replies ≤ length lines → reply_texts (lines ++ others) replies ≡ reply_texts lines replies
  reply_texts-longer [] others [] few = reply_texts-none others
  reply_texts-longer [] others (reply ∷ replies) few = absurd (omega (arith, few))
  reply_texts-longer (line ∷ lines) others [] few = refl
  reply_texts-longer (line ∷ lines) others (reply ∷ replies) few = ap (λ (texts : List (List ℕ)). on_a_line (reply_text line reply) ∷ texts) (reply_texts-longer lines others replies (omega (arith, few)))

  -- one more of a worker's lines has its reply
  pub lines_more : (threads : ℕ) (lines : List (RunLine A)) (line : RunLine A) (texts more : List (List ℕ)) (text : List ℕ) (a b c : SeatState A) → HasCalledLines threads lines (Ok tt) texts a b
      → b.number ≡ seat_of threads line.line.worker → HasCalledLine line text b c → more ≡ texts ++ text ∷ [] → HasCalledLines threads (lines ++ line ∷ []) (Ok tt) more a c
  lines_more threads lines line texts more text a b c so at answered is =
      let event = event_by (seat_of threads line.line.worker) line.line.command answered.reply in
      let made : event_by b.number line.line.command answered.reply ≡ event = ap (λ (n : ℕ). event_by n line.line.command answered.reply) at in
      record {
        replies = so.replies ++ answered.reply ∷ [];
        count = omega (arith, so.count, length-append so.replies (answered.reply ∷ []), length-append lines (line ∷ []));
        texts_are = is ∙ ap₂ (λ (l : List (List ℕ)) (t : List ℕ). l ++ t ∷ []) so.texts_are answered.text_is ∙ sym (reply_texts-append lines (line ∷ []) so.replies (answered.reply ∷ []) so.count);
        number = answered.number ∙ so.number;
        calls_are = answered.calls_are ∙ ap₂ (λ (l : List (Event A)) (e : Event A). l ++ e ∷ []) so.calls_are made
            ∙ append_assoc (calls a) (calls_of threads lines so.replies) (event ∷ []) ∙ ap (λ (l : List (Event A)). calls a ++ l) (sym (calls_of-append threads lines (line ∷ []) so.replies (answered.reply ∷ []) so.count));
        seen = λ before. answered.seen;
        goes_on = goes_later a b c so.goes_on answered.goes_on;
        events = tt;
      }

  -- the next has none
  pub lines_ended : (threads : ℕ) (fault : CallFault) (lines others : List (RunLine A)) (texts : List (List ℕ)) (a b c : SeatState A) → HasCalledLines threads lines (Ok tt) texts a b
      → KeepsCalls b c → HasSeen (Err fault) c → 0 < length others → HasCalledLines threads (lines ++ others) (Err fault) texts a c
  lines_ended threads fault lines others texts a b c so keeps events some =
      let few : length so.replies ≤ length lines = omega (arith, so.count) in
      record {
        replies = so.replies;
        count = omega (arith, so.count, some, length-append lines others);
        texts_are = so.texts_are ∙ sym (reply_texts-longer lines others so.replies few);
        number = keeps.number ∙ so.number;
        calls_are = subst (λ (l : List (Event A)). IsPrefix (calls a ++ l) (calls c)) (sym (calls_of-longer threads lines others so.replies few))
            (subst (λ (l : List (Event A)). IsPrefix l (calls c)) so.calls_are keeps.begins);
        seen = λ before. keeps.seen (so.seen before);
        goes_on = goes_later a b c so.goes_on keeps.goes_on;
        events = events;
      }

  -- the lines of a seat, one line after the other
  pub seat_lines-next : (threads number index : ℕ) (lines : List (RunLine A)) (line : RunLine A) → index < length lines → line ≡ get_or lines index line → seat_of threads line.line.worker ≡ number
      → seat_lines threads number (take (index + 1) lines) ≡ seat_lines threads number (take index lines) ++ line ∷ []
  seat_lines-next threads number index lines line within is at =
      let its : is_of threads number line ≡ true = ap (λ n. nat_eq n number) at ∙ nat_eq-same number in
      filter_more (is_of threads number) lines index line within ∙ ap (λ (l : RunLine A). seat_lines threads number (take index lines) ++ cond (is_of threads number l) (l ∷ []) []) (sym is)
      ∙ ap (λ (b : Bool). seat_lines threads number (take index lines) ++ cond b (line ∷ []) []) its

  pub seat_lines-passed : (threads number index : ℕ) (lines : List (RunLine A)) (line : RunLine A) → index < length lines → line ≡ get_or lines index line → seat_of threads line.line.worker ≢ number
      → seat_lines threads number (take (index + 1) lines) ≡ seat_lines threads number (take index lines)
  seat_lines-passed threads number index lines line within is other =
      let not_its : is_of threads number line ≡ false = nat_eq-other (seat_of threads line.line.worker) number other in
      filter_more (is_of threads number) lines index line within ∙ ap (λ (l : RunLine A). seat_lines threads number (take index lines) ++ cond (is_of threads number l) (l ∷ []) []) (sym is)
      ∙ ap (λ (b : Bool). seat_lines threads number (take index lines) ++ cond b (line ∷ []) []) not_its ∙ append-nil (seat_lines threads number (take index lines))

  -- the lines of a seat before a place and behind it
  pub seat_lines-parts : (threads number index : ℕ) (lines : List (RunLine A)) → seat_lines threads number lines ≡ seat_lines threads number (take index lines) ++ seat_lines threads number (drop index lines)
  seat_lines-parts threads number index lines =
      ap (seat_lines threads number) (sym (take-append-drop index lines)) ∙ filter-append (is_of threads number) (take index lines) (drop index lines)

  -- there is one behind it
  pub seat_lines-some : (threads number index : ℕ) (lines : List (RunLine A)) (line : RunLine A) → index < length lines → line ≡ get_or lines index line → seat_of threads line.line.worker ≡ number
      → 0 < length (seat_lines threads number (drop index lines))
  seat_lines-some threads number index lines line within is at =
      let its : is_of threads number line ≡ true = ap (λ n. nat_eq n number) at ∙ nat_eq-same number in
      let parts : drop index lines ≡ line ∷ drop (index + 1) lines = drop_more lines index line within ∙ ap (λ (l : RunLine A). l ∷ drop (index + 1) lines) (sym is) in
      omega (arith, ap (λ (l : List (RunLine A)). length (seat_lines threads number l)) parts, ap length (lines-own threads number line (drop (index + 1) lines) its))

  -- some line of a block is of the seat
  pub given_some : (threads number index : ℕ) (block : List (RunLine A)) (line : RunLine A) → index < length block → line ≡ get_or block index line → seat_of threads line.line.worker ≡ number
      → 0 < length (seat_lines threads number block)
  given_some threads number index block line within is at =
      omega (
        arith,
        ap length (seat_lines-parts threads number index block),
        length-append (seat_lines threads number (take index block)) (seat_lines threads number (drop index block)),
        seat_lines-some threads number index block line within is at,
      )

  -- a line of a block is passed over, since it is another seat's
  pub lines_passed : (threads number index : ℕ) (block : List (RunLine A)) (line : RunLine A) (texts : List (List ℕ)) (a b : SeatState A) → index < length block → line ≡ get_or block index line
      → seat_of threads line.line.worker ≢ number → HasCalledLines threads (seat_lines threads number (take index block)) (Ok tt) texts a b
      → HasCalledLines threads (seat_lines threads number (take (index + 1) block)) (Ok tt) texts a b
  lines_passed threads number index block line texts a b within is other so =
      subst (λ (l : List (RunLine A)). HasCalledLines threads l (Ok tt) texts a b) (sym (seat_lines-passed threads number index block line within is other)) so

  -- it has its reply
  pub lines_next : (threads number index : ℕ) (block : List (RunLine A)) (line : RunLine A) (texts more : List (List ℕ)) (text : List ℕ) (a b c : SeatState A) → index < length block → line ≡ get_or block index line
      → seat_of threads line.line.worker ≡ number → a.number ≡ number → HasCalledLines threads (seat_lines threads number (take index block)) (Ok tt) texts a b → HasCalledLine line text b c → more ≡ texts ++ text ∷ []
      → HasCalledLines threads (seat_lines threads number (take (index + 1) block)) (Ok tt) more a c
  lines_next threads number index block line texts more text a b c within is at its so answered grown =
      subst (λ (l : List (RunLine A)). HasCalledLines threads l (Ok tt) more a c) (sym (seat_lines-next threads number index block line within is at))
      (lines_more threads (seat_lines threads number (take index block)) line texts more text a b c so (so.number ∙ its ∙ sym at) answered grown)

  -- it has none
  pub lines_stopped : (threads number index : ℕ) (fault : CallFault) (block : List (RunLine A)) (line : RunLine A) (texts : List (List ℕ)) (a b c : SeatState A) → index < length block
      → line ≡ get_or block index line → seat_of threads line.line.worker ≡ number → HasCalledLines threads (seat_lines threads number (take index block)) (Ok tt) texts a b → KeepsCalls b c
      → HasSeen (Err fault) c → HasCalledLines threads (seat_lines threads number block) (Err fault) texts a c
  lines_stopped threads number index fault block line texts a b c within is at so keeps events =
      subst (λ (l : List (RunLine A)). HasCalledLines threads l (Err fault) texts a c) (sym (seat_lines-parts threads number index block))
      (lines_ended threads fault (seat_lines threads number (take index block)) (seat_lines threads number (drop index block)) texts a b c so keeps events (seat_lines-some threads number index block line within is at))

  -- all lines of the block were looked at
  pub lines_done : (threads number index : ℕ) (block : List (RunLine A)) (texts : List (List ℕ)) (a b : SeatState A) → length block ≤ index
      → HasCalledLines threads (seat_lines threads number (take index block)) (Ok tt) texts a b → HasCalledLines threads (seat_lines threads number block) (Ok tt) texts a b
  lines_done threads number index block texts a b ended so =
      subst (λ (l : List (RunLine A)). HasCalledLines threads (seat_lines threads number l) (Ok tt) texts a b) (take_all index block ended) so

  -- a worker that calls no line of a block
  pub worked_none : (threads : ℕ) (block : List (RunLine A)) (seat : SeatState A) (done : Work A) → seat_lines threads seat.number block ≡ [] → done ≡ work seat [] (Ok tt) → HasWorked threads block seat done
  worked_none threads block seat done none is =
      subst (λ (w : Work A). HasWorked threads block seat w) (sym is)
      (subst (λ (l : List (RunLine A)). HasCalledLines threads l (Ok tt) [] seat seat) (sym none) (lines_none threads seat))

  -- or has no thread for them
  pub worked_refused : (threads : ℕ) (block : List (RunLine A)) (seat : SeatState A) (done : Work A) → 0 < length (seat_lines threads seat.number block) → done ≡ work seat [] (Err call.OutOfMemory)
      → HasWorked threads block seat done
  worked_refused threads block seat done some is =
      subst (λ (w : Work A). HasWorked threads block seat w) (sym is) (lines_refused threads (seat_lines threads seat.number block) seat some)

  -- whatever a worker has called, it may be that it ends out of memory at its first line
  pub worked_stopped : (threads : ℕ) (block : List (RunLine A)) (seat : SeatState A) (before done : Work A) → 0 < length (seat_lines threads seat.number block) → HasWorked threads block seat before
      → done ≡ work before.seat [] (Err call.OutOfMemory) → HasWorked threads block seat done
  worked_stopped threads block seat before done some so is =
      let lines = seat_lines threads seat.number block in
      let begins : IsPrefix (calls seat) (calls before.seat) =
      prefix-trans (calls seat) (calls seat ++ calls_of threads lines so.replies) (calls before.seat) (prefix-append (calls seat) (calls_of threads lines so.replies))
      (calls-begin before.ended (calls seat ++ calls_of threads lines so.replies) (calls before.seat) so.calls_are) in
      let stopped : HasWorked threads block seat (work before.seat [] (Err call.OutOfMemory)) = record {
        replies = [];
        count = some;
        texts_are = sym (reply_texts-none lines);
        number = so.number;
        calls_are = subst (λ (l : List (Event A)). IsPrefix (calls seat ++ l) (calls before.seat)) (sym (calls_of-none threads lines))
            (subst (λ (l : List (Event A)). IsPrefix l (calls before.seat)) (sym (append-nil (calls seat))) begins);
        seen = so.seen;
        goes_on = so.goes_on;
        events = tt;
      } in
      subst (λ (w : Work A). HasWorked threads block seat w) (sym is) stopped

  pub work_same : (a b : SeatState A) (texts others : List (List ℕ)) (c d : Ended) → a ≡ b → texts ≡ others → c ≡ d → work a texts c ≡ work b others d
  work_same a b texts others c d seats same outcome =
      ap (λ (s : SeatState A). work s texts c) seats ∙ ap (λ (t : List (List ℕ)). work b t c) same ∙ ap (λ (e : Ended). work b others e) outcome

  -- what a thread has promised of its worker
  pub worked_promised : (threads promised : ℕ) (block lines : List (RunLine A)) (seat before : SeatState A) (done : Work A) → promised ≡ threads → lines ≡ block → before ≡ seat → HasWorked promised lines before done
      → HasWorked threads block seat done
  worked_promised threads promised block lines seat before done count same is so =
      subst (λ (s : SeatState A). HasWorked threads block s done) is (subst (λ (l : List (RunLine A)). HasWorked threads l before done) same (subst (λ (n : ℕ). HasWorked n lines before done) count so))

  -- ---- one call of a seat

  all-called : (old new : SeatState A) (command : Command A) (reply : Reply A) → HasCalled old new command reply → calls new ≡ calls old ++ event_by old.number command reply ∷ []
  all-called old new command reply so = ap (λ (h : List (Event A)). own new.number h) so.answered ∙ so.calls

  all-seen : (new : SeatState A) → new.answered ≡ new.seen → IsPrefix new.answered new.seen
  all-seen new same = subst (λ (h : List (Event A)). IsPrefix h new.seen) (sym same) (prefix-self new.seen)

  pub answered_of : (line : RunLine A) (text : List ℕ) (reply : Reply A) (old new : SeatState A) → HasCalled old new line.line.command reply → text ≡ on_a_line (reply_text line reply) → HasCalledLine line text old new
  answered_of line text reply old new so is =
      record { reply = reply; text_is = is; number = so.number; calls_are = all-called old new line.line.command reply so; seen = all-seen new so.answered; goes_on = goes_called old new line.line.command reply so }

  -- a worker's texts, with one more
  pub texts_more : (texts : List (String A)) (text : String A) (bytes : List ℕ) → string_bytes text ≡ bytes → map string_bytes (texts ++ text ∷ []) ≡ map string_bytes texts ++ bytes ∷ []
  texts_more [] text bytes is = ap (λ (b : List ℕ). b ∷ []) is
  texts_more (first ∷ texts) text bytes is = ap (λ (l : List (List ℕ)). string_bytes first ∷ l) (texts_more texts text bytes is)

  pub keeps_same : (seat : SeatState A) → KeepsCalls seat seat
  keeps_same seat = record { number = refl; begins = prefix-self (calls seat); seen = λ so. so; goes_on = goes_same seat }

  keeps-seen : (old new : SeatState A) → SeesMore old new → KeepsCalls old new
  keeps-seen old new so =
      let same : calls new ≡ calls old = ap₂ (λ (n : ℕ) (h : List (Event A)). own n h) so.number so.answered in
      record {
        number = so.number;
        begins = subst (λ (h : List (Event A)). IsPrefix (calls old) h) (sym same) (prefix-self (calls old));
        seen = λ before. subst (λ (h : List (Event A)). IsPrefix h new.seen) (sym so.answered) (prefix-trans old.answered old.seen new.seen before so.seen);
        goes_on = goes_seen old new so;
      }

  -- what the fault of a call reports is what the seat has seen
  pub seen_reported : (fault : CallFault) (old new : SeatState A) → LeavesSeat fault old new → HasSeen (Err fault) new
  seen_reported call.OutOfMemory old new same = tt
  seen_reported (call.Overtaken front) old new so = so.1
  seen_reported call.HistoryFull old new so = omega (arith, so.1)

  -- the call was not answered
  pub keeps_left : (fault : CallFault) (old new : SeatState A) → LeavesSeat fault old new → KeepsCalls old new
  keeps_left call.OutOfMemory old new same = subst (λ (s : SeatState A). KeepsCalls old s) (sym same) (keeps_same old)
  keeps_left (call.Overtaken front) old new so = keeps-seen old new so.0
  keeps_left call.HistoryFull old new so = keeps-seen old new so.0
