-- Histories that the ends of blocks divide.
use Rattle.std.proofs.Common.{◌≡◌, ℕ, zero, suc, ◌+◌, ◌<◌, ◌≤◌, List, [], ◌∷◌, ◌++◌, None, Some, Option, Ok, Err, is_some, true, false, ◌⊎◌, inl, inr, drop, length, refl, sym, ap, ap₂, subst, ◌∙◌, append_assoc, append-nil, length-append, arith}
use Rattle.std.proofs.lemmas.Bool.{cases_lt}
use Rattle.std.specs.List.{AllByRecursion, AllZip}
use mathlib.Core.List.{IsPrefix}
use Rattle.cap_core.specs.Answer.{event_by}
use Rattle.cap_core.specs.declared.command.Command.{Command}
use Rattle.cap_core.specs.declared.event.Event.{Event}
use Rattle.cap_core.specs.declared.reply.Reply.{Reply}
use Rattle.cap_history.specs.Beginnings.{prefix-append, prefix-either, prefix-length, prefix-of-none, prefix-self, prefix-shorter, prefix-trans, prefix-whole}
use Rattle.cap_history.specs.History.{own}
use Rattle.cap_history.specs.Own.{own-append, own-one}
use Rattle.cap_history.specs.Seat.{HasCalled, SeatState, SeesMore, calls}
use Rattle.cap_run.specs.Run.{Ended}
use Rattle.cap_run.specs.Code.Calls.{AreCut, AreInOrder, CallsBehind, EachAt, EachSawIn, FirstHasMet, GoesOn, HasCalledOwn, HasCut, HasMet, first_seen}
use Rattle.cap_run.specs.Workload.{AreCalls, EndsBlock, HasCount, calls_of, seat_of}
use Rattle.cap_replies.specs.declared.run_line.RunLine.{RunLine}

all-ended : (ended : Ended) (count lines : ℕ) → HasCount ended count lines → lines ≤ count → ended ≡ Ok tt
all-ended (Ok done) count lines has all = refl
all-ended (Err fault) count lines has all = absurd (omega (arith, has, all))

module _ {X : Type 0} where
  -- ---- two lists, one behind the other, that are divided at an element

  -- it is of the first list
  pub split-first : (xs ys before : List X) (x : X) (behind : List X) → xs ++ ys ≡ before ++ x ∷ behind → length before < length xs
      → (middle : List X) × (xs ≡ before ++ x ∷ middle) × (behind ≡ middle ++ ys)
  split-first [] ys before x behind is less = absurd (omega (arith, less))
  split-first (y ∷ xs) ys [] x behind is less =
      let same : y ≡ x = cc is in
      let rest : xs ++ ys ≡ behind = cc is in
      (xs, ap (λ (z : X). z ∷ xs) same, sym rest)
  split-first (y ∷ xs) ys (b ∷ before) x behind is less =
      let same : y ≡ b = cc is in
      let tails : xs ++ ys ≡ before ++ x ∷ behind = cc is in
      let rest = split-first xs ys before x behind tails (omega (arith, less)) in
      (rest.0, ap₂ (λ (z : X) (l : List X). z ∷ l) same rest.1, rest.2)

  -- it is of the second
  pub split-second : (xs ys before : List X) (x : X) (behind : List X) → xs ++ ys ≡ before ++ x ∷ behind → length xs ≤ length before
      → (middle : List X) × (before ≡ xs ++ middle) × (ys ≡ middle ++ x ∷ behind)
  split-second [] ys before x behind is few = (before, refl, is)
  split-second (y ∷ xs) ys [] x behind is few = absurd (omega (arith, few))
  split-second (y ∷ xs) ys (b ∷ before) x behind is few =
      let same : y ≡ b = cc is in
      let tails : xs ++ ys ≡ before ++ x ∷ behind = cc is in
      let rest = split-second xs ys before x behind tails (omega (arith, few)) in
      (rest.0, ap₂ (λ (z : X) (l : List X). z ∷ l) (sym same) rest.1, rest.2)

  -- ---- prefixes

  pub prefix-both : (xs ys : List X) → IsPrefix xs ys → IsPrefix ys xs → xs ≡ ys
  prefix-both xs ys p q = prefix-whole xs ys p (prefix-length ys xs q)

  -- what stands behind the same prefix of two lists
  pub prefix-rest : (xs ys zs : List X) → IsPrefix (xs ++ ys) (xs ++ zs) → IsPrefix ys zs
  prefix-rest [] ys zs p = p
  prefix-rest (x ∷ xs) ys zs p = let tails : (xs ++ ys) ++ p.0 ≡ xs ++ zs = cc (p.1) in prefix-rest xs ys zs (p.0, tails)

  pub same-rest : (xs ys zs : List X) → xs ++ ys ≡ xs ++ zs → ys ≡ zs
  same-rest [] ys zs is = is
  same-rest (x ∷ xs) ys zs is = let tails : xs ++ ys ≡ xs ++ zs = cc is in same-rest xs ys zs tails

  pub none-behind : (xs ys : List X) → IsPrefix (xs ++ ys) xs → ys ≡ []
  none-behind [] [] p = refl
  none-behind [] (y ∷ ys) p = absurd (cc (p.1))
  none-behind (x ∷ xs) ys p = let tails : (xs ++ ys) ++ p.0 ≡ xs = cc (p.1) in none-behind xs ys (p.0, tails)

module _ {A : Type 0} where
  pub own-prefix : (number : ℕ) (xs ys : List (Event A)) → IsPrefix xs ys → IsPrefix (own number xs) (own number ys)
  own-prefix number xs ys so = (own number so.0, sym (own-append number xs so.0) ∙ ap (own number) so.1)

  -- ---- what a seat has called stands behind what it had seen

  pub goes_same : (seat : SeatState A) → GoesOn seat seat
  goes_same seat = record { seen = prefix-self seat.seen; behind = record { number = refl; none_in = inl refl } }

  pub goes_seen : (old new : SeatState A) → SeesMore old new → GoesOn old new
  goes_seen old new so = record {
    seen = so.seen;
    behind = record { number = so.number; none_in = inl (ap₂ (λ (n : ℕ) (h : List (Event A)). own n h) so.number so.answered) };
  }

  -- before a call a seat has seen its own calls, and no more of them
  pub goes_called : (old new : SeatState A) (command : Command A) (reply : Reply A) → HasCalled old new command reply → GoesOn old new
  goes_called old new command reply so =
      let n = old.number in
      let event = event_by n command reply in
      let others = so.seen.0 in
      let begins : IsPrefix old.seen new.seen = (others ++ event ∷ [], sym (so.seen.1 ∙ append_assoc old.seen others (event ∷ []))) in
      let all : own n new.seen ≡ calls old ++ event ∷ [] = ap (λ (m : ℕ). own m new.seen) (sym so.number) ∙ so.calls in
      let parts : own n new.seen ≡ own n old.seen ++ own n (others ++ event ∷ []) = ap (own n) (so.seen.1 ∙ append_assoc old.seen others (event ∷ [])) ∙ own-append n old.seen (others ++ event ∷ []) in
      let last : own n (others ++ event ∷ []) ≡ event ∷ [] =
      own-append n others (event ∷ []) ∙ ap (λ (l : List (Event A)). l ++ own n (event ∷ [])) so.seen.2 ∙ own-one n command reply in
      let shown : IsPrefix (own n old.seen) (calls old ++ event ∷ []) = subst (λ (l : List (Event A)). IsPrefix (own n old.seen) l) all (own-prefix n old.seen new.seen begins) in
      let few : length (own n old.seen) ≤ length (calls old) =
      omega (
        arith,
        ap length (sym parts ∙ all),
        length-append (calls old) (event ∷ []),
        length-append (own n old.seen) (own n (others ++ event ∷ [])),
        ap length last,
      ) in
      let none : IsPrefix (own n old.seen) (calls old) =
      prefix-shorter (own n old.seen) (calls old) (prefix-either (own n old.seen) (calls old) (calls old ++ event ∷ []) shown (prefix-append (calls old) (event ∷ []))) few in
      record { seen = begins; behind = record { number = so.number; none_in = inr none } }

  -- one step after another, where the second is behind more
  none_later : (front more : List (Event A)) (a b c : SeatState A) → IsPrefix front more → b.number ≡ a.number
      → (calls b ≡ calls a) ⊎ IsPrefix (own a.number front) (calls a) → (calls c ≡ calls b) ⊎ IsPrefix (own b.number more) (calls b)
      → (calls c ≡ calls a) ⊎ IsPrefix (own a.number front) (calls a)
  none_later front more a b c longer same (inr none) second = inr none
  none_later front more a b c longer same (inl kept) (inl again) = inl (again ∙ kept)
  none_later front more a b c longer same (inl kept) (inr none) =
      let shown : IsPrefix (own a.number more) (calls a) =
      subst (λ (l : List (Event A)). IsPrefix (own a.number more) l) kept (subst (λ (n : ℕ). IsPrefix (own n more) (calls b)) same none) in
      inr (prefix-trans (own a.number front) (own a.number more) (calls a) (own-prefix a.number front more longer) shown)

  pub behind_later : (front more : List (Event A)) (a b c : SeatState A) → IsPrefix front more → CallsBehind front a b → CallsBehind more b c → CallsBehind front a c
  behind_later front more a b c longer first second =
      record { number = second.number ∙ first.number; none_in = none_later front more a b c longer first.number first.none_in second.none_in }

  pub goes_later : (a b c : SeatState A) → GoesOn a b → GoesOn b c → GoesOn a c
  goes_later a b c first second = record {
    seen = prefix-trans a.seen b.seen c.seen first.seen second.seen;
    behind = behind_later a.seen b.seen a b c first.seen first.behind second.behind;
  }

  pub behind_same : (front : List (Event A)) (seat : SeatState A) → CallsBehind front seat seat
  behind_same front seat = record { number = refl; none_in = inl refl }

  pub each_behind_same : (front : List (Event A)) (seats : List (SeatState A)) → AllZip (CallsBehind front) seats seats
  each_behind_same front [] = tt
  each_behind_same front (seat ∷ seats) = (behind_same front seat, each_behind_same front seats)

  pub each_behind_later : (front more : List (Event A)) (a b c : List (SeatState A)) → IsPrefix front more → AllZip (CallsBehind front) a b → AllZip (CallsBehind more) b c → AllZip (CallsBehind front) a c
  each_behind_later front more [] [] [] longer first second = tt
  each_behind_later front more [] [] (z ∷ c) longer first second = absurd second
  each_behind_later front more [] (y ∷ b) c longer first second = absurd first
  each_behind_later front more (x ∷ a) [] c longer first second = absurd first
  each_behind_later front more (x ∷ a) (y ∷ b) [] longer first second = absurd second
  each_behind_later front more (x ∷ a) (y ∷ b) (z ∷ c) longer first second =
      (behind_later front more x y z longer first.0 second.0, each_behind_later front more a b c longer first.1 second.1)

  -- ---- a history that divides the calls

  -- it does so still after more calls
  cut_later : (front more made : List (Event A)) (a b c : SeatState A) → IsPrefix front more → HasCut front made a b → CallsBehind more b c → HasCut front made a c
  cut_later front more made a b c longer cut next = record {
    number = next.number ∙ cut.number;
    has = cut.has;
    no_more = no-more cut.no_more next.none_in;
  } where
    no-more : (calls b ≡ calls a ++ own a.number made) ⊎ IsPrefix (own a.number front) (calls a ++ own a.number made) → (calls c ≡ calls b) ⊎ IsPrefix (own b.number more) (calls b)
        → (calls c ≡ calls a ++ own a.number made) ⊎ IsPrefix (own a.number front) (calls a ++ own a.number made)
    no-more (inr none) second = inr none
    no-more (inl kept) (inl again) = inl (again ∙ kept)
    no-more (inl kept) (inr none) =
        let shown : IsPrefix (own a.number more) (calls a ++ own a.number made) =
        subst (λ (l : List (Event A)). IsPrefix (own a.number more) l) kept (subst (λ (n : ℕ). IsPrefix (own n more) (calls b)) cut.number none) in
        inr (prefix-trans (own a.number front) (own a.number more) (calls a ++ own a.number made) (own-prefix a.number front more longer) shown)

  pub each_cut_later : (front more made : List (Event A)) (a b c : List (SeatState A)) → IsPrefix front more → AllZip (HasCut front made) a b → AllZip (CallsBehind more) b c → AllZip (HasCut front made) a c
  each_cut_later front more made [] [] [] longer first second = tt
  each_cut_later front more made [] [] (z ∷ c) longer first second = absurd second
  each_cut_later front more made [] (y ∷ b) c longer first second = absurd first
  each_cut_later front more made (x ∷ a) [] c longer first second = absurd first
  each_cut_later front more made (x ∷ a) (y ∷ b) [] longer first second = absurd second
  each_cut_later front more made (x ∷ a) (y ∷ b) (z ∷ c) longer first second =
      (cut_later front more made x y z longer first.0 second.0, each_cut_later front more made a b c longer first.1 second.1)

  -- or after earlier ones
  cut_sooner : (front made more : List (Event A)) (a b c : SeatState A) → HasCalledOwn (Ok tt) made a b → HasCut front more b c → HasCut front (made ++ more) a c
  cut_sooner front made more a b c first cut =
      let together : calls b ++ own b.number more ≡ calls a ++ own a.number (made ++ more) =
      ap₂ (λ (l : List (Event A)) (n : ℕ). l ++ own n more) first.calls_are first.number
      ∙ append_assoc (calls a) (own a.number made) (own a.number more) ∙ ap (λ (l : List (Event A)). calls a ++ l) (sym (own-append a.number made more)) in
      record {
        number = cut.number ∙ first.number;
        has = subst (λ (l : List (Event A)). IsPrefix l (own a.number front)) together (subst (λ (n : ℕ). IsPrefix (calls b ++ own b.number more) (own n front)) first.number cut.has);
        no_more = subst (λ (l : List (Event A)). (calls c ≡ l) ⊎ IsPrefix (own a.number front) l) together
            (subst (λ (n : ℕ). (calls c ≡ calls b ++ own b.number more) ⊎ IsPrefix (own n front) (calls b ++ own b.number more)) first.number cut.no_more);
      }

  pub each_cut_sooner : (front made more : List (Event A)) (a b c : List (SeatState A)) → AllZip (HasCalledOwn (Ok tt) made) a b → AllZip (HasCut front more) b c → AllZip (HasCut front (made ++ more)) a c
  each_cut_sooner front made more [] [] [] first second = tt
  each_cut_sooner front made more [] [] (z ∷ c) first second = absurd second
  each_cut_sooner front made more [] (y ∷ b) c first second = absurd first
  each_cut_sooner front made more (x ∷ a) [] c first second = absurd first
  each_cut_sooner front made more (x ∷ a) (y ∷ b) [] first second = absurd second
  each_cut_sooner front made more (x ∷ a) (y ∷ b) (z ∷ c) first second =
      (cut_sooner front made more x y z first.0 second.0, each_cut_sooner front made more a b c first.1 second.1)

  -- what the first seat has seen after these calls divides them from later ones
  cut_here : (front made : List (Event A)) (a b : SeatState A) → HasCalledOwn (Ok tt) made a b → IsPrefix b.answered b.seen → IsPrefix b.seen front → HasCut front made a b
  cut_here front made a b so kept shown =
      let has : IsPrefix (calls b) (own b.number front) = own-prefix b.number b.answered front (prefix-trans b.answered b.seen front kept shown) in
      record {
        number = so.number;
        has = subst (λ (n : ℕ). IsPrefix (calls a ++ own a.number made) (own n front)) so.number (subst (λ (l : List (Event A)). IsPrefix l (own b.number front)) so.calls_are has);
        no_more = inl so.calls_are;
      }

  pub each_cut_here : (front made : List (Event A)) (a b : List (SeatState A)) → AllZip (HasCalledOwn (Ok tt) made) a b → AllByRecursion (λ seat. IsPrefix seat.answered seat.seen) b → EachSawIn front b
      → AllZip (HasCut front made) a b
  each_cut_here front made [] [] so kept shown = tt
  each_cut_here front made [] (y ∷ b) so kept shown = absurd so
  each_cut_here front made (x ∷ a) [] so kept shown = absurd so
  each_cut_here front made (x ∷ a) (y ∷ b) so kept shown = (cut_here front made x y so.0 kept.0 shown.0, each_cut_here front made a b so.1 kept.1 shown.1)

  -- ---- the calls of lines

  pub calls_of-nothing : (threads : ℕ) (lines : List (RunLine A)) → calls_of threads lines [] ≡ []
  calls_of-nothing threads [] = refl
  calls_of-nothing threads (line ∷ lines) = refl

  -- replies beyond those to the lines say nothing
  pub calls_of-enough : (threads : ℕ) (lines : List (RunLine A)) (replies more : List (Reply A)) → length lines ≤ length replies → calls_of threads lines (replies ++ more) ≡ calls_of threads lines replies
  calls_of-enough threads [] replies more enough = refl
  calls_of-enough threads (line ∷ lines) [] more enough = absurd (omega (arith, enough))
  calls_of-enough threads (line ∷ lines) (reply ∷ replies) more enough =
      ap (λ (made : List (Event A)). event_by (seat_of threads line.line.worker) line.line.command reply ∷ made) (calls_of-enough threads lines replies more (omega (arith, enough)))

  -- the calls of the first lines, and those of the others
  pub calls_of-parts : (threads : ℕ) (lines others : List (RunLine A)) (replies : List (Reply A))
      → calls_of threads (lines ++ others) replies ≡ calls_of threads lines replies ++ calls_of threads others (drop (length lines) replies)
  calls_of-parts threads [] others replies = refl
  calls_of-parts threads (line ∷ lines) others [] = sym (calls_of-nothing threads others)
  calls_of-parts threads (line ∷ lines) others (reply ∷ replies) =
      ap (λ (made : List (Event A)). event_by (seat_of threads line.line.worker) line.line.command reply ∷ made) (calls_of-parts threads lines others replies)

  -- lines behind those that have replies say nothing
  pub calls_of-fewer : (threads : ℕ) (lines others : List (RunLine A)) (replies : List (Reply A)) → length replies ≤ length lines → calls_of threads (lines ++ others) replies ≡ calls_of threads lines replies
  calls_of-fewer threads [] others [] few = calls_of-nothing threads others
  calls_of-fewer threads [] others (reply ∷ replies) few = absurd (omega (arith, few))
  calls_of-fewer threads (line ∷ lines) others [] few = refl
  calls_of-fewer threads (line ∷ lines) others (reply ∷ replies) few =
      ap (λ (made : List (Event A)). event_by (seat_of threads line.line.worker) line.line.command reply ∷ made) (calls_of-fewer threads lines others replies (omega (arith, few)))

  -- ---- ends of blocks

  -- a block ends where lines end
  pub ends_sooner : (line : RunLine A) (behind others : List (RunLine A)) → EndsBlock line (behind ++ others) → EndsBlock line behind
  ends_sooner line [] others ends = tt
  ends_sooner line (next ∷ behind) others ends = ends

  -- these lines are one block: none but the last ends it
  abbrev pub IsOne : List (RunLine A) → Type 0
  IsOne lines = (before : List (RunLine A)) (line : RunLine A) (behind : List (RunLine A)) → lines ≡ before ++ line ∷ behind → EndsBlock line behind → behind ≡ []

  pub one_alone : (line : RunLine A) → IsOne (line ∷ [])
  one_alone line [] last behind is ends = let none : [] ≡ behind = cc is in sym none
  one_alone line (x ∷ before) last behind is ends =
      let long : length (line ∷ []) ≡ length (x ∷ before ++ last ∷ behind) = ap length is in
      absurd (omega (arith, long, length-append before (last ∷ behind)))

  no-none : (line : RunLine A) → is_some line.line.worker ≡ true → ¬ (line.line.worker ≡ None)
  no-none line at none = let no : true ≡ false = sym at ∙ ap is_some none in absurd (cc no)

  pub one_each : (lines : List (RunLine A)) → EachAt lines → IsOne lines
  one_each [] each [] line behind is ends = absurd (cc is)
  one_each [] each (x ∷ before) line behind is ends = absurd (cc is)
  one_each (y ∷ lines) each [] line [] is ends = refl
  one_each (y ∷ []) each [] line (next ∷ behind) is ends = absurd (cc is)
  one_each (y ∷ z ∷ lines) each [] line (next ∷ behind) is ends =
      let first : y ≡ line = cc is in
      let second : z ≡ next = cc is in
      absurd (elim ends [
        | inl none ↦ no-none line (subst (λ (l : RunLine A). is_some l.line.worker ≡ true) first each.0) none
        | inr none ↦ no-none next (subst (λ (l : RunLine A). is_some l.line.worker ≡ true) second each.1.0) none
      ])
  one_each (y ∷ lines) each (x ∷ before) line behind is ends =
      let tails : lines ≡ before ++ line ∷ behind = cc is in
      one_each lines each.1 before line behind tails ends

  -- ---- the order of the calls

  pub order_none : (threads : ℕ) (lines : List (RunLine A)) (seats : List (SeatState A)) → FirstHasMet seats → AreInOrder threads lines [] seats seats
  order_none threads lines seats met = record {
    met = met;
    seen = prefix-self (first_seen seats);
    behind = each_behind_same (first_seen seats) seats;
    blocks = λ before line behind is ends few. absurd (omega (arith, few));
  }

  pub order_longer : (threads : ℕ) (lines others : List (RunLine A)) (replies : List (Reply A)) (a b : List (SeatState A)) → length replies ≤ length lines → AreInOrder threads lines replies a b
      → AreInOrder threads (lines ++ others) replies a b
  order_longer threads lines others replies a b few so = record {
    met = so.met;
    seen = so.seen;
    behind = so.behind;
    blocks = λ before line behind is ends less.
        let part = split-first lines others before line behind is (omega (arith, few, less)) in
        let sooner = ends_sooner line part.0 others (subst (λ (l : List (RunLine A)). EndsBlock line l) part.2 ends) in
        so.blocks before line part.0 part.1 sooner less;
  }

  -- lines are called, and then others
  pub order_more : (threads : ℕ) (lines others : List (RunLine A)) (replies more : List (Reply A)) (a b c : List (SeatState A)) → length replies ≡ length lines
      → AllZip (HasCalledOwn (Ok tt) (calls_of threads lines replies)) a b → AreInOrder threads lines replies a b → AreInOrder threads others more b c
      → AreInOrder threads (lines ++ others) (replies ++ more) a c
  order_more threads lines others replies more a b c count made first second = record {
    met = second.met;
    seen = prefix-trans (first_seen a) (first_seen b) (first_seen c) first.seen second.seen;
    behind = each_behind_later (first_seen a) (first_seen b) a b c first.seen first.behind second.behind;
    blocks = λ before line behind is ends less. elim (cases_lt (length before) (length lines)) [
      | inl within ↦
          let part = split-first lines others before line behind is within in
          let sooner = ends_sooner line part.0 others (subst (λ (l : List (RunLine A)). EndsBlock line l) part.2 ends) in
          let cut = first.blocks before line part.0 part.1 sooner (omega (arith, within, count)) in
          let enough : length (before ++ line ∷ []) ≤ length replies = omega (arith, length-append before (line ∷ []), within, count) in
          let same = calls_of-enough threads (before ++ line ∷ []) replies more enough in
          record {
            front = cut.front;
            seen = prefix-trans cut.front (first_seen b) (first_seen c) cut.seen second.seen;
            seats = subst (λ (l : List (Event A)). AllZip (HasCut cut.front l) a c) (sym same)
                (each_cut_later cut.front (first_seen b) (calls_of threads (before ++ line ∷ []) replies) a b c cut.seen cut.seats second.behind);
          }
      | inr beyond ↦
          let part = split-second lines others before line behind is beyond in
          let longer : length before ≡ length lines + length part.0 = ap length part.1 ∙ length-append lines part.0 in
          let cut = second.blocks part.0 line behind part.2 ends (omega (arith, less, longer, count, length-append replies more)) in
          let parts : before ++ line ∷ [] ≡ lines ++ (part.0 ++ line ∷ []) = ap (λ (l : List (RunLine A)). l ++ line ∷ []) part.1 ∙ append_assoc lines part.0 (line ∷ []) in
          let same : calls_of threads (before ++ line ∷ []) (replies ++ more) ≡ calls_of threads lines replies ++ calls_of threads (part.0 ++ line ∷ []) more =
          ap (λ (l : List (RunLine A)). calls_of threads l (replies ++ more)) parts ∙ calls-append threads lines (part.0 ++ line ∷ []) replies more count in
          record {
            front = cut.front;
            seen = cut.seen;
            seats = subst (λ (l : List (Event A)). AllZip (HasCut cut.front l) a c) (sym same)
                (each_cut_sooner cut.front (calls_of threads lines replies) (calls_of threads (part.0 ++ line ∷ []) more) a b c made cut.seats);
          }
    ];
  } where
    calls-append : (threads : ℕ) (lines others : List (RunLine A)) (replies more : List (Reply A)) → length replies ≡ length lines
        → calls_of threads (lines ++ others) (replies ++ more) ≡ calls_of threads lines replies ++ calls_of threads others more
    calls-append threads [] others [] more same = refl
    calls-append threads [] others (reply ∷ replies) more same = absurd (omega (arith, same))
    calls-append threads (line ∷ lines) others [] more same = absurd (omega (arith, same))
    calls-append threads (line ∷ lines) others (reply ∷ replies) more same =
        ap (λ (made : List (Event A)). event_by (seat_of threads line.line.worker) line.line.command reply ∷ made) (calls-append threads lines others replies more (omega (arith, same)))

  -- one block is called
  pub order_one : (threads : ℕ) (lines : List (RunLine A)) (ended : Ended) (replies : List (Reply A)) (a b : List (SeatState A)) → IsOne lines → HasCount ended (length replies) (length lines)
      → AllZip (HasCalledOwn ended (calls_of threads lines replies)) a b → FirstHasMet b → IsPrefix (first_seen a) (first_seen b) → AllZip (CallsBehind (first_seen a)) a b
      → AreInOrder threads lines replies a b
  order_one threads lines ended replies a b one count made met seen later = record {
    met = met;
    seen = seen;
    behind = later;
    blocks = λ before line behind is ends less.
        let none = one before line behind is ends in
        let whole : lines ≡ before ++ line ∷ [] = is ∙ ap (λ (l : List (RunLine A)). before ++ line ∷ l) none in
        let all : ended ≡ Ok tt = all-ended ended (length replies) (length lines) count (omega (arith, less, ap length whole, length-append before (line ∷ []))) in
        record {
          front = first_seen b;
          seen = prefix-self (first_seen b);
          seats = each_cut_here (first_seen b) (calls_of threads (before ++ line ∷ []) replies) a b
              (subst (λ (e : Ended). AllZip (HasCalledOwn e (calls_of threads (before ++ line ∷ []) replies)) a b) all
              (subst (λ (l : List (RunLine A)). AllZip (HasCalledOwn ended (calls_of threads l replies)) a b) whole made)) met.0 met.1;
        };
  }

  -- ---- a line of the first seat

  pub saw_more : (front more : List (Event A)) (seats : List (SeatState A)) → IsPrefix front more → EachSawIn front seats → EachSawIn more seats
  saw_more front more [] longer so = tt
  saw_more front more (seat ∷ seats) longer so = (prefix-trans seat.seen front more so.0 longer, saw_more front more seats longer so.1)

  pub order_alone : (threads : ℕ) (line : RunLine A) (ended : Ended) (replies : List (Reply A)) (old new : SeatState A) (seats : List (SeatState A)) → HasCount ended (length replies) 1
      → AllZip (HasCalledOwn ended (calls_of threads (line ∷ []) replies)) (old ∷ seats) (new ∷ seats) → GoesOn old new → FirstHasMet (old ∷ seats)
      → AreInOrder threads (line ∷ []) replies (old ∷ seats) (new ∷ seats)
  order_alone threads line ended replies old new seats count made goes met =
      order_one threads (line ∷ []) ended replies (old ∷ seats) (new ∷ seats) (one_alone line) count made
      ((made.0.seen met.0.0, met.0.1), (prefix-self new.seen, saw_more old.seen new.seen seats goes.seen met.1.1)) goes.seen
      (goes.behind, each_behind_same old.seen seats)

  -- ---- a block, before which the seats meet the first one, and after which the first one meets them

  -- a seat that has met the first, called lines, and was met
  pub met_called : (front more : List (Event A)) (ended : Ended) (made : List (Event A)) (a s w c : SeatState A) → HasMet front a s → HasCalledOwn ended made s w → HasMet more w c → HasCalledOwn ended made a c
  met_called front more ended made a s w c before so after =
      let sooner : calls s ≡ calls a = ap₂ (λ (n : ℕ) (h : List (Event A)). own n h) before.number before.answered in
      let later : calls c ≡ calls w = ap₂ (λ (n : ℕ) (h : List (Event A)). own n h) after.number after.answered in
      record {
        number = after.number ∙ so.number ∙ before.number;
        calls_are = subst (λ (l : List (Event A)). AreCalls ended (calls a ++ own a.number made) l) (sym later)
            (subst (λ (l : List (Event A)). AreCalls ended (l ++ own a.number made) (calls w)) sooner (subst (λ (n : ℕ). AreCalls ended (calls s ++ own n made) (calls w)) before.number so.calls_are));
        seen = λ kept.
            let met : IsPrefix s.answered s.seen = subst (λ (h : List (Event A)). IsPrefix h s.seen) (sym before.answered) (prefix-trans a.answered a.seen s.seen kept before.seen) in
            subst (λ (h : List (Event A)). IsPrefix h c.seen) (sym after.answered) (prefix-trans w.answered w.seen c.seen (so.seen met) after.seen);
      }

  pub each_met_called : (front more : List (Event A)) (ended : Ended) (made : List (Event A)) (a s w c : List (SeatState A)) → AllZip (HasMet front) a s → AllZip (HasCalledOwn ended made) s w → AllZip (HasMet more) w c
      → AllZip (HasCalledOwn ended made) a c
  each_met_called front more ended made [] [] [] [] before so after = tt
  each_met_called front more ended made [] [] [] (z ∷ c) before so after = absurd after
  each_met_called front more ended made [] [] (y ∷ w) c before so after = absurd so
  each_met_called front more ended made [] (x ∷ s) w c before so after = absurd before
  each_met_called front more ended made (x ∷ a) [] w c before so after = absurd before
  each_met_called front more ended made (x ∷ a) (y ∷ s) [] c before so after = absurd so
  each_met_called front more ended made (x ∷ a) (y ∷ s) (z ∷ w) [] before so after = absurd after
  each_met_called front more ended made (x ∷ a) (y ∷ s) (z ∷ w) (t ∷ c) before so after =
      (met_called front more ended made x y z t before.0 so.0 after.0, each_met_called front more ended made a s w c before.1 so.1 after.1)

  met_behind : (front more : List (Event A)) (a s w c : SeatState A) → HasMet front a s → GoesOn s w → HasMet more w c → CallsBehind front a c
  met_behind front more a s w c before goes after =
      let met : CallsBehind front a s = record { number = before.number; none_in = inl (ap₂ (λ (n : ℕ) (h : List (Event A)). own n h) before.number before.answered) } in
      let left : CallsBehind s.seen w c = record { number = after.number; none_in = inl (ap₂ (λ (n : ℕ) (h : List (Event A)). own n h) after.number after.answered) } in
      behind_later front s.seen a s c before.meets met (behind_later s.seen s.seen s w c (prefix-self s.seen) goes.behind left)

  pub each_met_behind : (front more : List (Event A)) (a s w c : List (SeatState A)) → AllZip (HasMet front) a s → AllZip GoesOn s w → AllZip (HasMet more) w c → AllZip (CallsBehind front) a c
  each_met_behind front more [] [] [] [] before goes after = tt
  each_met_behind front more [] [] [] (z ∷ c) before goes after = absurd after
  each_met_behind front more [] [] (y ∷ w) c before goes after = absurd goes
  each_met_behind front more [] (x ∷ s) w c before goes after = absurd before
  each_met_behind front more (x ∷ a) [] w c before goes after = absurd before
  each_met_behind front more (x ∷ a) (y ∷ s) [] c before goes after = absurd goes
  each_met_behind front more (x ∷ a) (y ∷ s) (z ∷ w) [] before goes after = absurd after
  each_met_behind front more (x ∷ a) (y ∷ s) (z ∷ w) (t ∷ c) before goes after =
      (met_behind front more x y z t before.0 goes.0 after.0, each_met_behind front more a s w c before.1 goes.1 after.1)

  -- the first seat has seen more
  met_seen : (front more : List (Event A)) (a s w c : List (SeatState A)) → AllZip (HasMet front) a s → AllZip GoesOn s w → AllZip (HasMet more) w c → IsPrefix (first_seen a) (first_seen c)
  met_seen front more [] s w c before goes after = prefix-of-none (first_seen c)
  met_seen front more (x ∷ a) [] w c before goes after = absurd before
  met_seen front more (x ∷ a) (y ∷ s) [] c before goes after = absurd goes
  met_seen front more (x ∷ a) (y ∷ s) (z ∷ w) [] before goes after = absurd after
  met_seen front more (x ∷ a) (y ∷ s) (z ∷ w) (t ∷ c) before goes after =
      prefix-trans x.seen y.seen t.seen before.0.seen (prefix-trans y.seen z.seen t.seen goes.0.seen after.0.seen)

  kept_calls : (ended : Ended) (made : List (Event A)) (a b : List (SeatState A)) → AllZip (HasCalledOwn ended made) a b → AllByRecursion (λ seat. IsPrefix seat.answered seat.seen) a
      → AllByRecursion (λ seat. IsPrefix seat.answered seat.seen) b
  kept_calls ended made [] [] so kept = tt
  kept_calls ended made [] (y ∷ b) so kept = absurd so
  kept_calls ended made (x ∷ a) [] so kept = absurd so
  kept_calls ended made (x ∷ a) (y ∷ b) so kept = (so.0.seen kept.0, kept_calls ended made a b so.1 kept.1)

  pub order_block : (threads : ℕ) (lines : List (RunLine A)) (ended : Ended) (replies : List (Reply A)) (a s w c : List (SeatState A)) → EachAt lines → HasCount ended (length replies) (length lines)
      → AllZip (HasCalledOwn ended (calls_of threads lines replies)) s w → AllZip (HasMet (first_seen a)) a s → AllZip GoesOn s w → AllZip (HasMet []) w c → EachSawIn (first_seen c) c → FirstHasMet a
      → AreInOrder threads lines replies a c
  order_block threads lines ended replies a s w c each count made before goes after shown met =
      let all = each_met_called (first_seen a) [] ended (calls_of threads lines replies) a s w c before made after in
      order_one threads lines ended replies a c (one_each lines each) count all (kept_calls ended (calls_of threads lines replies) a c all met.0, shown)
      (met_seen (first_seen a) [] a s w c before goes after) (each_met_behind (first_seen a) [] a s w c before goes after)
