-- A line as it is read and as it is spelled.
use Rattle.std.proofs.Common.{◌≡◌, ℕ, ◌||◌, Bool, true, false, eqb, leb, List, [], ◌∷◌, ◌++◌, length, Option, None, is_some, Result, Ok, Err, refl, sym, ap, ◌∙◌, subst, append_assoc, append-nil, inl, inr}
use Rattle.std.specs.Prelude.{IsTrue, IfErr, IfOk}
use Rattle.std.specs.Result.{result_err}
use Rattle.std.proofs.lemmas.Bool.{eqb-true}
use Rattle.cap_value.specs.declared.refusal.Refusal.{Refusal}
use Rattle.cap_value.specs.declared.refusal.Refusal.TheVariants.{BadFilter}
use Rattle.cap_filter.specs.Faults.{IsUnfitAt, StopsAt}
use Rattle.cap_filter.specs.Grammar.{Spelled as SpelledFilter, Spells as SpellsFilter}
use Rattle.cap_filter.specs.Limits.{is_within_limits}
use Rattle.cap_filter.specs.Reading.{filter_of}
use Rattle.cap_filter.specs.Rule.{Rule}
use Rattle.cap_filter.specs.Tokens.{Tokens, tokens_of}
use Rattle.cap_language.specs.Forms.{worker, worker_behind}
use Rattle.cap_language.specs.Grammar.{Read, Spells, read, read_at}
use Rattle.cap_language.specs.Scanning.{token_at}
use Rattle.cap_language.specs.Tokens.{begins, behind_blanks}
use Rattle.cap_language.specs.declared.fault.LineFault.{LineFault}
use Rattle.cap_language.specs.declared.fault.LineFault.TheVariants.{BadBlob, Limit, OutOfMemory, Syntax}
use Rattle.cap_language.proofs.GrammarLaws.{LeavesSpelled, is_read, left_spelled, one_value, spelled, within_free}
use Rattle.cap_script.specs.Language.{Ended, Filtered, Opening, command, ending, opening}
use Rattle.cap_script.specs.LineFaults.{FaultIs, MakesUnlessMemory, closed, filter_fault, filter_read, line_fault, line_of_text, with_filter}
use Rattle.cap_script.specs.RefusedLines.{Leaves, NoLine}
use Rattle.cap_script.specs.Script.{Closes, LineSpelled, filter_line, is_ignored}
use Rattle.cap_script.specs.declared.command.Filtering.{Filtering}
use Rattle.cap_script.specs.declared.command.Spelled.{Spelled}
use Rattle.cap_script.specs.declared.command.Spelled.TheVariants.{Filter, Whole}
use Rattle.cap_script.specs.declared.line.Line.{Line}
use Rattle.cap_script.proofs.CutLemmas.{nothing_left}
use Rattle.cap_script.proofs.FilterSize.{read_within}

-- ---- texts that spell no filter

stopped : (tokens front rest : Tokens) (left : ℕ) → tokens ≡ front ++ rest → StopsAt front rest left → (filter : Rule) → SpelledFilter filter tokens [] → ⊥
stopped tokens front [] left are (z, none) filter spelled = none filter (subst (λ (ts : Tokens). SpelledFilter filter ts []) (are ∙ append-nil front) spelled)
stopped tokens front ((behind, t) ∷ rest) left are (z, none) filter spelled =
    none (rest, filter, subst (λ (ts : Tokens). SpelledFilter filter ts []) (are ∙ sym (append_assoc front ((behind, t) ∷ []) rest)) spelled)

-- a token that does not fit
pub unfit_none : (start : List ℕ) (at : ℕ) → IsUnfitAt start at → (filter : Rule) → SpellsFilter start filter → ⊥
unfolding IsUnfitAt SpellsFilter
unfit_none start at unfit filter spelled = stopped (tokens_of start) unfit.2 unfit.3 unfit.0 unfit.4 unfit.6 filter spelled

-- ---- outcomes

abbrev ok_of : {X : Type 0} → X → Result X LineFault → X
ok_of other (Ok x) = x
ok_of other (Err fault) = other

abbrev err_of : {X : Type 0} → LineFault → Result X LineFault → LineFault
err_of other (Ok x) = other
err_of other (Err fault) = fault

abbrev made : {X : Type 0} → X → Result X LineFault
made x = Ok x

abbrev failed : {X : Type 0} → LineFault → Result X LineFault
failed fault = Err fault

same_made : {X : Type 0} (x y : X) → made x ≡ made y → x ≡ y
same_made x y e = ap (ok_of x) e

same_fault : {X : Type 0} (f g : LineFault) → failed {X = X} f ≡ failed g → f ≡ g
same_fault f g e = ap (err_of f) e

-- the fault of a text that spells a filter all the same is at a limit
filter_left : (rest : List ℕ) (why : Refusal) (P : Type 0) → ((at : ℕ) → why ≡ BadFilter at → ⊥) → (P → ⊥) → Leaves (filter_fault rest why) P
filter_left rest (BadFilter at) P none over = none at refl
filter_left rest why P none over = over

leaves_spelled : (fault : LineFault) (P Q : Type 0) → (Q → P) → LeavesSpelled fault P → Leaves fault Q
leaves_spelled OutOfMemory P Q on left = tt
leaves_spelled (Limit why) P Q on left = λ q. left (on q)
leaves_spelled (Syntax behind) P Q on left = left
leaves_spelled (BadBlob why) P Q on left = left

-- laws of filter texts
abbrev pub OneFilter : Type 0
OneFilter = (text : List ℕ) (r s : Rule) → SpellsFilter text r → SpellsFilter text s → r ≡ s

abbrev pub FilterIsRead : Type 0
FilterIsRead = (text : List ℕ) (r : Rule) → SpellsFilter text r → IsTrue (is_within_limits r) → filter_of text ≡ Ok r

abbrev pub FilterIsSpelled : Type 0
FilterIsSpelled = (text : List ℕ) (r : Rule) → filter_of text ≡ Ok r → SpellsFilter text r

abbrev pub FilterIsUnfit : Type 0
FilterIsUnfit = (text : List ℕ) (at : ℕ) → filter_of text ≡ Err (BadFilter at) → IsUnfitAt text at

-- ---- the worker

some_worker : (limits b : Bool) (n : ℕ) (w : Option ℕ) (here between : List ℕ) → Spells limits (worker_behind b n) w here between → is_some w ≡ true
some_worker limits true n w here between (inl (inner, sign, is)) = ap is_some is.0
some_worker limits true n w here between (inr (none, is)) = absurd is
some_worker limits false n w here between is = absurd is

begun_worker : (limits : Bool) (w : Option ℕ) (text between : List ℕ) → Spells limits worker w text between → begins (λ byte. eqb byte 64) (behind_blanks text) ≡ is_some w
unfolding worker
begun_worker limits w text between (inl (inner, sign, is)) =
    ap (begins (λ byte. eqb byte 64)) sign ∙ sym (some_worker limits (leb is.1 63) is.1 w is.2 between is.5)
begun_worker limits w text between (inr (none, is)) = none ∙ sym (ap is_some is.0)

module _ {A : Type 0} where
  -- ---- what is read is spelled within the limits

  filter_closed : FilterIsSpelled → (w : Option ℕ) (what : Filtering A) (rest : List ℕ) (line : Line A) (read : Result Rule Refusal) → filter_of rest ≡ read → with_filter A w what (filter_read rest read) ≡ Ok line → Closes true line (Filtered w what) rest
  filter_closed law w what rest line (Ok filter) is e = (filter, law rest filter is, λ limits. read_within rest filter is, sym (same_made (filter_line w what filter) line e))
  filter_closed law w what rest line (Err why) is e = absurd cc

  read_closed : FilterIsSpelled → (text : List ℕ) (line : Line A) (r : Read (Opening A)) → read opening text ≡ r → closed A r ≡ Ok line → LineSpelled true line text
  unfolding LineSpelled
  read_closed law text line (Ok (Ended whole, rest)) is e = (Ended whole, rest, spelled true opening text text (Ended whole) rest is, sym (same_made whole line e))
  read_closed law text line (Ok (Filtered w what, rest)) is e =
      (Filtered w what, rest, spelled true opening text text (Filtered w what) rest is, filter_closed law w what rest line (filter_of rest) refl e)
  read_closed law text line (Err fault) is e = absurd cc

  pub line_is_spelled : FilterIsSpelled → (text : List ℕ) (line : Line A) → line_of_text A text ≡ Ok line → LineSpelled true line text
  unfolding line_of_text
  line_is_spelled law text line e = read_closed law text line (read opening text) refl e

  -- ---- what is spelled within the limits is read

  closed_read : FilterIsRead → (line : Line A) (opened : Opening A) (rest : List ℕ) → Closes true line opened rest → closed A (Ok (opened, rest)) ≡ Ok line
  closed_read law line (Ended whole) rest closes = ap made (sym closes)
  closed_read law line (Filtered w what) rest (filter, spells, within, is) =
      ap (λ (r : Result Rule Refusal). with_filter A w what (filter_read rest r)) (law rest filter spells (within refl)) ∙ ap made (sym is)

  pub line_is_read : FilterIsRead → (text : List ℕ) (line : Line A) → LineSpelled true line text → line_of_text A text ≡ Ok line
  unfolding LineSpelled line_of_text
  line_is_read law text line (opened, rest, spells, closes) =
      ap (closed A) (is_read true opening text text opened rest spells) ∙ closed_read law line opened rest closes

  -- ---- the limits only take lines away

  closes_free : (line : Line A) (opened : Opening A) (rest : List ℕ) → Closes true line opened rest → Closes false line opened rest
  closes_free line (Ended whole) rest closes = closes
  closes_free line (Filtered w what) rest (filter, spells, within, is) = (filter, spells, λ limits. absurd cc, is)

  pub line_free : (line : Line A) (text : List ℕ) → LineSpelled true line text → LineSpelled false line text
  unfolding LineSpelled
  line_free line text (opened, rest, spells, closes) = (opened, rest, within_free opening opened text rest spells, closes_free line opened rest closes)

  pub line_by : (limits : Bool) (line : Line A) (text : List ℕ) → LineSpelled limits line text → LineSpelled false line text
  line_by true line text spelled = line_free line text spelled
  line_by false line text spelled = spelled

  pub line_both : (limits : Bool) (line : Line A) (text : List ℕ) → LineSpelled false line text → LineSpelled true line text → LineSpelled limits line text
  line_both true line text free within = within
  line_both false line text free within = free

  -- ---- a line spells one command

  one_closed : OneFilter → (a b : Line A) (opened : Opening A) (rest : List ℕ) → Closes false a opened rest → Closes false b opened rest → a ≡ b
  one_closed law a b (Ended whole) rest p q = p ∙ sym q
  one_closed law a b (Filtered w what) rest (f, f_spells, f_within, f_is) (g, g_spells, g_within, g_is) =
      f_is ∙ ap (filter_line w what) (law rest f g f_spells g_spells) ∙ sym g_is

  pub one_line : OneFilter → (a b : Line A) (text : List ℕ) → LineSpelled false a text → LineSpelled false b text → a ≡ b
  unfolding LineSpelled
  one_line law a b text (opened, rest, spells, closes) (others, behind, spells_too, closes_too) =
      let same = one_value false opening text opened others rest behind spells spells_too in
      one_closed law a b opened rest closes (rw (same.0, same.1) closes_too)

  -- ---- what a fault says

  over_limits : FilterIsRead → (text : List ℕ) (line : Line A) (fault : LineFault) → line_of_text A text ≡ Err fault → LineSpelled true line text → ⊥
  over_limits law text line fault is within = let bad = sym is ∙ line_is_read law text line within in absurd cc

  filter_refused : FilterIsRead → FilterIsUnfit → (text rest : List ℕ) (line : Line A) (w : Option ℕ) (what : Filtering A) (fault : LineFault) (view : Result Rule Refusal) → filter_of rest ≡ view → with_filter A w what (filter_read rest view) ≡ Err fault
      → line_of_text A text ≡ Err fault → (filter : Rule) → SpellsFilter rest filter → Leaves fault (LineSpelled true line text)
  filter_refused law unfit text rest line w what fault (Ok filter) view_is e is given spells = absurd cc
  filter_refused law unfit text rest line w what fault (Err why) view_is e is given spells =
      subst (λ (f : LineFault). Leaves f (LineSpelled true line text)) (same_fault {X = Line A} (filter_fault rest why) fault e)
      (filter_left rest why (LineSpelled true line text) (λ at why_is. unfit_none rest at (unfit rest at (view_is ∙ ap (λ (r : Refusal). Err r) why_is)) given spells) (over_limits law text line fault is))

  closed_left : FilterIsRead → FilterIsUnfit → (text : List ℕ) (line : Line A) (fault : LineFault) (r : Read (Opening A)) → read opening text ≡ r → closed A r ≡ Err fault → line_of_text A text ≡ Err fault → LineSpelled false line text
      → Leaves fault (LineSpelled true line text)
  unfolding LineSpelled
  closed_left law unfit text line fault (Ok (Ended whole, rest)) read_is e is spells = absurd cc
  closed_left law unfit text line fault (Ok (Filtered w what, rest)) read_is e is (opened, behind, spells, closes) =
      let same = one_value false opening text (Filtered w what) opened rest behind (within_free opening (Filtered w what) text rest (spelled true opening text text (Filtered w what) rest read_is)) spells in
      let closes_too : Closes false line (Filtered w what) rest = subst (λ (o : Opening A). Closes false line o rest) (sym same.0) (subst (λ (r : List ℕ). Closes false line opened r) (sym same.1) closes) in
      filter_refused law unfit text rest line w what fault (filter_of rest) refl e is closes_too.0 closes_too.1
  closed_left law unfit text line fault (Err stop) read_is e is (opened, behind, spells, closes) =
      let fault_is = same_fault {X = Line A} stop fault e in
      leaves_spelled fault (Spells true opening opened text behind) (LineSpelled true line text)
      (λ within. absurd (over_limits law text line fault is within))
      (left_spelled fault opening opened text behind (read_is ∙ ap (λ (f : LineFault). Err f) fault_is) spells)

  pub line_left : FilterIsRead → FilterIsUnfit → (text : List ℕ) (fault : LineFault) → line_of_text A text ≡ Err fault → NoLine A fault text
  unfolding line_of_text
  line_left law unfit text fault is line spells = closed_left law unfit text line fault (read opening text) refl is is spells

  -- ---- a line that is ignored spells nothing

  only_blanks : (limits : Bool) (text : List ℕ) → behind_blanks text ≡ [] → read_at limits (opening {A = A}) text text ≡ Err (Syntax 0)
  unfolding opening worker command token_at
  only_blanks limits text none = rw none refl

  a_comment : (limits : Bool) (rest : List ℕ) → read_at limits (opening {A = A}) (35 ∷ rest) (35 ∷ rest) ≡ Err (Syntax (length (35 ∷ rest)))
  unfolding opening worker command token_at
  a_comment limits rest = refl

  read_nothing : (limits : Bool) (text : List ℕ) (a b : Bool) → begins (λ byte. eqb byte 35) text ≡ a → eqb (length (behind_blanks text)) 0 ≡ b → (a || b) ≡ true → (left : ℕ) × (read_at limits (opening {A = A}) text text ≡ Err (Syntax left))
  read_nothing limits [] true b first blank e = absurd cc
  read_nothing limits (byte ∷ rest) true b first blank e =
      (length (35 ∷ rest), ap (λ (n : ℕ). read_at limits (opening {A = A}) (n ∷ rest) (n ∷ rest)) (eqb-true byte 35 first) ∙ a_comment limits rest)
  read_nothing limits text false true first blank e = (0, only_blanks limits text (nothing_left (behind_blanks text) blank))
  read_nothing limits text false false first blank e = absurd cc

  pub ignored_line : (limits : Bool) (line : Line A) (text : List ℕ) → is_ignored text ≡ true → LineSpelled limits line text → ⊥
  unfolding LineSpelled
  ignored_line limits line text e (opened, rest, spells, closes) =
      let nothing = read_nothing limits text (begins (λ byte. eqb byte 35) text) (eqb (length (behind_blanks text)) 0) refl refl e in
      let bad = sym (is_read limits opening text text opened rest spells) ∙ nothing.1 in absurd cc

  -- ---- the worker of a line

  closed_worker : (limits : Bool) (w : Option ℕ) (said : Spelled A) (line : Line A) (opened : Opening A) (between rest : List ℕ) → Spells limits (ending w said) opened between rest → Closes limits line opened rest → line.worker ≡ w
  closed_worker limits w (Whole command show) line opened between rest (x, behind, end, is) closes =
      let closes_too : line ≡ record { worker = w; command = command; show = show } = rw is.0 at closes in
      ap (λ (l : Line A). l.worker) closes_too
  closed_worker limits w (Filter what) line opened between rest is closes =
      let closes_too : Closes limits line (Filtered w what) rest = rw is.0 at closes in
      ap (λ (l : Line A). l.worker) closes_too.3

  pub line_worker : (limits : Bool) (line : Line A) (text : List ℕ) → LineSpelled limits line text → begins (λ byte. eqb byte 64) (behind_blanks text) ≡ is_some line.worker
  unfolding LineSpelled opening
  line_worker limits line text (opened, rest, (w, between, first, (said, behind, second, third)), closes) =
      begun_worker limits w text between first ∙ ap is_some (sym (closed_worker limits w said line opened behind rest third closes))

-- ---- the fault of a call

fault_so : {X : Type 0} (fault : LineFault) (made : Result X LineFault) → MakesUnlessMemory (Err fault) made → FaultIs {X = X} (Err fault) (result_err made)
fault_so OutOfMemory made is = tt
fault_so (Syntax left) made is = ap result_err is
fault_so (Limit why) made is = ap result_err is
fault_so (BadBlob why) made is = ap result_err is

pub fault_is : {A : Type 0} (r : Result (Line A) LineFault) (text : List ℕ) → MakesUnlessMemory r (line_of_text A text) → FaultIs r (line_fault A text)
unfolding line_fault
fault_is {A} (Ok line) text is = ap result_err is
fault_is {A} (Err fault) text is = fault_so fault (line_of_text A text) is

memory_or : {A : Type 0} (fault : LineFault) (text : List ℕ) → MakesUnlessMemory (Err fault) (line_of_text A text) → (line_of_text A text ≡ Err fault → NoLine A fault text) → NoLine A fault text
memory_or OutOfMemory text is then = λ line spells. tt
memory_or (Syntax left) text is then = then is
memory_or (Limit why) text is then = then is
memory_or (BadBlob why) text is then = then is

pub none_is : {A : Type 0} → FilterIsRead → FilterIsUnfit → (r : Result (Line A) LineFault) (text : List ℕ) → MakesUnlessMemory r (line_of_text A text) → IfErr r (λ fault. NoLine A fault text)
none_is law unfit (Ok line) text is = tt
none_is law unfit (Err fault) text is = memory_or fault text is (line_left law unfit text fault)

pub within_is : {A : Type 0} → FilterIsSpelled → (r : Result (Line A) LineFault) (text : List ℕ) → MakesUnlessMemory r (line_of_text A text) → IfOk r (λ line. LineSpelled true line text)
within_is law (Ok line) text is = line_is_spelled law text line is
within_is law (Err fault) text is = tt

pub spelled_is : {A : Type 0} → FilterIsSpelled → (r : Result (Line A) LineFault) (text : List ℕ) → MakesUnlessMemory r (line_of_text A text) → IfOk r (λ line. LineSpelled false line text)
spelled_is law (Ok line) text is = line_free line text (line_is_spelled law text line is)
spelled_is law (Err fault) text is = tt

-- ---- lines with and without a fault

none_of : {A : Type 0} → FilterIsSpelled → (text : List ℕ) (made : Result (Line A) LineFault) → line_of_text A text ≡ made → result_err made ≡ None → (line : Line A) × LineSpelled false line text × LineSpelled true line text
none_of law text (Ok line) is none = let within = line_is_spelled law text line is in (line, line_free line text within, within)
none_of law text (Err fault) is none = absurd cc

pub no_fault_spelled : {A : Type 0} → FilterIsSpelled → (text : List ℕ) → line_fault A text ≡ None → (line : Line A) × LineSpelled false line text × LineSpelled true line text
unfolding line_fault
no_fault_spelled {A} law text none = none_of law text (line_of_text A text) refl none

pub spelled_no_fault : {A : Type 0} → FilterIsRead → (text : List ℕ) (line : Line A) → LineSpelled true line text → line_fault A text ≡ None
unfolding line_fault
spelled_no_fault law text line within = ap result_err (line_is_read law text line within)
