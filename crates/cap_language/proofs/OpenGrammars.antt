-- Grammars with an example of each of their parts, and how such are made of each other.
use Rattle.std.proofs.Common.{◌≡◌, inl, inr, ℕ, zero, suc, ◌+◌, ◌<◌, ◌≤◌, Bool, true, false, eqb, List, [], ◌∷◌, ◌++◌, length, length-append, Option, Some, None, Result, Ok, Err, refl, sym, ap, ◌∙◌, subst, arith, append_assoc}
use Rattle.std.specs.Char.{is_ascii_digit}
use Rattle.std.proofs.lemmas.List.{append_cancel_right}
use Rattle.cap_value.specs.declared.refusal.Refusal.{Refusal}
use Rattle.cap_value.specs.declared.refusal.Refusal.TheVariants.{TooMany}
use Rattle.hex.specs.Hex.{decode_of, decode_pairs}
use Rattle.cap_value.specs.Bytes.{bytes_eq}
use Rattle.cap_filter.specs.Printed.{quote}
use Rattle.cap_filter.specs.Tokens.{is_word, is_word_byte}
use Rattle.cap_field.specs.declared.fault.BlobFault.{BlobFault}
use Rattle.cap_language.specs.Forms.{Words, behind, either, one_of, separated, sign, skip, within}
use Rattle.cap_language.specs.Grammar.{Grammar, Read, Wanted, and_then, at_most, by_end, by_sign, done, each, exceeds, follows, misfit, no_blob, on_end, on_sign, read, read_at, spaced, taken, takes, token_then, unfit, wanted_in, with_item}
use Rattle.cap_language.specs.Scanning.{Scanned, token_at}
use Rattle.cap_language.specs.Tokens.{Blob, Integer, Token, Word, begins, behind_blanks, is_blank, is_letter}
use Rattle.cap_language.specs.declared.fault.LineFault.{LineFault}
use Rattle.cap_language.specs.declared.fault.LineFault.TheVariants.{BadBlob, Limit}
use Rattle.cap_language.proofs.GrammarLaws.{leaves_end}
use Rattle.cap_language.proofs.PlaceLaws.{Local, by_test, enough_at, local, local_at_most, local_both, local_done, made, same_rest, same_value}
use Rattle.cap_language.proofs.TokenLaws.{begins_scanned, blanks_shorter, blanks_twice, found_some}
use Rattle.cap_language.proofs.OpenLaws.{end_here, end_tail, end_text, Behind, Ended, Finish, Here, Nothing, Nothings, Open, OpenKind, Sample, Skips, Tail, Tails, finish_of, goes_with, nothing_tail, nothing_tails, open_both, open_done, open_map, open_next, open_sign, open_skip, open_where, reached, reached_at, same_tail, sample_both, sample_map, sample_sign, tail_byte, tail_sign, weaker, weaker_sample}

-- ---- grammars with all of that

pub record Form {X : Type 0} (g : Grammar X) : Type 0 where
  pub inner : Open Tails (read g)
  pub skips : Skips (read g)
  pub sample : Sample Tails (read g)

pub form_both : {X Y : Type 0} (first : Grammar X) (go : X → Grammar Y) → Form first → ((x : X) → Form (go x)) → Form (follows first go)
form_both first go one two = record {
  inner = open_both Tails (read first) (λ x. read (go x)) (local first) (λ x. local (go x)) one.inner (λ x. let second = two x in second.inner) (λ x. let second = two x in second.skips) (λ x. let second = two x in second.sample) same_tail;
  skips = λ line. ap (λ r. and_then r (λ x. read (go x))) (one.skips line);
  sample = sample_both Tails (read first) (λ x. read (go x)) (local first) (λ x. local (go x)) one.inner (λ x. let second = two x in second.inner) (λ x. let second = two x in second.skips) (λ x. let second = two x in second.sample) one.sample;
}

pub form_map : {X Y : Type 0} (first : Grammar X) (f : X → Y) → Form first → Form (follows first (λ x. done (f x)))
form_map first f one = record {
  inner = open_map Tails (read first) f one.inner;
  skips = λ line. ap (λ r. and_then r (λ x rest. Ok (f x, rest))) (one.skips line);
  sample = sample_map Tails (read first) f one.inner one.sample;
}

pub form_next : {W X : Type 0} (wanted : Wanted W) (go : W → Grammar X) → ((t : W) → OpenKind Tails (go t)) → Sample Tails (read (spaced (takes wanted go))) → Form (spaced (takes wanted go))
form_next wanted go known sample = record {
  inner = open_next Tails same_tail wanted go known (finish_of Tails (read (spaced (takes wanted go))) sample);
  skips = λ line. ap (λ (here : List ℕ). token_then here (wanted_in wanted (token_at here)) (λ t rest. read_at true (go t) here rest)) (sym (blanks_twice line));
  sample = sample;
}

pub form_sign : (s : ℕ) → is_blank s ≡ false → goes_with s ≡ false → Form (sign s)
form_sign s plain other = record {
  inner = open_sign {X = Unit {0}} tt s plain other (local (on_sign {X = Unit {0}} s skip unfit));
  skips = λ line. ap (by_sign {Y = Unit {0}} s (λ rest. made tt rest) (λ here. Err (misfit here))) (sym (blanks_twice line));
  sample = sample_sign {X = Unit {0}} tt s plain other;
}

-- ---- items behind a sign

module _ {X : Type 0} (s : ℕ) (goes : (byte : ℕ) → goes_with byte ≡ false → eqb byte s ≡ false) (item : ℕ → Grammar X) (inner : (i : ℕ) → Open Tails (read (item i))) where
  abbrev items : ℕ → List ℕ → Read X
  items i rest = read (item i) rest

  abbrev one_more : ℕ → ℕ → List ℕ → Read (List X)
  one_more n i rest = and_then (items i rest) (λ x behind. and_then (at_most n s (suc i) items behind) (with_item x))

  at_n : (n i : ℕ) → Local (at_most n s i items)
  at_n n i = local_at_most n s i items (λ i. local (item i))

  skips_n : (n i : ℕ) → Skips (at_most n s i items)
  skips_n zero i line = ap (λ (here : List ℕ). made [] here) (sym (blanks_twice line))
  skips_n (suc n) i line = ap (by_sign s (one_more n i) (λ here. Ok ([], here))) (sym (blanks_twice line))

  -- what was read with some items is read with more
  no_sign_more : (m i : ℕ) (line : List ℕ) → begins (λ byte. eqb byte s) (behind_blanks line) ≡ false → at_most m s i items line ≡ Ok ([], behind_blanks line)
  no_sign_more zero i line none = refl
  no_sign_more (suc m) i line none = by (behind_blanks line) none
    where
      by : (here : List ℕ) → begins (λ byte. eqb byte s) here ≡ false → by_sign s (one_more m i) (λ here. Ok ([], here)) here ≡ Ok ([], here)
      by [] e = refl
      by (byte ∷ here) e = rw e refl

  sign_behind : (line : List ℕ) → Tail line → begins (λ byte. eqb byte s) (behind_blanks line) ≡ false
  sign_behind line tail = by (behind_blanks line) (tail_sign line tail)
    where
      by : (here : List ℕ) → begins goes_with here ≡ false → begins (λ byte. eqb byte s) here ≡ false
      by [] e = refl
      by (byte ∷ here) e = goes byte e

  sample_n : (n i : ℕ) → Sample Tails (at_most n s i items)
  sample_n n i = record {
    value = [];
    text = [];
    tail = λ line tail. (refl, tail_sign line tail);
    holds = λ line tail. (behind_blanks line, no_sign_more n i (32 ∷ line) (sign_behind line tail), blanks_twice line);
  }

  nothing_here : Here Tails (λ here. made {X = List X} [] here)
  nothing_here = record {
    passes = λ c front rest behind line y tail e.
        (c ∷ front ++ line, ap (λ z. made z (c ∷ front ++ line)) (same_value [] y (c ∷ front ++ behind) (rest ++ behind) e), ap (λ (l : List ℕ). behind_blanks (l ++ line)) (append_cancel_right (c ∷ front) rest behind (same_rest [] y (c ∷ front ++ behind) (rest ++ behind) e)));
    idles = λ behind line y tail e. (behind_blanks line, ap (λ z. made z (behind_blanks line)) (same_value [] y behind behind e), blanks_twice line);
    finishes = λ c front behind e. absurd cc;
    begins_at = λ behind e. absurd cc;
  }

  open_n : (n i : ℕ) → Open Tails (at_most n s i items)
  open_n zero i = open_skip Tails (λ here. made [] here) (local_done []) nothing_here
  open_n (suc n) i =
      open_where Tails same_tail s goes [] (one_more n i)
      (local_both (items i) (λ x behind. and_then (at_most n s (suc i) items behind) (with_item x)) (local (item i)) (λ x. local_both (at_most n s (suc i) items) (with_item x) (at_n n (suc i)) (λ xs. local_done (x ∷ xs))))
      (open_both Tails (items i) (λ x behind. and_then (at_most n s (suc i) items behind) (with_item x)) (local (item i)) (λ x. local_both (at_most n s (suc i) items) (with_item x) (at_n n (suc i)) (λ xs. local_done (x ∷ xs))) (inner i)
      (λ x. open_map Tails (at_most n s (suc i) items) (λ xs. x ∷ xs) (open_n n (suc i))) (λ x line. ap (λ r. and_then r (with_item x)) (skips_n n (suc i) line)) (λ x. sample_map Tails (at_most n s (suc i) items) (λ xs. x ∷ xs) (open_n n (suc i)) (sample_n n (suc i))) same_tail)

  abbrev NoSign : List ℕ → Type 0
  NoSign rest = begins (λ byte. eqb byte s) (behind_blanks rest) ≡ false

  more_in : (x : X) (ys : List X) (rest : List ℕ) (o p : Read (List X)) → NoSign rest → ((xs : List X) (end : List ℕ) → NoSign end → o ≡ Ok (xs, end) → p ≡ Ok (xs, end)) → and_then o (with_item x) ≡ Ok (ys, rest) → and_then p (with_item x) ≡ Ok (ys, rest)
  more_in x ys rest (Err fault) p none more e = absurd cc
  more_in x ys rest (Ok (xs, end)) p none more e =
      let same = same_rest (x ∷ xs) ys end rest e in
      ap (λ r. and_then r (with_item x)) (more xs end (subst NoSign (sym same) none) refl) ∙ e

  more_by : (m n i : ℕ) (ys : List X) (rest : List ℕ) (r : Read X) → NoSign rest → ((mid : List ℕ) (xs : List X) (end : List ℕ) → NoSign end → at_most n s i items mid ≡ Ok (xs, end) → at_most m s i items mid ≡ Ok (xs, end))
      → and_then r (λ x behind. and_then (at_most n s i items behind) (with_item x)) ≡ Ok (ys, rest) → and_then r (λ x behind. and_then (at_most m s i items behind) (with_item x)) ≡ Ok (ys, rest)
  more_by m n i ys rest (Err fault) none more e = absurd cc
  more_by m n i ys rest (Ok (x, mid)) none more e = more_in x ys rest (at_most n s i items mid) (at_most m s i items mid) none (more mid) e

  more_here : (m n i : ℕ) (here : List ℕ) (ys : List X) (rest : List ℕ) → NoSign rest → ((mid : List ℕ) (xs : List X) (end : List ℕ) → NoSign end → at_most n s (suc i) items mid ≡ Ok (xs, end) → at_most m s (suc i) items mid ≡ Ok (xs, end))
      → by_sign s (one_more n i) (λ l. Ok ([], l)) here ≡ Ok (ys, rest) → by_sign s (one_more m i) (λ l. Ok ([], l)) here ≡ Ok (ys, rest)
  more_here m n i [] ys rest none more e = e
  more_here m n i (byte ∷ here) ys rest none more e =
      by_test (eqb byte s) here (one_more n i) (made [] (byte ∷ here)) (λ o. o ≡ Ok (ys, rest) → by_sign s (one_more m i) (λ l. Ok ([], l)) (byte ∷ here) ≡ Ok (ys, rest))
      (λ is f. rw is (more_by m n (suc i) ys rest (items i here) none more f)) (λ is f. rw is f) e

  more_items : (n m i : ℕ) (line : List ℕ) (ys : List X) (rest : List ℕ) → n ≤ m → NoSign rest → at_most n s i items line ≡ Ok (ys, rest) → at_most m s i items line ≡ Ok (ys, rest)
  more_items zero m i line ys rest few none e =
      let is : behind_blanks line ≡ rest = same_rest [] ys (behind_blanks line) rest e in
      no_sign_more m i line (subst (λ (l : List ℕ). begins (λ byte. eqb byte s) l ≡ false) (sym (ap behind_blanks is) ∙ blanks_twice line) none) ∙ e
  more_items (suc n) zero i line ys rest few none e = absurd (omega (arith, few))
  more_items (suc n) (suc m) i line ys rest few none e =
      more_here m n i (behind_blanks line) ys rest none (λ mid xs end free f. more_items n m (suc i) mid xs end (omega (arith, few)) free f) e

  still_in : (x : X) (fault : LineFault) (o p : Read (List X)) → (o ≡ Err fault → p ≡ Err fault) → and_then o (with_item x) ≡ Err fault → and_then p (with_item x) ≡ Err fault
  still_in x fault (Ok (xs, end)) p more e = absurd cc
  still_in x fault (Err f) p more e = ap (λ r. and_then r (with_item x)) (more e)

  still_by : (m n i : ℕ) (fault : LineFault) (r : Read X) → ((mid : List ℕ) → at_most n s i items mid ≡ Err fault → at_most m s i items mid ≡ Err fault)
      → and_then r (λ x behind. and_then (at_most n s i items behind) (with_item x)) ≡ Err fault → and_then r (λ x behind. and_then (at_most m s i items behind) (with_item x)) ≡ Err fault
  still_by m n i fault (Err f) more e = e
  still_by m n i fault (Ok (x, mid)) more e = still_in x fault (at_most n s i items mid) (at_most m s i items mid) (more mid) e

  still_here : (m n i : ℕ) (here : List ℕ) (fault : LineFault) → ((mid : List ℕ) → at_most n s (suc i) items mid ≡ Err fault → at_most m s (suc i) items mid ≡ Err fault)
      → by_sign s (one_more n i) (λ l. Ok ([], l)) here ≡ Err fault → by_sign s (one_more m i) (λ l. Ok ([], l)) here ≡ Err fault
  still_here m n i [] fault more e = absurd cc
  still_here m n i (byte ∷ here) fault more e =
      by_test (eqb byte s) here (one_more n i) (made [] (byte ∷ here)) (λ o. o ≡ Err fault → by_sign s (one_more m i) (λ l. Ok ([], l)) (byte ∷ here) ≡ Err fault)
      (λ is f. rw is (still_by m n (suc i) fault (items i here) more f)) (λ is f. absurd cc) e

  still_refused : (n m i : ℕ) (line : List ℕ) (fault : LineFault) → n ≤ m → at_most n s i items line ≡ Err fault → at_most m s i items line ≡ Err fault
  still_refused zero m i line fault few e = absurd cc
  still_refused (suc n) zero i line fault few e = absurd (omega (arith, few))
  still_refused (suc n) (suc m) i line fault few e = still_here m n i (behind_blanks line) fault (λ mid f. still_refused n m (suc i) mid fault (omega (arith, few)) f) e

  enough_n : (i n : ℕ) (line : List ℕ) → length line ≤ n → read (each s i item) line ≡ at_most n s i items line
  enough_n i n line few = enough_at s i item (λ i. local (item i)) n line few

  each_ends : (i n : ℕ) (value : Option (List X)) (whole line : List ℕ) → Behind Tails value line → Ended value (at_most n s i items whole) line → Ended value (read (each s i item) whole) line
  each_ends i n (Some xs) whole line tail (rest, is, same) =
      let m = n + length whole in
      (rest, enough_n i m whole (omega arith) ∙ more_items n m i whole xs rest (omega arith) (subst (λ (l : List ℕ). begins (λ byte. eqb byte s) l ≡ false) (sym same) (sign_behind line tail)) is, same)
  each_ends i n None whole line tail many =
      let m = n + length whole in
      enough_n i m whole (omega arith) ∙ still_refused n m i whole (Limit TooMany) (omega arith) many

  pub form_each : (i : ℕ) → Form (each s i item)
  form_each i = record {
    inner = record {
      passes = λ front rest behind line x tail e.
          let n = length (front ++ behind) + length (front ++ line) in
          let known = open_n n i in
          reached_at x (read (each s i item) (front ++ line)) (at_most n s i items (front ++ line)) (rest ++ line) (enough_n i n (front ++ line) (omega arith))
          (known.passes front rest behind line x tail (sym (enough_n i n (front ++ behind) (omega arith)) ∙ e));
      finishes = λ front behind e.
          let n = length (front ++ behind) in
          let known = open_n n i in
          let more = known.finishes front behind e in
          record { value = more.value; text = more.text; tail = more.tail; ends = λ line tail. each_ends i n more.value (front ++ (32 ∷ (more.text ++ line))) line tail (more.ends line tail) };
    };
    skips = λ line. skips_n (length line) i line ∙ sym (enough_n i (length line) (behind_blanks line) (blanks_shorter line));
    sample = record {
      value = [];
      text = [];
      tail = λ line tail. (refl, tail_sign line tail);
      holds = λ line tail. (behind_blanks line, no_sign_more (length (32 ∷ line)) i (32 ∷ line) (sign_behind line tail), blanks_twice line);
    };
  }

  pub form_separated : Form (item 0) → Form (separated s item)
  form_separated first = form_both (item 0) (λ x. follows (each s 1 item) (λ others. done (x ∷ others))) first (λ x. form_map (each s 1 item) (λ others. x ∷ others) (form_each 1))

-- ---- what is made of a token

abbrev pub failed : (X : Type 0) → LineFault → List ℕ → Read X
failed X fault line = Err fault

pub open_limit : {X : Type 0} (T : X → List ℕ → Type 0) (why : Refusal) → Open T (failed X (Limit why))
open_limit T why = record { passes = λ front rest behind line x tail e. absurd cc; finishes = λ front behind e. absurd cc }

pub open_bad_blob : {X : Type 0} (T : X → List ℕ → Type 0) (why : BlobFault) → Open T (failed X (BadBlob why))
open_bad_blob T why = record { passes = λ front rest behind line x tail e. absurd cc; finishes = λ front behind e. absurd cc }

pub kind_done : {X : Type 0} (T : X → List ℕ → Type 0) (x : X) → OpenKind T (done x)
kind_done T x = inr (λ before line. refl, open_done T x)

pub kind_unfit : {X : Type 0} (T : X → List ℕ → Type 0) → OpenKind T (unfit {X = X})
kind_unfit T = inl (λ before line. refl)

pub kind_exceeds : {X : Type 0} (T : X → List ℕ → Type 0) (why : Refusal) (free : Grammar X) → OpenKind T (exceeds why free)
kind_exceeds T why free = inr (λ before line. refl, open_limit T why)

pub kind_no_blob : {X : Type 0} (T : X → List ℕ → Type 0) (why : BlobFault) → OpenKind T (no_blob {X = X} why)
kind_no_blob T why = inr (λ before line. refl, open_bad_blob T why)

pub kind_within : {X : Type 0} (T : X → List ℕ → Type 0) (r : Result X Refusal) (free : X) → OpenKind T (within r free)
kind_within T (Ok x) free = kind_done T x
kind_within T (Err why) free = kind_exceeds T why (done free)

pub kind_either : {X : Type 0} (T : X → List ℕ → Type 0) (b : Bool) (first second : Grammar X) → OpenKind T first → OpenKind T second → OpenKind T (either b first second)
kind_either T true first second one two = one
kind_either T false first second one two = two

pub kind_behind : {X : Type 0} (T : X → List ℕ → Type 0) (g : Grammar X) → Open T (read g) → OpenKind T (behind g)
kind_behind T g inner = inr (λ before line. refl, inner)

-- what is read behind each word is open
abbrev pub AreOpen : {X : Type 0} → (X → List ℕ → Type 0) → Words X → Type 0
AreOpen T [] = Unit {0}
AreOpen T ((v, g) ∷ others) = Open T (read g) × AreOpen T others

pub kind_one_of : {X : Type 0} (T : X → List ℕ → Type 0) (words : Words X) → AreOpen T words → (w : List ℕ) → OpenKind T (one_of words w)
kind_one_of T [] all w = kind_unfit T
kind_one_of T ((v, g) ∷ others) (first, all) w = kind_either T (bytes_eq w v) (behind g) (one_of others w) (kind_behind T g first) (kind_one_of T others all w)

-- ---- samples of tokens

-- a token with this first byte, before any tail
abbrev pub IsToken : Token → ℕ → List ℕ → Type 0
IsToken token c w = (line : List ℕ) → Tail line → token_at (c ∷ (w ++ line)) ≡ Some (token, line)

module _ {W X : Type 0} (wanted : Wanted W) (go : W → Grammar X) (token : Token) (c : ℕ) (w : List ℕ) (t : W) (plain : is_blank c ≡ false) (other : goes_with c ≡ false) (is : IsToken token c w) (fits : wanted token ≡ Some t) where
  abbrev after : List ℕ → Read X
  after line = read (spaced (takes wanted go)) (32 ∷ (c ∷ (w ++ line)))

  token_next : (line : List ℕ) → Tail line → after line ≡ read_at true (go t) (c ∷ (w ++ line)) line
  token_next line tail =
      let skipped : behind_blanks (32 ∷ (c ∷ (w ++ line))) ≡ c ∷ (w ++ line) = rw plain refl in
      ap (λ (here : List ℕ). token_then here (wanted_in wanted (token_at here)) (λ t rest. read_at true (go t) here rest)) skipped
      ∙ ap (λ (found : Scanned). token_then (c ∷ (w ++ line)) (wanted_in wanted found) (λ t rest. read_at true (go t) (c ∷ (w ++ line)) rest)) (is line tail)
      ∙ ap (λ (o : Option W). token_then (c ∷ (w ++ line)) (taken o line) (λ t rest. read_at true (go t) (c ∷ (w ++ line)) rest)) fits

  token_tails : (line : List ℕ) → Tail (32 ∷ (c ∷ (w ++ line)))
  token_tails line = (refl, rw plain other)

  -- nothing is read behind it
  pub sample_fits : (x : X) → ((before line : List ℕ) → read_at true (go t) before line ≡ Ok (x, line)) → Sample Tails (read (spaced (takes wanted go)))
  sample_fits x made_of = record {
    value = x;
    text = c ∷ w;
    tail = λ line tail. token_tails line;
    holds = λ line tail. reached_at x (after line) (Ok (x, line)) line (token_next line tail ∙ made_of (c ∷ (w ++ line)) line) (reached x line);
  }

  -- more is read behind it
  pub sample_then : (g : Grammar X) → ((before line : List ℕ) → read_at true (go t) before line ≡ read g line) → Sample Tails (read g) → Sample Tails (read (spaced (takes wanted go)))
  sample_then g made_of sample =
      let whole : (line : List ℕ) → (c ∷ w) ++ (32 ∷ sample.text) ++ line ≡ c ∷ (w ++ (32 ∷ (sample.text ++ line))) = λ line. append_assoc (c ∷ w) (32 ∷ sample.text) line in
      record {
        value = sample.value;
        text = (c ∷ w) ++ (32 ∷ sample.text);
        tail = λ line tail. subst (λ (l : List ℕ). Tail (32 ∷ l)) (sym (whole line)) (token_tails (32 ∷ (sample.text ++ line)));
        holds = λ line tail. reached_at sample.value (read (spaced (takes wanted go)) (32 ∷ ((c ∷ w) ++ (32 ∷ sample.text) ++ line))) (read g (32 ∷ (sample.text ++ line))) line
            (ap (λ (l : List ℕ). read (spaced (takes wanted go)) (32 ∷ l)) (whole line) ∙ token_next (32 ∷ (sample.text ++ line)) (sample.tail line tail) ∙ made_of (c ∷ (w ++ (32 ∷ (sample.text ++ line)))) (32 ∷ (sample.text ++ line))) (sample.holds line tail);
      }

  -- it is refused, for there is no room
  pub finish_full : ((before line : List ℕ) → read_at true (go t) before line ≡ Err (Limit TooMany)) → Finish Tails (read (spaced (takes wanted go))) []
  finish_full refused = record {
    value = None;
    text = c ∷ w;
    tail = λ line nil. token_tails line;
    ends = λ line nil. token_next line (nothing_tail line nil) ∙ refused (c ∷ (w ++ line)) line;
  }

-- a word that begins no blob
pub word_token : (c : ℕ) (w : List ℕ) → is_letter c ≡ true → eqb c 120 ≡ false → is_word (c ∷ w) ≡ true → IsToken (Word (c ∷ w)) c w
word_token c w letter no_x all line tail =
    begins_scanned (Word (c ∷ w)) (c ∷ (w ++ line)) line (refl, letter, rw no_x refl, all, tail_byte is_word_byte line refl tail)

pub number_token : IsToken (Integer false 1) 49 []
number_token line tail = begins_scanned (Integer false 1) (49 ∷ line) line (49 ∷ [], refl, omega arith, refl, refl, tail_byte is_ascii_digit line refl tail, record { sfits = omega arith })

no_digits : decode_of [] ≡ Ok []
unfolding decode_pairs
no_digits = refl

pub blob_token : IsToken (Blob []) 120 (quote ∷ (quote ∷ []))
blob_token line tail = begins_scanned (Blob []) (120 ∷ (quote ∷ (quote ∷ line))) line ([], refl, no_digits)

-- ---- what ends a line

-- reading takes something of the line
abbrev pub Eats : {X : Type 0} → (List ℕ → Read X) → Type 0
Eats {X} reads = (line rest : List ℕ) (x : X) → reads line ≡ Ok (x, rest) → length rest < length line

eats_found : {W X : Type 0} (wanted : Wanted W) (go : W → Grammar X) (here rest r : List ℕ) (x : X) (token : Token) (w : Option W) → token_at here ≡ Some (token, r) → token_then here (taken w r) (λ t behind. read_at true (go t) here behind) ≡ Ok (x, rest) → length rest < length here
eats_found wanted go here rest r x token None is e = absurd cc
eats_found wanted go here rest r x token (Some t) is e =
    let (p, same, some) = found_some token here r is in
    let (f, at) = leaves_end true (go t) here r x rest e in
    let whole = ap length same in
    let end = ap length at in
    omega (arith, whole, end, some, length-append p r, length-append f rest)

eats_token : {W X : Type 0} (wanted : Wanted W) (go : W → Grammar X) (here rest : List ℕ) (x : X) (found : Scanned) → token_at here ≡ found → token_then here (wanted_in wanted found) (λ t behind. read_at true (go t) here behind) ≡ Ok (x, rest) → length rest < length here
eats_token wanted go here rest x None is e = absurd cc
eats_token wanted go here rest x (Some (token, r)) is e = eats_found wanted go here rest r x token (wanted token) is e

pub eats_next : {W X : Type 0} (wanted : Wanted W) (go : W → Grammar X) → Eats (read (spaced (takes wanted go)))
eats_next wanted go line rest x e = omega (arith, blanks_shorter line, eats_token wanted go (behind_blanks line) rest x (token_at (behind_blanks line)) refl e)

eats_made : {X Y : Type 0} (f : X → Y) (o : Read X) (y : Y) (rest : List ℕ) → and_then o (λ x rest. made (f x) rest) ≡ Ok (y, rest) → (x : X) × (o ≡ Ok (x, rest))
eats_made f (Ok (x, mid)) y rest e = (x, ap (made x) (same_rest (f x) y mid rest e))
eats_made f (Err fault) y rest e = absurd cc

pub eats_map : {X Y : Type 0} (first : Grammar X) (f : X → Y) → Eats (read first) → Eats (read (follows first (λ x. done (f x))))
eats_map first f eats line rest y e = let (x, is) = eats_made f (read first line) y rest e in eats line rest x is

-- something is taken by the first
eats_then : {X Y : Type 0} (first : Grammar X) (go : X → Grammar Y) → Eats (read first) → (line rest : List ℕ) (y : Y) (o : Read X) → read first line ≡ o → and_then o (λ x mid. read (go x) mid) ≡ Ok (y, rest) → length rest < length line
eats_then first go eats line rest y (Ok (x, mid)) is e =
    let (f, at) = leaves_end true (go x) mid mid y rest e in
    let end = ap length at in
    omega (arith, eats line mid x is, end, length-append f rest)
eats_then first go eats line rest y (Err fault) is e = absurd cc

pub eats_follows : {X Y : Type 0} (first : Grammar X) (go : X → Grammar Y) → Eats (read first) → Eats (read (follows first go))
eats_follows first go eats line rest y e = eats_then first go eats line rest y (read first line) refl e

never_idle : {X : Type 0} (reads : List ℕ → Read X) → Eats reads → (line : List ℕ) (x : X) → reads line ≡ Ok (x, line) → ⊥
never_idle reads eats line x e = let less = eats line line x e in omega (arith, less)

-- A grammar with which a line ends, or behind which a certain tail stands.
pub record Last {X : Type 0} (T : X → List ℕ → Type 0) (g : Grammar X) : Type 0 where
  pub inner : Open T (read g)
  pub skips : Skips (read g)
  pub sample : Sample T (read g)

pub last_form : {X : Type 0} (T : X → List ℕ → Type 0) → ((x : X) (l : List ℕ) → T x l → Tail l) → (g : Grammar X) → Form g → Last T g
last_form T tails g form = record { inner = weaker T tails (read g) form.inner; skips = form.skips; sample = weaker_sample T tails (read g) form.sample }

-- nothing, or else this
pub last_or : {X : Type 0} (T : X → List ℕ → Type 0) (x : X) → ((line : List ℕ) → T x line → Nothing line) → (other : Grammar X) → Last T other → Eats (read other) → Last T (spaced (on_end (done x) other))
last_or T x none other last eats = record {
  inner = open_skip T (by_end (made x []) (read other)) (local (on_end (done x) other)) (end_here x (read other) T none last.inner (never_idle (read other) eats));
  skips = λ line. ap (by_end (made x []) (read other)) (sym (blanks_twice line));
  sample = record { value = x; text = []; tail = end_tail x (read other) T none last.inner; holds = end_text x (read other) T none last.inner };
}

pub last_end : {X : Type 0} (x : X) (other : Grammar X) → Form other → Eats (read other) → Last Nothings (spaced (on_end (done x) other))
last_end x other form eats = last_or Nothings x (λ line nil. nil) other (last_form Nothings nothing_tails other form) eats

pub last_next : {W X : Type 0} (T : X → List ℕ → Type 0) → ((x : X) (l : List ℕ) → T x l → Tail l) → (wanted : Wanted W) (go : W → Grammar X) → ((t : W) → OpenKind T (go t)) → Sample Tails (read (spaced (takes wanted go))) → Last T (spaced (takes wanted go))
last_next T tails wanted go known sample =
    let weak = weaker_sample T tails (read (spaced (takes wanted go))) sample in
    record {
      inner = open_next T tails wanted go known (finish_of T (read (spaced (takes wanted go))) weak);
      skips = λ line. ap (λ (here : List ℕ). token_then here (wanted_in wanted (token_at here)) (λ t rest. read_at true (go t) here rest)) (sym (blanks_twice line));
      sample = weak;
    }

pub last_both : {X Y : Type 0} (T : Y → List ℕ → Type 0) → ((y : Y) (l : List ℕ) → T y l → Tail l) → (first : Grammar X) (go : X → Grammar Y) → Form first → ((x : X) → Last T (go x)) → Last T (follows first go)
last_both T tails first go one two = record {
  inner = open_both T (read first) (λ x. read (go x)) (local first) (λ x. local (go x)) one.inner (λ x. let second = two x in second.inner) (λ x. let second = two x in second.skips) (λ x. let second = two x in second.sample) tails;
  skips = λ line. ap (λ r. and_then r (λ x. read (go x))) (one.skips line);
  sample = sample_both T (read first) (λ x. read (go x)) (local first) (λ x. local (go x)) one.inner (λ x. let second = two x in second.inner) (λ x. let second = two x in second.skips) (λ x. let second = two x in second.sample) one.sample;
}

pub last_map : {X Y : Type 0} (T : Y → List ℕ → Type 0) (first : Grammar X) (f : X → Y) → Last (λ x. T (f x)) first → Last T (follows first (λ x. done (f x)))
last_map T first f one = record {
  inner = open_map T (read first) f one.inner;
  skips = λ line. ap (λ r. and_then r (λ x rest. made (f x) rest)) (one.skips line);
  sample = sample_map T (read first) f one.inner one.sample;
}
