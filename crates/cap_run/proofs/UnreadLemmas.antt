-- The lines of an input that is read piece by piece.
use Rattle.std.proofs.Common.{◌≡◌, ◌∙◌, ◌⊎◌, inl, inr, ℕ, zero, suc, ◌+◌, ◌-◌, ◌*◌, ◌<◌, ◌≤◌, Bool, true, false, cond, ◌||◌, ◌==◌, List, [], ◌∷◌, ◌++◌, Option, Some, None, length, length-append, append-nil, append_assoc, get_or, take, drop, drop-cons, take-append-drop, ap, ap₂, sym, refl, subst, arith}
use Rattle.std.specs.Io.KnownBytes.{Consumes, IsAtEnd, Keeps, prepend_known}
use Rattle.std.specs.List.{list_any, onto_first}
use Rattle.cap_run.specs.BlobList.{HasLines}
use Rattle.cap_replies.specs.TextLines.{split_lines}
use Rattle.cap_stream.specs.StreamCalls.{AllWent, Calls, LastFailed}
use Rattle.cap_run.specs.Code.Unread.{Counted, CutsLine, Failed, HasLine, HasPart, IsGiven, IsTaken, MatchRead}
use Rattle.cap_run.specs.declared.unread.ReadFault.{ReadFault}
use Rattle.cap_run.specs.declared.unread.ReadFault.TheVariants.{Failed as ReadFailed, OutOfMemory}
use Rattle.cap_replies.proofs.TextLineLemmas.{has_line_feed, line_alone, line_cut}
use Rattle.cap_stream.proofs.CallLemmas.{calls_on, went_on}

-- the first line feed is here
pub feed_at : (text : List ℕ) (i d : ℕ) → i < length text → get_or text i d ≡ 10 → text ≡ take i text ++ 10 ∷ drop (i + 1) text
feed_at text i d within feed =
    let n : suc i ≡ i + 1 = omega arith in
    let behind : drop i text ≡ get_or text i d ∷ drop (i + 1) text = drop-cons text i d within ∙ (λ k. get_or text i d ∷ drop (n k) text) in
    sym (take-append-drop i text) ∙ ap (λ (l : List ℕ). take i text ++ l) (behind ∙ ap (λ (b : ℕ). b ∷ drop (i + 1) text) feed)

-- no line feed in either
pub clear_both : (a b : List ℕ) → has_line_feed a ≡ false → has_line_feed b ≡ false → has_line_feed (a ++ b) ≡ false
clear_both [] b one two = two
clear_both (x ∷ a) b one two =
    elim (x == 10) as (λ is. (is || has_line_feed a) ≡ false → (is || has_line_feed (a ++ b)) ≡ false) [
      | true ↦ λ e. absurd (cc e)
      | false ↦ λ e. clear_both a b e two
    ] one

-- some more of the input was read
pub kept_given : (a b c : Option (List ℕ)) (line piece : List ℕ) → Keeps a (prepend_known line b) → Consumes b c piece → Keeps a (prepend_known (line ++ piece) c)
kept_given None b c line piece kept given = tt
kept_given (Some x) None c line piece kept given = absurd kept
kept_given (Some x) (Some y) None line piece kept given = absurd given
kept_given (Some x) (Some y) (Some z) line piece kept given = append_assoc line piece z ∙ ap (λ (l : List ℕ). line ++ l) (sym given) ∙ kept

-- what was taken, where there is a line feed or none
pub taken_so : (found whole : Bool) (front old new : List ℕ) → found ≡ whole → IsTaken found front old new → IsTaken whole front old new
taken_so found whole front old new is taken = subst (λ (b : Bool). IsTaken b front old new) is taken

-- all of it was taken
pub all_taken : (line more front unread rest : List ℕ) → more ≡ line ++ front → IsTaken false front unread rest → line ++ unread ≡ more
all_taken line more front unread rest is taken = ap (λ (l : List ℕ). line ++ l) taken.0 ∙ sym is

pub clear_taken : (line more front unread rest : List ℕ) → more ≡ line ++ front → IsTaken false front unread rest → has_line_feed line ≡ false → has_line_feed more ≡ false
clear_taken line more front unread rest is taken clear = ap has_line_feed is ∙ clear_both line front clear taken.2

-- at first
pub kept_first : (known : Option (List ℕ)) (bytes : List ℕ) → Keeps (prepend_known bytes known) (prepend_known bytes known)
kept_first None bytes = tt
kept_first (Some x) bytes = refl

-- the bytes in other parts
pub kept_same : (a b : Option (List ℕ)) (one two : List ℕ) → one ≡ two → Keeps a (prepend_known one b) → Keeps a (prepend_known two b)
kept_same a b one two same kept = subst (λ (l : List ℕ). Keeps a (prepend_known l b)) same kept

-- nothing more was given
pub kept_end : (a b c : Option (List ℕ)) (line : List ℕ) → Keeps a (prepend_known line b) → Consumes b c [] → Keeps a (prepend_known line c)
kept_end a b c line kept given = kept_same a c (line ++ []) line (append-nil line) (kept_given a b c line [] kept given)

-- what was given, where there is more or not
pub given_so : (found more : Bool) (piece : List ℕ) (old new : Option (List ℕ)) → more ≡ found → IsGiven found piece old new → IsGiven more piece old new
given_so found more piece old new is given = subst (λ (b : Bool). IsGiven b piece old new) (sym is) given

-- the line ends at a line feed
pub cut_line : (a b : Option (List ℕ)) (line front rest unread : List ℕ) → Keeps a (prepend_known (line ++ unread) b) → has_line_feed line ≡ false → IsTaken true front unread rest
    → CutsLine (line ++ front) a (prepend_known rest b)
cut_line None b line front rest unread kept clear taken = tt
cut_line (Some x) None line front rest unread kept clear taken = absurd kept
cut_line (Some x) (Some y) line front rest unread kept clear taken =
    let parts : x ≡ (line ++ front) ++ 10 ∷ (rest ++ y) =
    sym kept ∙ append_assoc line unread y ∙ ap (λ (l : List ℕ). line ++ (l ++ y)) taken.0 ∙ ap (λ (l : List ℕ). line ++ l) (append_assoc front (10 ∷ rest) y)
    ∙ sym (append_assoc line front (10 ∷ (rest ++ y))) in
    ap split_lines parts ∙ line_cut (line ++ front) (rest ++ y) (clear_both line front clear taken.1)

-- the last line has none
pub last_line : (a b : Option (List ℕ)) (line rest : List ℕ) → Keeps a (prepend_known line b) → IsAtEnd b → rest ≡ [] → has_line_feed line ≡ false → 0 < length line → CutsLine line a (prepend_known rest b)
last_line None b line rest kept ended none clear some = tt
last_line (Some x) None line rest kept ended none clear some = absurd kept
last_line (Some x) (Some y) line rest kept ended none clear some =
    let is : x ≡ line = sym kept ∙ ap (λ (l : List ℕ). line ++ l) ended ∙ append-nil line in
    let left : rest ++ y ≡ [] = ap₂ (λ (k l : List ℕ). k ++ l) none ended in
    ap split_lines is ∙ line_alone line some clear ∙ ap (λ (l : List ℕ). line ∷ split_lines l) (sym left)

-- there is no line
pub no_line : (a b : Option (List ℕ)) (line : List ℕ) → Keeps a (prepend_known line b) → IsAtEnd b → line ≡ [] → IsAtEnd a
no_line None b line kept ended none = tt
no_line (Some x) None line kept ended none = absurd kept
no_line (Some x) (Some y) line kept ended none = sym kept ∙ ap₂ (λ (k l : List ℕ). k ++ l) none ended

-- some bytes are a line
pub has_line : (a b : Option (List ℕ)) (line : List ℕ) → Keeps a (prepend_known line b) → 1 ≤ length line → HasLine a
has_line None b line kept some = tt
has_line (Some x) None line kept some = absurd kept
has_line (Some x) (Some y) line kept some = omega (arith, some, ap (λ (l : List ℕ). length l) kept, length-append line y)

-- ---- lines of an input that may not be known

-- an input that may not be known has some lines
pub lines_known : (known : Option (List ℕ)) → (lines : List (List ℕ)) × HasLines known lines
lines_known None = ([], tt)
lines_known (Some given) = (split_lines given, refl)

pub lines_cut : (line : List ℕ) (a b : Option (List ℕ)) (lines : List (List ℕ)) → CutsLine line a b → HasLines b lines → HasLines a (line ∷ lines)
lines_cut line None b lines cut has = tt
lines_cut line (Some x) None lines cut has = absurd cut
lines_cut line (Some x) (Some y) lines cut has = ap (λ (l : List (List ℕ)). line ∷ l) has ∙ sym cut

-- nothing was read
pub lines_nil : (known : Option (List ℕ)) (lines : List (List ℕ)) → HasLines (prepend_known [] known) lines → HasLines known lines
lines_nil None lines has = tt
lines_nil (Some given) lines has = has

pub lines_end : (known : Option (List ℕ)) → IsAtEnd known → HasLines known []
lines_end None ended = tt
lines_end (Some x) ended = sym (ap split_lines ended)

pub lines_kept : (a b : Option (List ℕ)) (lines : List (List ℕ)) → Keeps a b → HasLines b lines → HasLines a lines
lines_kept None b lines kept has = tt
lines_kept (Some x) None lines kept has = absurd kept
lines_kept (Some x) (Some y) lines kept has = has ∙ ap split_lines kept

onto_some : (byte : ℕ) (lines : List (List ℕ)) → 0 < length (onto_first byte lines)
onto_some byte [] = omega arith
onto_some byte (x ∷ lines) = omega arith

lines_some : (given : List ℕ) → 1 ≤ length given → 0 < length (split_lines given)
lines_some [] some = absurd (omega (arith, some))
lines_some (b ∷ given) some =
    elim (b == 10) as (λ is. 0 < length (cond is ([] ∷ split_lines given) (onto_first b (split_lines given)))) [
      | true ↦ omega arith
      | false ↦ onto_some b (split_lines given)
    ]

-- an input with bytes has a line
pub lines_one : (known : Option (List ℕ)) → HasLine known → (lines : List (List ℕ)) × HasLines known lines × (0 < length lines)
lines_one None has = ([] ∷ [], tt, omega arith)
lines_one (Some given) has = (split_lines given, refl, lines_some given has)

-- ---- reads

module _ {R : Type 0} (gave : R → R → Type 0) where
  pub counted_none : (reads : ℕ) (old : R) → Counted gave reads reads old old
  counted_none reads old = (0, refl, omega arith)

  pub counted_on : (a b c : ℕ) (x y z : R) → Counted gave a b x y → Counted gave b c y z → Counted gave a c x z
  counted_on a b c x y z (m, some, one) (n, others, two) =
      let all = calls_on gave gave m n x y z some others in
      (all.0, all.2, omega (arith, all.1, one, two))

  -- one read more
  pub counted_one : (a b c : ℕ) (x y z : R) → Counted gave a b x y → gave y z → b ≡ c + 1 → Counted gave a c x z
  counted_one a b c x y z (n, some, is) one less = (suc n, (y, some, one), omega (arith, is, less))

  pub failed_on : (failed : R → R → Type 0) (a b : ℕ) (x y z : R) → Counted gave a b x y → Failed gave failed b y z → Failed gave failed a x z
  failed_on failed a b x y z (m, some, is) (inl (before, others, last)) = inl (before, went_on gave gave x y before (m, some) others, last)
  failed_on failed a b x y z (m, some, is) (inr most) =
      let all = calls_on gave gave m b x y z some most in
      let same : all.0 ≡ a = omega (arith, all.1, is) in
      inr (subst (λ (n : ℕ). Calls gave n x z) same all.2)

  pub all_went : (a b : ℕ) (x y : R) → Counted gave a b x y → AllWent gave x y
  all_went a b x y (m, some, is) = (m, some)

  failed_now : (failed : R → R → Type 0) (a b : ℕ) (x y z : R) → Counted gave a b x y → failed y z ⊎ ((b ≡ 0) × (y ≡ z)) → Failed gave failed a x z
  failed_now failed a b x y z (m, some, is) (inl last) = inl (y, (m, some), last)
  failed_now failed a b x y z (m, some, is) (inr (none, same)) =
      let all : m ≡ a = omega (arith, is, none) in
      inr (subst (λ (w : R). Calls gave a x w) same (subst (λ (n : ℕ). Calls gave n x y) all some))

  -- a read ended the line
  pub fault_passed : (failed : R → R → Type 0) (fault : ReadFault) (before reads after : ℕ) (x y z : R) (a b c : Option (List ℕ)) (line : List ℕ)
      → Counted gave before reads x y → Keeps a (prepend_known line b) → has_line_feed line ≡ false
      → MatchRead fault ((reads ≡ after + 1) × gave y z × ((piece : List ℕ) × Consumes b c piece × (1 ≤ length piece))) ((failed y z ⊎ ((reads ≡ 0) × (y ≡ z))) × Consumes b c [])
      → MatchRead fault (Counted gave before after x z × HasLine a) (Failed gave failed before x z × HasPart a c)
  fault_passed failed OutOfMemory before reads after x y z a b c line counted kept clear (less, went, (piece, given, some)) = (
    counted_one before reads after x y z counted went less,
    has_line a c (line ++ piece) (kept_given a b c line piece kept given) (omega (arith, some, length-append line piece)),
  )
  fault_passed failed ReadFailed before reads after x y z a b c line counted kept clear (last, given) = (
    failed_now failed before reads x y z counted last,
    (line, clear, kept_end a b c line kept given),
  )
