-- A batch that is read one operation after the other.
use Rattle.std.proofs.Common.{◌≡◌, ℕ, Bool, false, leb, List, [], ◌∷◌, ◌++◌, length, IsErrAnd, Option, Some, None, Result, Ok, Err, ap, sym, ◌∙◌, subst}
use Rattle.cap_database.specs.declared.op.Op.{Op}
use Rattle.cap_txn.specs.Batch.{BatchState}
use Rattle.cap_txn.specs.ReadSet.{ReadSetState}
use Rattle.cap_language.specs.Forms.{separated}
use Rattle.cap_language.specs.Grammar.{Fails, Read, Reads, and_then, each, read, sign_at}
use Rattle.cap_language.specs.Tokens.{behind_blanks}
use Rattle.cap_language.specs.declared.fault.LineFault.{LineFault}
use Rattle.cap_language.proofs.GrammarLaws.{fails_through, first_item, last_item, next_item, so_far, unread_item}
use Rattle.cap_script.specs.Language.{batch, nth_operation, operation, operations}

-- a fault that a call passes on
pub passed_on : {X : Type 0} (r : Result X LineFault) (rest : List ℕ) (fault : LineFault) (answer : Read X) → IsErrAnd r (λ e. e ≡ fault) → Fails fault answer → Reads r rest answer
passed_on (Ok x) rest fault answer is fails = absurd is
passed_on (Err why) rest fault answer is fails = subst (λ why. Fails why answer) (sym is) fails

module _ {A : Type 0} where
  abbrev in_batch : Option ℕ → List (Op A) → List ℕ → Read (BatchState A)
  in_batch base ops rest = Ok (record { base = base; ops = ops; reads = None }, rest)

  -- what is read of a batch behind these operations
  abbrev pub batch_so_far : BatchState A → List ℕ → Read (BatchState A)
  batch_so_far made here = and_then (so_far 59 nth_operation made.ops here) (in_batch made.base)

  pub first_in_batch : (base : Option ℕ) (made : BatchState A) (op : Op A) (line mid : List ℕ) → read (operation false) line ≡ Ok (op, mid) → made.ops ≡ op ∷ [] → made.base ≡ base
      → read (batch base) line ≡ batch_so_far made mid
  unfolding batch operations
  first_in_batch base made op line mid is ops_are base_is =
      ap (λ r. and_then r (in_batch base)) (first_item 59 nth_operation line op mid is)
      ∙ ap (λ (ops : List (Op A)). and_then (so_far 59 nth_operation ops mid) (in_batch base)) (sym ops_are)
      ∙ ap (λ (b : Option ℕ). and_then (so_far 59 nth_operation made.ops mid) (in_batch b)) (sym base_is)

  pub next_in_batch : (made all : BatchState A) (op : Op A) (here inner behind : List ℕ) → sign_at 59 (behind_blanks here) ≡ Some inner → read (nth_operation (length made.ops)) inner ≡ Ok (op, behind) → all.ops ≡ made.ops ++ op ∷ [] → all.base ≡ made.base
      → batch_so_far made here ≡ batch_so_far all behind
  next_in_batch made all op here inner behind sign is ops_are base_is =
      ap (λ r. and_then r (in_batch made.base)) (next_item 59 nth_operation made.ops all.ops here inner op behind sign is ops_are)
      ∙ ap (λ (b : Option ℕ). and_then (so_far 59 nth_operation all.ops behind) (in_batch b)) (sym base_is)

  pub last_in_batch : (made : BatchState A) (here rest : List ℕ) → (sign_at 59 (behind_blanks here) ≡ None) × (rest ≡ behind_blanks here) → made.reads ≡ None → batch_so_far made here ≡ Ok (made, rest)
  last_in_batch made here rest none no_reads =
      ap (λ r. and_then r (in_batch made.base)) (last_item 59 nth_operation made.ops here rest none)
      ∙ ap (λ (s : Option (ReadSetState A)). Ok (record { base = made.base; ops = made.ops; reads = s }, rest)) (sym no_reads)

  pub unread_in_batch : (made : BatchState A) (here inner : List ℕ) (fault : LineFault) → sign_at 59 (behind_blanks here) ≡ Some inner → Fails fault (read (nth_operation {A = A} (length made.ops)) inner) → Fails fault (batch_so_far made here)
  unread_in_batch made here inner fault sign fails =
      fails_through fault (so_far 59 nth_operation made.ops here) (in_batch made.base) (unread_item 59 nth_operation made.ops here inner fault sign fails)

  -- the operation behind these, by whether there is room for it
  pub by_room : (made : BatchState A) (inner : List ℕ) (is_full : Bool) (P : Read (Op A) → Type 0) → is_full ≡ leb 10000 (length made.ops) → P (read (operation is_full) inner) → P (read (nth_operation (length made.ops)) inner)
  by_room made inner is_full P is h = subst (λ (b : Bool). P (read (operation b) inner)) is h

-- the first operation is not read
pub first_unread : (A : Type 0) (base : Option ℕ) (line : List ℕ) (fault : LineFault) → Fails fault (read (operation {A = A} false) line) → Fails fault (read (batch {A = A} base) line)
unfolding batch operations
first_unread A base line fault fails =
    fails_through fault (read (separated 59 (nth_operation {A = A})) line) (in_batch base)
    (fails_through fault (read (operation {A = A} false) line) (λ first behind. and_then (read (each 59 1 (nth_operation {A = A})) behind) (λ others rest. Ok (first ∷ others, rest))) fails)
