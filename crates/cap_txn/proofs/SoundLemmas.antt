-- A transaction's database is what its operations leave of the snapshot's.
use Rattle.std.proofs.Common.{◌≡◌, ℕ, zero, suc, ◌+◌, ◌<◌, ◌≤◌, true, false, cond, Option, Some, None, Result, Ok, Err, List, [], ◌∷◌, ◌++◌, length, take, refl, sym, ap, subst, ◌∙◌, arith}
use Rattle.std.specs.Prelude.{IfOk, ◌==◌}
use Rattle.std.specs.List.{AllByRecursion}
use Rattle.cap_value.specs.declared.refusal.Refusal.{Refusal}
use Rattle.cap_database.specs.Snapshot.{SnapshotState}
use Rattle.cap_database.specs.Operation.{changes, step}
use Rattle.cap_txn.specs.Sound.{AreInOrder, AreNumbered, IsSavepoint, IsSound, Leaves}
use Rattle.cap_database.specs.Tables.{Tables}
use Rattle.cap_txn.specs.Workspace.{WorkspaceState, after_back, after_op, after_savepoint, back_at, begin, numbered, op_made, refused_savepoint, savepoint_unless, up_to}
use Rattle.cap_database.specs.declared.op.Op.{Op}
use Rattle.cap_txn.specs.declared.savepoint.Savepoint.{Savepoint}
use Rattle.cap_database.proofs.RunLemmas.{run-push}

module _ {X : Type 0} where
  all_weaker : (P Q : X → Type 0) → ((x : X) → P x → Q x) → (xs : List X) → AllByRecursion P xs → AllByRecursion Q xs
  all_weaker P Q says [] all = tt
  all_weaker P Q says (x ∷ xs) all = (says x all.0, all_weaker P Q says xs all.1)

  all_last : (P : X → Type 0) (xs : List X) (x : X) → AllByRecursion P xs → P x → AllByRecursion P (xs ++ x ∷ [])
  all_last P [] x all last = (last, tt)
  all_last P (y ∷ ys) x all last = (all.0, all_last P ys x all.1 last)

  take_all : (xs : List X) → take (length xs) xs ≡ xs
  take_all [] = refl
  take_all (x ∷ xs) = ap (λ l. x ∷ l) (take_all xs)

  take_front : (n : ℕ) (xs ys : List X) → n ≤ length xs → take n (xs ++ ys) ≡ take n xs
  take_front zero xs ys few = refl
  take_front (suc n) [] ys few = absurd (omega arith)
  take_front (suc n) (x ∷ xs) ys few = ap (λ l. x ∷ l) (take_front n xs ys (omega arith))

  take_less : (m n : ℕ) (xs : List X) → m ≤ n → take m (take n xs) ≡ take m xs
  take_less zero n xs few = refl
  take_less (suc m) zero xs few = absurd (omega arith)
  take_less (suc m) (suc n) [] few = refl
  take_less (suc m) (suc n) (x ∷ xs) few = ap (λ l. x ∷ l) (take_less m n xs (omega arith))

  take_length : (n : ℕ) (xs : List X) → n ≤ length xs → length (take n xs) ≡ n
  take_length zero xs few = refl
  take_length (suc n) [] few = absurd (omega arith)
  take_length (suc n) (x ∷ xs) few = ap suc (take_length n xs (omega arith))

  longer : (xs ys : List X) (n : ℕ) → n ≤ length xs → n ≤ length (xs ++ ys)
  longer [] ys n few = omega arith
  longer (x ∷ xs) ys zero few = omega arith
  longer (x ∷ xs) ys (suc n) few = let l = longer xs ys n (omega arith) in omega arith

module _ {A : Type 0} where
  pub begin-IsSound : (snapshot : SnapshotState A) → IsSound (begin snapshot)
  begin-IsSound snapshot = record {
    left = record { outcome = record { database = snapshot.database; changes = [] }; runs = refl; leaves = refl };
    savepoints = tt;
    rising = tt;
    numbers = tt;
  }

  -- ---- an operation

  one_more : (base : Tables A) (ops : List (Op A)) (op : Op A) (database next : Tables A) → Leaves base ops database → step database op ≡ Ok next → Leaves base (ops ++ op ∷ []) next
  one_more base ops op database next h is = record {
    outcome = record { database = next; changes = h.outcome.changes ++ changes h.outcome.database op };
    runs = run-push base ops op h.outcome next h.runs (ap (λ (d : Tables A). step d op) h.leaves ∙ is);
    leaves = refl;
  }

  still : (base : Tables A) (ops more : List (Op A)) (s : Savepoint A) → IsSavepoint base ops s → IsSavepoint base (ops ++ more) s
  still base ops more s h = record {
    stood = longer ops more s.ops h.stood;
    left = subst (λ (front : List (Op A)). Leaves base front s.database) (sym (take_front s.ops ops more h.stood)) h.left;
  }

  pub op-IsSound : (txn : WorkspaceState A) (op : Op A) → IsSound txn → IfOk (after_op txn op) IsSound
  op-IsSound txn op h = made (step txn.database op) refl
    where
      made : (r : Result (Tables A) Refusal) → step txn.database op ≡ r → IfOk (op_made txn op r) IsSound
      made (Err why) is = tt
      made (Ok next) is = record {
        left = one_more txn.base.database txn.ops op txn.database next h.left is;
        savepoints = all_weaker (IsSavepoint txn.base.database txn.ops) (IsSavepoint txn.base.database (txn.ops ++ op ∷ [])) (still txn.base.database txn.ops (op ∷ [])) txn.savepoints h.savepoints;
        rising = h.rising;
        numbers = h.numbers;
      }

  -- ---- a savepoint

  rising_last : (savepoints : List (Savepoint A)) (last : Savepoint A) → AreInOrder savepoints → AllByRecursion (λ s. s.ops ≤ last.ops) savepoints → AreInOrder (savepoints ++ last ∷ [])
  rising_last [] last rising few = (tt, tt)
  rising_last (s ∷ ss) last rising few = (all_last (λ later. s.ops ≤ later.ops) ss last rising.0 few.0, rising_last ss last rising.1 few.1)

  numbered_last : (made : ℕ) (ss : List (Savepoint A)) (last : Savepoint A) → AreNumbered made ss → last.number ≡ made → AreNumbered (made + 1) (ss ++ last ∷ [])
  numbered_last made [] last numbers is = (omega arith, tt, tt)
  numbered_last made (s ∷ ss) last numbers is =
      let low : s.number < made = numbers.0 in
      let below : s.number < last.number = omega (arith, low, is) in
      (omega (arith, low), all_last (λ later. s.number < later.number) ss last numbers.1 below, numbered_last made ss last numbers.2 is)

  pub savepoint-IsSound : (txn : WorkspaceState A) → IsSound txn → IfOk (after_savepoint txn) IsSound
  savepoint-IsSound txn h = unless (refused_savepoint txn)
    where
      unless : (refused : Option Refusal) → IfOk (savepoint_unless refused txn) IsSound
      unless (Some why) = tt
      unless None =
          let made : Savepoint A = record { number = txn.made; ops = length txn.ops; database = txn.database } in
          record {
            left = h.left;
            savepoints = all_last (IsSavepoint txn.base.database txn.ops) txn.savepoints made h.savepoints (record {
              stood = omega arith;
              left = subst (λ (front : List (Op A)). Leaves txn.base.database front txn.database) (sym (take_all txn.ops)) h.left;
            });
            rising = rising_last txn.savepoints made h.rising (all_weaker (IsSavepoint txn.base.database txn.ops) (λ s. s.ops ≤ length txn.ops) (λ s stands. stands.stood) txn.savepoints h.savepoints);
            numbers = numbered_last txn.made txn.savepoints made h.numbers refl;
          }

  -- ---- back to a savepoint

  -- what is so of each savepoint is so of those up to one, and of that one
  up_to-all : (P : Savepoint A → Type 0) (number : ℕ) (ss : List (Savepoint A)) → AllByRecursion P ss → AllByRecursion P (up_to number ss)
  up_to-all P number [] all = tt
  up_to-all P number (s ∷ ss) all = elim (s.number == number) as (λ b. AllByRecursion P (cond b (s ∷ []) (s ∷ up_to number ss))) [ true ↦ (all.0, tt) | false ↦ (all.0, up_to-all P number ss all.1) ]

  found-all : (P : Savepoint A → Type 0) (number : ℕ) (ss : List (Savepoint A)) (found : Savepoint A) → AllByRecursion P ss → numbered number ss ≡ Some found → P found
  found-all P number [] found all is = cc
  found-all P number (s ∷ ss) found all is =
      elim (s.number == number) as (λ b. cond b (Some s) (numbered number ss) ≡ Some found → P found) [
        | true ↦ λ here. let same : s ≡ found = cc in subst P same all.0
        | false ↦ λ later. found-all P number ss found all.1 later
      ] is

  up_to-rising : (number : ℕ) (ss : List (Savepoint A)) → AreInOrder ss → AreInOrder (up_to number ss)
  up_to-rising number [] rising = tt
  up_to-rising number (s ∷ ss) rising =
      elim (s.number == number) as (λ b. AreInOrder (cond b (s ∷ []) (s ∷ up_to number ss))) [
        | true ↦ (tt, tt)
        | false ↦ (up_to-all (λ later. s.ops ≤ later.ops) number ss rising.0, up_to-rising number ss rising.1)
      ]

  up_to-numbered : (made number : ℕ) (ss : List (Savepoint A)) → AreNumbered made ss → AreNumbered made (up_to number ss)
  up_to-numbered made number [] numbers = tt
  up_to-numbered made number (s ∷ ss) numbers =
      elim (s.number == number) as (λ b. AreNumbered made (cond b (s ∷ []) (s ∷ up_to number ss))) [
        | true ↦ (numbers.0, tt, tt)
        | false ↦ (numbers.0, up_to-all (λ later. s.number < later.number) number ss numbers.1, up_to-numbered made number ss numbers.2)
      ]

  -- those up to one had no more operations than it
  up_to-few : (number : ℕ) (ss : List (Savepoint A)) (found : Savepoint A) → AreInOrder ss → numbered number ss ≡ Some found → AllByRecursion (λ s. s.ops ≤ found.ops) (up_to number ss)
  up_to-few number [] found rising is = tt
  up_to-few number (s ∷ ss) found rising is =
      elim (s.number == number) as (λ b. cond b (Some s) (numbered number ss) ≡ Some found → AllByRecursion (λ s. s.ops ≤ found.ops) (cond b (s ∷ []) (s ∷ up_to number ss))) [
        | true ↦ λ here. let same : s ≡ found = cc in (subst (λ (x : Savepoint A). s.ops ≤ x.ops) same (omega arith), tt)
        | false ↦ λ later. (found-all (λ (x : Savepoint A). s.ops ≤ x.ops) number ss found rising.0 later, up_to-few number ss found rising.1 later)
      ] is

  both_of : (P Q : Savepoint A → Type 0) (ss : List (Savepoint A)) → AllByRecursion P ss → AllByRecursion Q ss → AllByRecursion (λ s. P s × Q s) ss
  both_of P Q [] all more = tt
  both_of P Q (s ∷ ss) all more = ((all.0, more.0), both_of P Q ss all.1 more.1)

  earlier : (base : Tables A) (ops : List (Op A)) (n : ℕ) (s : Savepoint A) → n ≤ length ops → IsSavepoint base ops s × (s.ops ≤ n) → IsSavepoint base (take n ops) s
  earlier base ops n s few h = record {
    stood = subst (λ m. s.ops ≤ m) (sym (take_length n ops few)) h.1;
    left = subst (λ (front : List (Op A)). Leaves base front s.database) (sym (take_less s.ops n ops h.1)) h.0.left;
  }

  pub back-IsSound : (txn : WorkspaceState A) (number : ℕ) → IsSound txn → IfOk (after_back txn number) IsSound
  back-IsSound txn number h = back (numbered number txn.savepoints) refl
    where
      back : (found : Option (Savepoint A)) → numbered number txn.savepoints ≡ found → IfOk (back_at txn number found) IsSound
      back None is = tt
      back (Some s) is =
          let there = found-all (IsSavepoint txn.base.database txn.ops) number txn.savepoints s h.savepoints is in
          record {
            left = there.left;
            savepoints = all_weaker (λ x. IsSavepoint txn.base.database txn.ops x × (x.ops ≤ s.ops)) (IsSavepoint txn.base.database (take s.ops txn.ops)) (λ x. earlier txn.base.database txn.ops s.ops x there.stood) (up_to number txn.savepoints)
                (both_of (IsSavepoint txn.base.database txn.ops) (λ x. x.ops ≤ s.ops) (up_to number txn.savepoints) (up_to-all (IsSavepoint txn.base.database txn.ops) number txn.savepoints h.savepoints) (up_to-few number txn.savepoints s h.rising is));
            rising = up_to-rising number txn.savepoints h.rising;
            numbers = up_to-numbered txn.made number txn.savepoints h.numbers;
          }
