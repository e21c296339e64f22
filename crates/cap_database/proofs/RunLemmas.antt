-- A list of operations, one more at a time.
use Rattle.std.proofs.Common.{◌≡◌, ℕ, suc, ◌+◌, ◌<◌, Result, Ok, Err, List, [], ◌∷◌, ◌++◌, length, take, drop, get_or, refl, sym, ap, ◌∙◌, append_assoc, arith, drop-cons}
use Rattle.std.proofs.lemmas.List.{append-nil, take-append-drop, length-take}
use Rattle.cap_value.specs.declared.refusal.Refusal.{Refusal}
use Rattle.cap_database.specs.declared.change.Change.{Change}
use Rattle.cap_database.specs.declared.op.Op.{Op}
use Rattle.cap_database.specs.declared.refused_at.RefusedAt.{RefusedAt}
use Rattle.cap_database.specs.Outcome.{OutcomeState}
use Rattle.cap_database.specs.Operation.{changes, step, one_later, with_changes, and_then, run}
use Rattle.cap_database.specs.Tables.{Tables}
use Rattle.cap_database.proofs.StepLemmas.{take_item}

module _ {A : Type 0} where
  -- what operations leave that come so many places after others, with the changes of these before theirs
  abbrev onto : List (Change A) → ℕ → Result (OutcomeState A) RefusedAt → Result (OutcomeState A) RefusedAt
  onto before n (Ok left) = Ok (record { database = left.database; changes = before ++ left.changes })
  onto before n (Err refused) = Err (record { at = refused.at + n; why = refused.why })

  onto-none : (r : Result (OutcomeState A) RefusedAt) → r ≡ onto [] 0 r
  onto-none (Ok left) = refl
  onto-none (Err refused) = ap (λ (at : ℕ). Err (record { at = at; why = refused.why })) (omega arith)

  onto-more : (first more : List (Change A)) (n : ℕ) (r : Result (OutcomeState A) RefusedAt) → with_changes first (one_later (onto more n r)) ≡ onto (first ++ more) (suc n) r
  onto-more first more n (Ok left) = ap (λ (l : List (Change A)). Ok (record { database = left.database; changes = l })) (sym (append_assoc first more left.changes))
  onto-more first more n (Err refused) = ap (λ (at : ℕ). Err (record { at = at; why = refused.why })) (omega arith)

  and_then-on : (before : List (Change A)) (first : Result (Tables A) Refusal) (f g : Tables A → Result (OutcomeState A) RefusedAt) (rest : List (Op A)) (n : ℕ)
      → ((t : Tables A) (o : OutcomeState A) → f t ≡ Ok o → g t ≡ onto o.changes n (run o.database rest))
      → (o : OutcomeState A) → and_then before first f ≡ Ok o → and_then before first g ≡ onto o.changes (suc n) (run o.database rest)
  and_then-on before (Err why) f g rest n more o is = cc
  and_then-on before (Ok t) f g rest n more o is = inner (f t) refl is
    where
      inner : (r : Result (OutcomeState A) RefusedAt) → f t ≡ r → with_changes before (one_later r) ≡ Ok o → with_changes before (one_later (g t)) ≡ onto o.changes (suc n) (run o.database rest)
      inner (Err e) at is = cc
      inner (Ok left) at is =
          let same : record { database = left.database; changes = before ++ left.changes } ≡ o = cc in
          rw (more t left at, ← same) (onto-more before left.changes n (run left.database rest))

  -- more operations after accepted ones
  run-on : (tables : Tables A) (ops rest : List (Op A)) (o : OutcomeState A) → run tables ops ≡ Ok o → run tables (ops ++ rest) ≡ onto o.changes (length ops) (run o.database rest)
  run-on tables [] rest o is =
      let same : record { database = tables; changes = [] } ≡ o = cc in
      rw (← same) (onto-none (run tables rest))
  run-on tables (op ∷ ops) rest o is = and_then-on (changes tables op) (step tables op) (λ t. run t ops) (λ t. run t (ops ++ rest)) rest (length ops) (λ t left. run-on t ops rest left) o is

  -- one more accepted operation
  pub run-push : (tables : Tables A) (ops : List (Op A)) (op : Op A) (o : OutcomeState A) (next : Tables A) → run tables ops ≡ Ok o → step o.database op ≡ Ok next
      → run tables (ops ++ op ∷ []) ≡ Ok (record { database = next; changes = o.changes ++ changes o.database op })
  run-push tables ops op o next is s =
      run-on tables ops (op ∷ []) o is ∙ rw s (rw (append-nil (changes o.database op)))

  -- the first refused operation
  pub run-refused : (tables : Tables A) (ops : List (Op A)) (op : Op A) (rest : List (Op A)) (o : OutcomeState A) (why : Refusal) → run tables ops ≡ Ok o → step o.database op ≡ Err why → run tables (ops ++ op ∷ rest) ≡ Err (record { at = length ops; why = why })
  run-refused tables ops op rest o why is s =
      run-on tables ops (op ∷ rest) o is ∙ rw s (ap (λ (at : ℕ). Err (record { at = at; why = why })) (omega arith))

  -- ---- the operation at a place of the list

  module _ (tables : Tables A) (ops : List (Op A)) (i : ℕ) (op : Op A) (within : i < length ops) (at : op ≡ get_or ops i op) (o : OutcomeState A) (is : run tables (take i ops) ≡ Ok o) where
    cut : ops ≡ take i ops ++ op ∷ drop (suc i) ops
    cut = let parts = take-append-drop i ops in let back = drop-cons ops i op within in cc

    pub run-more : (next : Tables A) → step o.database op ≡ Ok next → run tables (take (i + 1) ops) ≡ Ok (record { database = next; changes = o.changes ++ changes o.database op })
    run-more next s = ap (run tables) (take_item ops i op within at) ∙ run-push tables (take i ops) op o next is s

    pub run-ends : (why : Refusal) → step o.database op ≡ Err why → run tables ops ≡ Err (record { at = i; why = why })
    run-ends why s =
        ap (run tables) cut ∙ run-refused tables (take i ops) op (drop (suc i) ops) o why is s
        ∙ ap (λ (at : ℕ). Err (record { at = at; why = why })) (length-take i ops ∙ omega arith)
