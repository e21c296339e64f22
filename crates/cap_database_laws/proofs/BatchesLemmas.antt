-- Batches one after another, and the operations of the accepted ones.
use Rattle.std.proofs.Common.{◌≡◌, Result, Ok, Err, List, [], ◌∷◌, ◌++◌, refl, sym, ap, subst, ◌∙◌, append_assoc, arith, ◌+◌}
use Rattle.cap_database_laws.specs.Batches.{accepted_ops, batches_left}
use Rattle.cap_database.specs.Operation.{changes, run, and_then, one_later, step, with_changes}
use Rattle.cap_database.specs.Outcome.{OutcomeState}
use Rattle.cap_database.specs.Tables.{Tables}
use Rattle.cap_database.specs.declared.op.Op.{Op}
use Rattle.cap_database.specs.declared.refused_at.RefusedAt.{RefusedAt}
use Rattle.cap_value.specs.declared.refusal.Refusal.{Refusal}
use Rattle.cap_database_laws.specs.Front.{IsFirstRefused}
use Rattle.cap_database.proofs.RunLemmas.{run-push, run-refused}
use Rattle.cap_database.proofs.StayLemmas.{run-carries}

module _ {A : Type 0} where
  -- an outcome after another
  abbrev Joined : OutcomeState A → OutcomeState A → OutcomeState A
  Joined left more = record { database = more.database; changes = left.changes ++ more.changes }

  -- accepted operations after accepted ones
  run-append : (tables : Tables A) (ops rest : List (Op A)) (left more : OutcomeState A) → run tables ops ≡ Ok left → run left.database rest ≡ Ok more → run tables (ops ++ rest) ≡ Ok (Joined left more)
  run-append tables [] rest left more is ran =
      let same : record { database = tables; changes = [] } ≡ left = cc in
      let there = subst (λ (o : OutcomeState A). run o.database rest ≡ Ok more) (sym same) ran in
      there ∙ ap (λ (o : OutcomeState A). Ok (Joined o more)) same
  run-append tables (op ∷ ops) rest left more is ran =
      let joined = λ (next : Tables A) (o : OutcomeState A). run-append next ops rest o more in
      grind (arith, append_assoc, joined, is, ran)

  pub batches-run : (tables : Tables A) (batches : List (List (Op A))) → run tables (accepted_ops tables batches) ≡ Ok (batches_left tables batches)
  batches-run tables [] = refl
  batches-run tables (batch ∷ batches) =
      let others = λ (next : Tables A). batches-run next batches in
      let joined = λ (first : OutcomeState A). run-append tables batch (accepted_ops first.database batches) first (batches_left first.database batches) in
      grind (arith, others, joined)

pub ruleset batches_accepted = (batches-run)

-- ---- the operations in front of a refused one

module _ {A : Type 0} where
  -- one more operation in front, which is accepted
  more_front : (tables next : Tables A) (op : Op A) (ops : List (Op A)) (e refused : RefusedAt) → step tables op ≡ Ok next → record { at = e.at + 1; why = e.why } ≡ refused → IsFirstRefused next ops e → IsFirstRefused tables (op ∷ ops) refused
  more_front tables next op ops e refused is same rest = record {
    front = op ∷ rest.front;
    op = rest.op;
    back = rest.back;
    left = record { database = rest.left.database; changes = changes tables op ++ rest.left.changes };
    parts = ap (λ (l : List (Op A)). op ∷ l) rest.parts;
    place = ap (λ (r : RefusedAt). r.at) (sym same) ∙ omega (arith, rest.place);
    accepted = grind (arith, is, rest.accepted);
    refuses = rest.refuses ∙ ap (λ (r : RefusedAt). Err r.why) same;
  }

  -- with the operations after the first one
  first_of : (tables : Tables A) (op : Op A) (ops : List (Op A)) (refused : RefusedAt) → ((next : Tables A) (e : RefusedAt) → run next ops ≡ Err e → IsFirstRefused next ops e) → (r : Result (Tables A) Refusal) → step tables op ≡ r
      → and_then (changes tables op) r (λ next. run next ops) ≡ Err refused → IsFirstRefused tables (op ∷ ops) refused
  first_of tables op ops refused rest (Err why) s is =
      record { front = []; op = op; back = ops; left = record { database = tables; changes = [] }; parts = refl; place = grind (arith, is); accepted = refl; refuses = grind (arith, s, is) }
  first_of tables op ops refused rest (Ok next) s is = later (run next ops) refl is
    where
      later : (r : Result (OutcomeState A) RefusedAt) → run next ops ≡ r → with_changes (changes tables op) (one_later r) ≡ Err refused → IsFirstRefused tables (op ∷ ops) refused
      later (Ok left) ran e = cc
      later (Err e) ran is = more_front tables next op ops e refused s (cc) (rest next e ran)

  pub first_refused : (tables : Tables A) (ops : List (Op A)) (refused : RefusedAt) → run tables ops ≡ Err refused → IsFirstRefused tables ops refused
  first_refused tables [] refused is = cc
  first_refused tables (op ∷ ops) refused is = first_of tables op ops refused (λ next e. first_refused next ops e) (step tables op) refl is

-- lists of operations, one more at a time
pub ruleset run_laws = (run-push, run-refused, run-carries)
