use Rattle.std.proofs.Common.{◌≡◌, ◌<◌, true, Option, None, List, [], ◌∷◌, length, arith, refl, sym, ◌∙◌}
use Rattle.std.specs.Option.{IsSome, is_some}
use Rattle.cap_session.proofs.attached.AttachedIterator.next.Goals as goal

nothing : {X Y : Type 0} (r : Option Y) (xs : List X) → (0 < length xs → IsSome r) → r ≡ None → xs ≡ []
nothing r [] some none = refl
nothing r (x ∷ xs) some none = let there : is_some r ≡ true = some (omega arith) in absurd cc

pub returns-in_err-first-clause-steps : goal.returns-in_err-first-clause-steps
returns-in_err-first-clause-steps g c =
    let empty : c.args.self.now ≡ [] = sym c.self.view_is ∙ nothing c.split_first.result c.self.inside.tables c.split_first.ensures.found.1 c.in_err-first.was in
    rw c.from_residual.ensures (empty, empty)
