use Rattle.std.proofs.Common.{◌≡◌, false, Option, Some, None, refl, sym, ap, subst, ◌∙◌}
use Rattle.std.specs.Prelude.{is_some}
use Rattle.cap_applier.specs.Applier.{IsAtEnd, met}
use Rattle.cap_applier.proofs.applier.Applier.finish.Goals as goal

none_is : {X : Type 0} (o : Option X) → is_some o ≡ false → o ≡ None
none_is None e = refl
none_is (Some x) e = cc

pub returns-clause-end : goal.returns-clause-end
returns-clause-end g c =
    let test : is_some c.self.inside.found ≡ false = sym c.is_some.ensures ∙ c.if-is_some.false in
    let none = none_is c.self.inside.found test in
    (ap met (sym c.self.view_is) ∙ sym c.self.invariant.0 ∙ none, subst IsAtEnd c.self.view_is (c.self.invariant.1 none))
