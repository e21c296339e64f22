use Rattle.std.proofs.Common.{arith}
use Rattle.std.specs.Prelude.{IfSome, IsTrue}
use Rattle.std.proofs.lemmas.Grind.{common_steps}
use Rattle.cap_group.proofs.ValueLemmas.{keeps_values}
use Rattle.cap_group.proofs.together.Together.add.Given.{Over}
use Rattle.cap_group.proofs.together.Together.add.Goals as goal

made : (g : Over) (c : goal.After-swap g) →
    IfSome (g.C.Combine.combined c.self.inside.flags.now c.of-present.result c.args.added.now) (λ change. IsTrue (g.C.Entry.fits_in c.self.inside.flags.now change) × g.C.Entry.has_values change)
made g c =
    let some : IsTrue c.self.inside.some = grind (arith, c.if-not-self.false) in
    let values : g.C.Entry.has_values c.of-present.result = rw (c.of-present.ensures, c.either.ensures, c.deref.ensures.value) (c.self.invariant some).values in
    keeps_values g.C.Entry.fits_in g.C.Combine.key g.C.Entry.has_values g.C.Combine.combined c.keeps_row.ensures c.self.inside.flags.now c.of-present.result c.args.added.now
    (grind (arith, common_steps)) (grind (arith, common_steps)) values c.as_bytes-only.ensures.values

pub invariant_of-self-2 : goal.invariant_of-self-2
invariant_of-self-2 g c = grind (arith, common_steps, made g c, g.met.C.Combine.stored_again)

pub returns : goal.returns
returns g c = grind (arith, common_steps, made g c, g.met.C.Combine.stored_again)
