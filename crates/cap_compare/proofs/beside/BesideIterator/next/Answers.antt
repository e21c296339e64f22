use Rattle.std.proofs.Common.{arith, sym, ◌∙◌}
use Rattle.cap_compare.proofs.BesideLemmas.{passed_ordered, no_more, first_alone, second_alone, first_below, second_below, both_there}
use Rattle.cap_compare.proofs.beside.BesideIterator.next.Goals as goal

pub invariant_of-self : goal.invariant_of-self
invariant_of-self g c = (c.self.invariant.0, rw c.pass.ensures (passed_ordered g.K.Ord.cmp g.met.K.Ord.total c.self.inside.seconds c.self.invariant.1))

pub invariant_of-self-in-Some-None : goal.invariant_of-self-in-Some-None
invariant_of-self-in-Some-None g c = (rw c.pass-in-Some-None.ensures (passed_ordered g.K.Ord.cmp g.met.K.Ord.total c.self.inside.firsts c.self.invariant.0), c.self.invariant.1)

pub invariant_of-self-in-Less : goal.invariant_of-self-in-Less
invariant_of-self-in-Less g c = (rw c.pass-in-Less.ensures (passed_ordered g.K.Ord.cmp g.met.K.Ord.total c.self.inside.firsts c.self.invariant.0), c.self.invariant.1)

pub invariant_of-self-in-Equal : goal.invariant_of-self-in-Equal
invariant_of-self-in-Equal g c = (rw c.pass-in-Equal.ensures (passed_ordered g.K.Ord.cmp g.met.K.Ord.total c.self.inside.firsts c.self.invariant.0), rw c.pass-in-Equal-2.ensures (passed_ordered g.K.Ord.cmp g.met.K.Ord.total c.self.inside.seconds c.self.invariant.1))

pub invariant_of-self-in-Greater : goal.invariant_of-self-in-Greater
invariant_of-self-in-Greater g c = (c.self.invariant.0, rw c.pass-in-Greater.ensures (passed_ordered g.K.Ord.cmp g.met.K.Ord.total c.self.inside.seconds c.self.invariant.1))

pub returns-in-None-None-clause-steps : goal.returns-in-None-None-clause-steps
returns-in-None-None-clause-steps g c =
    let none = sym c.self.view_is ∙ no_more g.K.Ord.cmp g.met.K.Ord.total c.self.inside.firsts c.self.inside.seconds c.self.invariant c.in-None-None.ensures c.in-None-None.ensures' in
    (none, none)

pub returns-in-None-Some-clause-steps : goal.returns-in-None-Some-clause-steps
returns-in-None-Some-clause-steps g c = rw (← c.self.view_is, c.pass.ensures) (second_alone g.K.Ord.cmp g.met.K.Ord.total c.self.inside.firsts c.self.inside.seconds c.self.invariant _ (c.in-None-Some.ensures) (c.in-None-Some.ensures'))

pub returns-in-None-Some-clause-goes : goal.returns-in-None-Some-clause-goes
returns-in-None-Some-clause-goes g c = record { on = λ _. (tt, tt, rw (returns-in-None-Some-clause-steps g c) (omega arith)); keeps = tt; rests = λ _. tt }

pub returns-in-Some-None-clause-steps : goal.returns-in-Some-None-clause-steps
returns-in-Some-None-clause-steps g c = rw (← c.self.view_is, c.pass-in-Some-None.ensures) (first_alone g.K.Ord.cmp g.met.K.Ord.total c.self.inside.firsts c.self.inside.seconds c.self.invariant _ (c.in-Some-None.ensures) (c.in-Some-None.ensures'))

pub returns-in-Some-None-clause-goes : goal.returns-in-Some-None-clause-goes
returns-in-Some-None-clause-goes g c = record { on = λ _. (tt, tt, rw (returns-in-Some-None-clause-steps g c) (omega arith)); keeps = tt; rests = λ _. tt }

pub returns-in-Less-clause-steps : goal.returns-in-Less-clause-steps
returns-in-Less-clause-steps g c = rw (← c.self.view_is, c.pass-in-Less.ensures) (first_below g.K.Ord.cmp g.met.K.Ord.total c.self.inside.firsts c.self.inside.seconds c.self.invariant _ _ (c.in-Some-Some.ensures) (c.in-Some-Some.ensures') (sym (c.in-Less.ensures)))

pub returns-in-Less-clause-goes : goal.returns-in-Less-clause-goes
returns-in-Less-clause-goes g c = record { on = λ _. (tt, tt, rw (returns-in-Less-clause-steps g c) (omega arith)); keeps = tt; rests = λ _. tt }

pub returns-in-Equal-clause-steps : goal.returns-in-Equal-clause-steps
returns-in-Equal-clause-steps g c = rw (← c.self.view_is, c.pass-in-Equal.ensures, c.pass-in-Equal-2.ensures) (both_there g.K.Ord.cmp g.met.K.Ord.total c.self.inside.firsts c.self.inside.seconds c.self.invariant _ _ (c.in-Some-Some.ensures) (c.in-Some-Some.ensures') (sym (c.in-Equal.ensures)))

pub returns-in-Equal-clause-goes : goal.returns-in-Equal-clause-goes
returns-in-Equal-clause-goes g c = record { on = λ _. (tt, tt, rw (returns-in-Equal-clause-steps g c) (omega arith)); keeps = tt; rests = λ _. tt }

pub returns-in-Greater-clause-steps : goal.returns-in-Greater-clause-steps
returns-in-Greater-clause-steps g c = rw (← c.self.view_is, c.pass-in-Greater.ensures) (second_below g.K.Ord.cmp g.met.K.Ord.total c.self.inside.firsts c.self.inside.seconds c.self.invariant _ _ (c.in-Some-Some.ensures) (c.in-Some-Some.ensures') (sym (c.in-Greater.ensures)))

pub returns-in-Greater-clause-goes : goal.returns-in-Greater-clause-goes
returns-in-Greater-clause-goes g c = record { on = λ _. (tt, tt, rw (returns-in-Greater-clause-steps g c) (omega arith)); keeps = tt; rests = λ _. tt }
