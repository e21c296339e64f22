use Rattle.std.proofs.Common.{◌≡◌, Some, ap, subst}
use Rattle.cap_table.specs.Table.{TableState}
use Rattle.cap_compare.specs.Compare.{AreDifferences}
use Rattle.cap_compare.proofs.CompareLemmas.{same_table}
use Rattle.cap_compare.proofs.comparison.compare.Goals as goal

pub returns-in_ok-found-in-Some-clause-just : goal.returns-in_ok-found-in-Some-clause-just
returns-in_ok-found-in-Some-clause-just g c = λ first is.
    let from = c.in-Some.from.now in
    let to = c.args.to.now in
    let rises = rw c.keyed-in-Some-2.ensures.rows at c.len.ensures.ordered in
    let other-rises = rw c.keyed-in-Some-3.ensures.rows at c.len-in-Some.ensures.ordered in
    let law = c.differences_are_just_those.ensures from.keyed to.keyed rises other-rises in
    let found = rw (c.keyed.ensures.rows, c.keyed-in-Some.ensures.rows) at c.in_ok-found-in-Some.ensures in
    subst (λ (t : TableState g.row.A.Denot). AreDifferences t.keyed to.keyed c.in_ok-found-in-Some.found.items) (same_table c.args.from c.in-Some.from first c.in-Some.is is) (rw found law)
