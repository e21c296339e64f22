use Rattle.std.proofs.Common.{sym, ap, ◌∙◌, arith, inr}
use Rattle.std.specs.Ordering.{eq_by_cmp, is_eq}
use Rattle.cap_txn.proofs.OrderedSetLemmas.{at-there, none-there, outside-there}
use Rattle.cap_txn.proofs.ordered_set.holds.Goals as goal

pub returns-then-is_last : goal.returns-then-is_last
returns-then-is_last g c = sym (c.is_last.ensures c.if-is_last.true)

pub returns-in_default : goal.returns-in_default
returns-in_default g c = sym (none-there g.K.Ord.cmp g.met.K.Ord.total c.args.places.now 0 c.args.items.now c.args.item.now c.requires (sym c.in_default.ensures))

pub returns-then-place-items : goal.returns-then-place-items
returns-then-place-items g c =
    sym (outside-there g.K.Ord.cmp g.met.K.Ord.total c.args.places.now 0 c.in-Some.place.now c.args.items.now c.args.item.now c.requires (sym c.in-Some.ensures) (inr (omega arith)))

pub returns : goal.returns
returns g c =
    let cmp = g.K.Ord.cmp in
    let item = c.args.item.now in
    let there = at-there cmp g.met.K.Ord.total c.args.places.now 0 c.in-Some.place.now c.args.items.now c.in-Some.place.now item c.index-items-place.result c.requires (sym c.in-Some.ensures) (omega arith) (omega arith) in
    c.is_eq.ensures ∙ ap is_eq c.cmp.ensures ∙ ap (eq_by_cmp cmp item) c.index-items-place.is ∙ sym there
