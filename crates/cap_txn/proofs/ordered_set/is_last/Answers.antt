use Rattle.std.proofs.Common.{ap, sym, ◌∙◌}
use Rattle.std.specs.Ordering.{eq_by_cmp, is_eq}
use Rattle.cap_txn.proofs.OrderedSetLemmas.{any-last}
use Rattle.cap_txn.proofs.ordered_set.is_last.Goals as goal

pub returns : goal.returns
returns g c is =
    let p = eq_by_cmp g.K.Ord.cmp c.args.item.now in
    any-last p c.args.items.now c.index-items-items.result c.if-is_empty.ensures (sym (c.is_eq.ensures ∙ ap is_eq c.cmp.ensures ∙ ap p c.index-items-items.is) ∙ is)
