use Rattle.std.proofs.Common.{◌≡◌, ◌∷◌, [], ◌++◌, ◌+◌, List, length, false, sym, ap, subst, ◌∙◌, arith}
use Rattle.std.specs.List.{list_any}
use Rattle.std.specs.Ordering.{eq_by_cmp}
use Rattle.cap_txn.specs.OrderedSet.{AreKnown}
use Rattle.cap_txn.proofs.OrderedSetLemmas.{known-more}
use Rattle.cap_txn.proofs.ordered_set.OrderedSet.add.Goals as goal

pub invariant_of-self-2 : goal.invariant_of-self-2
invariant_of-self-2 g c =
    let cmp = g.K.Ord.cmp in
    let item = c.args.item.now in
    let items = c.self.inside.items.items in
    let none : list_any (eq_by_cmp cmp item) items ≡ false = ap (list_any (eq_by_cmp cmp item)) (sym c.as_slice.ensures.value) ∙ sym c.holds.ensures ∙ c.if-holds.false in
    let copies = c.in_ok-copies.copies in
    let same : copies.0 ≡ item = c.in_ok-copies.ensures.0 in
    let none_copy : list_any (eq_by_cmp cmp copies.0) items ≡ false = ap (λ k. list_any (eq_by_cmp cmp k) items) same ∙ none in
    let place : c.len-place.result ≡ 0 + length items = omega (arith, c.len-place.ensures) in
    let whole : c.push_reserved.new.self.items ≡ items ++ item ∷ [] = c.push_reserved.ensures.items ∙ ap (λ (l : List g.row.K.Denot). l ++ copies.1 ∷ []) c.in_ok-reserve.ensures.items
    ∙ ap (λ (k : g.row.K.Denot). items ++ k ∷ []) c.in_ok-copies.ensures.1 in
    rw whole (subst (λ k. AreKnown cmp c.insert.new.self 0 (items ++ k ∷ [])) same
    (known-more cmp g.met.K.Ord.total c.self.inside.places c.insert.new.self 0 c.len-place.result items copies.0 c.self.invariant none_copy c.in_ok-insert.ensures.updates place))
