use Rattle.std.proofs.Common.{◌≡◌, ◌≢◌, arith, refl, sym, ◌∙◌}
use Rattle.std.specs.declared.cmp.Ordering.TheVariants.{Less, Greater}
use Rattle.cap_tree.specs.Shape.{branches, entries_of}
use Rattle.cap_tree.proofs.EntryLemmas.{each_turn}
use Rattle.cap_tree.proofs.BranchLemmas.{below_children, below_entries, less_not_greater}
use Rattle.cap_tree.proofs.SiblingLemmas.{rearranged, ready_fit}
use Rattle.cap_tree.proofs.child.child_index_for.Goals as goal

pub rename_first-requires : goal.rename_first-requires
rename_first-requires g c =
    let s = c.requires.siblings in
    let ps = branches c.args.children.now.items in
    let key = c.args.key.now in
    let cmp = g.K.Ord.cmp in
    let total = g.met.K.Ord.total in
    let count = rw c.as_slice.ensures.value at (c.count_up_to-at.ensures.place c.args.height (rw c.as_slice.ensures.value s.children)) in
    let below = below_entries cmp total key c.args.height ps s.children (below_children cmp total key c.args.height ps s.children (sym count ∙ c.if-at-eq0.true)) in
    record { children = s.children; fit = s.fit; not_below = each_turn cmp (λ y. cmp key y ≡ Less) (λ y. cmp key y ≢ Greater) (λ y. less_not_greater cmp total key y) (entries_of ps) below }

pub returns : goal.returns
returns g c =
    let s = c.requires.siblings in
    let items = c.args.children.now.items in
    let count = rw c.as_slice.ensures.value at (c.count_up_to-at.ensures.place c.args.height (rw c.as_slice.ensures.value s.children)) in
    record {
      len = refl;
      same = rearranged g.K.Ord.cmp c.args.height _ _ refl s;
      ready = ready_fit g.K.Ord.cmp g.met.K.Ord.total c.args.key.now (branches items) _ (omega (arith, count, c.if-at-eq0.false)) s.fit;
    }
