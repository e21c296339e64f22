use Rattle.std.proofs.Common.{◌≡◌, ◌+◌, ◌*◌, ◌<◌, ◌≤◌, ◌^◌, length, arith, rules, sym, ap, subst, ◌∙◌}
use Rattle.cap_tree.specs.Tree.{IsOrdered, get}
use Rattle.cap_tree.specs.Shape.{branches, entries_of, AreFit, IsFit, IsChild}
use Rattle.cap_tree.proofs.BranchLemmas.{fed, either_way, changes_of, changes_keeps, changes_there, children_there, get_there}
use Rattle.cap_tree.proofs.SiblingLemmas.{cut_set, child_is, child_fit, child_ordered, count_is, fit_set, way_to}
use Rattle.cap_tree.proofs.change.+change.Goals as goal

pub change_in_node-change_in_child-requires : goal.change_in_node-change_in_child-requires
change_in_node-change_in_child-requires g t c =
    let n = rw c.in-Inner.is at c.node.invariant in
    let view = rw c.in-Inner.is at c.node.view_is in
    let key = g.C.Change.key_of c.args.change in
    let next = g.C.Change.next_of c.args.change in
    let gain = g.C.Change.gain c.args.change in
    let loss = g.C.Change.loss c.args.change in
    let child = c.index_mut.result.now in
    let e = c.make_ready.ensures in
    let to = way_to g.K.Ord.cmp g.met.K.Ord.total c.in-Inner.height key (λ n. (n + gain ≤ 16) × (4 + loss ≤ n)) c.make_ready.new.children.items c.in_ok-at-in-Inner.at child e.same.children c.in_ok-at-in-Inner.ensures.ready c.index_mut.ensures.value in
    let way = to.1 in
    let entries : entries_of (branches c.make_ready.new.children.items) ≡ c.args.node.now.entries = e.same.entries ∙ ap (λ n. n.entries) view in
    let found : get g.K.Ord.cmp c.args.node.now.entries key ≡ get g.K.Ord.cmp child.node.value.entries key = ap (λ l. get g.K.Ord.cmp l key) (sym entries ∙ ap entries_of way.is) ∙ get_there g.K.Ord.cmp key g.met.K.Ord.total c.in-Inner.height _ _ _ way.children way.gap in
    let can : g.C.Change.can_make c.args.change (get g.K.Ord.cmp child.node.value.entries key) × g.H.Hook.can_ask c.args.hook.now (get g.K.Ord.cmp child.node.value.entries key) (next (get g.K.Ord.cmp child.node.value.entries key)) = rw (← found) (c.requires.can_make, c.requires.can_ask) in
    let ordered : IsOrdered g.K.Ord.cmp child.node.value.entries = child_ordered g.K.Ord.cmp _ _ _ _ way.is (rw entries c.requires.ordered) in
    let fit : IsFit child.node.value = child_fit g.K.Ord.cmp _ _ _ _ way.is e.same.fit in
    let room : child.node.value.items + gain ≤ 16 = way.has.0 in
    let spare : 4 + loss ≤ child.node.value.items = way.has.1 in
    let counted : length child.node.value.entries ≤ c.in-Inner.count = omega (arith, n.count, ap length e.same.entries, count_is g.K.Ord.cmp _ _ _ _ way.is) in
    let fits : c.in-Inner.count + gain < 2 ^ 64 = omega (arith, n.count, ap (λ n. length n.entries) view, c.requires.fits) in
    let level : 2 * child.node.value.height + 1 < 2 * c.args.node.now.height = omega (arith, (child_is g.K.Ord.cmp _ _ _ _ way.is c.in-Inner.height e.same.children).0, ap (λ n. n.height) view) in
    λ κs h. search rules

pub change_in_node-invariant_of-node-in-Inner : goal.change_in_node-invariant_of-node-in-Inner
change_in_node-invariant_of-node-in-Inner g t c =
    let n = rw c.in-Inner.is at c.node.invariant in
    let view = rw c.in-Inner.is at c.node.view_is in
    let key = g.C.Change.key_of c.args.change in
    let next = g.C.Change.next_of c.args.change in
    let child = c.index_mut.result.now in
    let e = c.make_ready.ensures in
    let to = way_to g.K.Ord.cmp g.met.K.Ord.total c.in-Inner.height key _ c.make_ready.new.children.items c.in_ok-at-in-Inner.at child e.same.children c.in_ok-at-in-Inner.ensures.ready c.index_mut.ensures.value in
    let way = to.1 in
    let x = c.change_in_child.new.child in
    let w = c.change_in_child.ensures in
    let new = cut_set c.make_ready.new.children.items c.in_ok-at-in-Inner.at child x w.least to.0 in
    let level = (child_is g.K.Ord.cmp _ _ _ _ way.is c.in-Inner.height e.same.children).0 in
    let subtree : IsChild c.in-Inner.height x.node.value = (omega (arith, level, w.height), fed x.node.value (omega (arith, w.fit.0)) w.fit.2) in
    record {
      high = n.high;
      most = omega (arith, ap (λ n. n.items) view, c.requires.room, e.most);
      children = rw new (children_there g.K.Ord.cmp key g.met.K.Ord.total c.in-Inner.height _ _ _ way.children way.gap x.node.value subtree (changes_keeps g.K.Ord.cmp g.H.Hook.gives key next c.args.hook.now c.change_in_child.new.hook g.met.K.Ord.total c.change_in_child.result child.node.value.entries x.node.value.entries w.changes));
      fit = rw new (fit_set _ _ _ x.node.value (subst AreFit way.is e.same.fit) w.fit);
      count = omega (arith, w.count, n.count, ap length e.same.entries, count_is g.K.Ord.cmp _ _ _ _ way.is, count_is g.K.Ord.cmp _ _ _ (child.least, x.node.value) new);
    }

pub change_in_node-returns-in-Inner : goal.change_in_node-returns-in-Inner
change_in_node-returns-in-Inner g t c =
    let view = rw c.in-Inner.is at c.node.view_is in
    let key = g.C.Change.key_of c.args.change in
    let next = g.C.Change.next_of c.args.change in
    let child = c.index_mut.result.now in
    let e = c.make_ready.ensures in
    let to = way_to g.K.Ord.cmp g.met.K.Ord.total c.in-Inner.height key _ c.make_ready.new.children.items c.in_ok-at-in-Inner.at child e.same.children c.in_ok-at-in-Inner.ensures.ready c.index_mut.ensures.value in
    let way = to.1 in
    let x = c.change_in_child.new.child in
    let w = c.change_in_child.ensures in
    let new = cut_set c.make_ready.new.children.items c.in_ok-at-in-Inner.at child x w.least to.0 in
    record {
      changes = changes_of g.K.Ord.cmp g.H.Hook.gives key next c.args.hook.now c.change_in_child.new.hook c.change_in_child.result _ _ _ _ (ap entries_of (sym way.is) ∙ e.same.entries ∙ ap (λ n. n.entries) view) (ap entries_of (sym new)) (changes_there g.K.Ord.cmp g.H.Hook.gives key next c.args.hook.now c.change_in_child.new.hook g.met.K.Ord.total c.in-Inner.height _ _ _ way.children way.gap x.node.value c.change_in_child.result w.changes);
      height = ap (λ n. n.height) view;
      least = omega (arith, ap (λ n. n.items) view, e.least);
      fits = omega (arith, w.fits, ap (λ n. length n.entries) view, ap length e.same.entries, count_is g.K.Ord.cmp _ _ _ _ way.is, count_is g.K.Ord.cmp _ _ _ (child.least, x.node.value) new);
    }

pub change_in_node-invariant_of-node : goal.change_in_node-invariant_of-node
change_in_node-invariant_of-node g t c =
    let view = rw c.in-Leaf.is at c.node.view_is in
    omega (arith, c.make_in_leaf.ensures.most, c.requires.room, ap (λ n. n.items) view)

pub change_in_child-overflow_add-count : goal.change_in_child-overflow_add-count
change_in_child-overflow_add-count g t c =
    let same = ap (λ n. length n.entries) (either_way c.in_ok-subtree.ensures.value) in
    omega (arith, c.count-before.ensures, c.count.ensures, same, c.requires.counted, c.requires.fits, c.change_in_node-answer.ensures.fits)
