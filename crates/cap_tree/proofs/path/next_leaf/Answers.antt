use Rattle.std.proofs.Common.{◌-◌, length, sym, subst, ◌∙◌, lit<}
use Rattle.cap_tree.specs.Path.{FitInto}
use Rattle.cap_tree.proofs.PathLemmas.{down_room, down_path, down_fits, next_path, next_none, next_pending}
use Rattle.cap_tree.proofs.path.next_leaf.Goals as goal

pub push-requires : goal.push-requires
push-requires g c =
    let path = c.pop.new.self.items in
    let back = next_path path _ c.in-Some.children c.in-Some.ensures.items c.loop-children.invariant.path in
    (lit< tt, down_room path c.in-Some-split_first.child.now c.in-Some-split_first.rest (subst (FitInto (32 - length path)) c.in-Some-split_first.ensures.cases.0 back.1))

pub descend-requires : goal.descend-requires
descend-requires g c =
    let path = c.pop.new.self.items in
    let back = next_path path _ c.in-Some.children c.in-Some.ensures.items c.loop-children.invariant.path in
    let fit = subst (FitInto (32 - length path)) c.in-Some-split_first.ensures.cases.0 back.1 in
    (lit< tt, (rw c.push.ensures.items (down_path path c.in-Some-split_first.child.now c.in-Some-split_first.rest fit back.0), rw (c.push.ensures.items, c.deref.ensures) (down_fits path c.in-Some-split_first.child.now c.in-Some-split_first.rest fit)))

pub returns-in-Some-split_first-clause-gives : goal.returns-in-Some-split_first-clause-gives
returns-in-Some-split_first-clause-gives g c =
    let path = c.pop.new.self.items in
    let is = c.in-Some-split_first.ensures.cases.0 in
    let i = c.loop-children.invariant in
    let fit = subst (FitInto (32 - length path)) is (next_path path _ c.in-Some.children c.in-Some.ensures.items i.path).1 in
    let whole = next_pending path _ c.in-Some.children c.in-Some.ensures.items c.in-Some-split_first.child.now c.in-Some-split_first.rest is in
    (sym i.pending ∙ sym whole ∙ sym (rw (c.push.ensures.items, c.deref.ensures) at c.descend.ensures.pending), (rw c.deref.ensures at c.descend.ensures.some) fit.0.0)

pub loop-children-preserved : goal.loop-children-preserved
loop-children-preserved g c =
    let i = c.loop-children.invariant in
    record {
      path = (next_path c.pop.new.self.items _ c.in-Some.children c.in-Some.ensures.items i.path).0;
      pending = next_none c.pop.new.self.items _ c.in-Some.children c.in-Some.ensures.items c.in_default-split_first.ensures.cases ∙ i.pending;
    }
