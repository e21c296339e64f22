use Rattle.std.proofs.Common.{◌≡◌, ◌+◌, ◌<◌, ◌^◌, [], ◌++◌, length, arith, rules, refl, sym, ap, ◌∙◌}
use Rattle.std.proofs.lemmas.List.{append-nil, get_or_default}
use Rattle.std.specs.declared.cmp.Ordering.{Ordering}
use Rattle.cap_tree.specs.Subtree.{Subtree}
use Rattle.cap_tree.specs.Tree.{IsOrdered}
use Rattle.cap_tree.specs.Shape.{branches, IsFit}
use Rattle.cap_tree.specs.Cut.{AreNeighbours, merged}
use Rattle.cap_tree.proofs.SiblingLemmas.{cut_set, cut_insert, child_is, child_ordered, count_is, front_length, rearranged, two_instead, two_ready, way_in}
use Rattle.cap_tree.proofs.split.split_child.Goals as goal

-- a node with no items goes on behind each node of its height
beside : {K V : Type 0} (cmp : K → K → Ordering) (c e : Subtree K V) (k : K) → e ≡ record { entries = []; height = c.height; items = 0 } → length c.entries < 2 ^ 64 → IsOrdered cmp c.entries → AreNeighbours cmp c e k
beside cmp c e k is fits ordered = rw is (record { level = refl; fits = omega (arith, fits); ordered = rw append-nil ordered; below = λ some. absurd (omega arith); not_below = tt })

pub divide-requires : goal.divide-requires
divide-requires g c =
    let child = c.index_mut-child.result.now in
    let to = way_in g.K.Ord.cmp g.met.K.Ord.total c.args.height c.args.key.now (λ n. n ≡ 16) _ c.try_reserve.new.self.items c.args.at child c.in_ok-try_reserve.ensures.items c.requires.siblings c.requires.ready c.index_mut-child.ensures.value in
    let way = to.2 in
    let there = c.deref.ensures ∙ ap (λ p. p.node.value) (c.index.ensures ∙ get_or_default c.try_reserve.new.self.items c.args.at _ child to.0 ∙ sym c.index_mut-child.ensures.value) in
    let empty = rw there at (c.in_ok-node.ensures.ok ∙ c.in_ok-empty.ensures) in
    record {
      pair = beside g.K.Ord.cmp child.node.value _ child.least empty (omega (arith, to.1.fits, count_is g.K.Ord.cmp _ _ _ _ way.is)) (child_ordered g.K.Ord.cmp _ _ _ _ way.is to.1.ordered);
      share = record { most = omega (arith, c.requires.back); within = omega (arith, ap (λ n. n.items) empty, way.has, c.requires.back); back_most = omega (arith, ap (λ n. n.items) empty, way.has, c.requires.front) };
    }

pub unreachable-requires : goal.unreachable-requires
unreachable-requires g c =
    let child = c.index_mut-child.result.now in
    let to = way_in g.K.Ord.cmp g.met.K.Ord.total c.args.height c.args.key.now (λ n. n ≡ 16) _ c.try_reserve.new.self.items c.args.at child c.in_ok-try_reserve.ensures.items c.requires.siblings c.requires.ready c.index_mut-child.ensures.value in
    let way = to.2 in
    let there = c.deref.ensures ∙ ap (λ p. p.node.value) (c.index.ensures ∙ get_or_default c.try_reserve.new.self.items c.args.at _ child to.0 ∙ sym c.index_mut-child.ensures.value) in
    let empty = rw there at (c.in_ok-node.ensures.ok ∙ c.in_ok-empty.ensures) in
    let cut = rw c.in_default.is at c.in_ok-split.ensures.cut in
    absurd (omega (arith, cut.back_len, cut.parted, way.has, ap (λ n. n.items) empty, c.requires.back))

pub returns-in_err-split : goal.returns-in_err-split
returns-in_err-split g c =
    let child = c.index_mut-child.result.now in
    let to = way_in g.K.Ord.cmp g.met.K.Ord.total c.args.height c.args.key.now (λ n. n ≡ 16) _ c.try_reserve.new.self.items c.args.at child c.in_ok-try_reserve.ensures.items c.requires.siblings c.requires.ready c.index_mut-child.ensures.value in
    let way = to.2 in
    let kept = rw c.in_err-split.was at c.divide.ensures.err in
    let new = cut_set c.try_reserve.new.self.items c.args.at child record { least = child.least; node = c.divide.new.front } refl to.0 in
    record {
      same = rearranged g.K.Ord.cmp c.args.height _ _ (new ∙ rw kept (sym way.is) ∙ ap branches c.in_ok-try_reserve.ensures.items) c.requires.siblings;
      not_less = omega (arith, c.in_ok-try_reserve.ensures.len);
      one_more = omega (arith, c.in_ok-try_reserve.ensures.len);
      ready = search rules;
    }

pub returns : goal.returns
returns g c =
    let child = c.index_mut-child.result.now in
    let to = way_in g.K.Ord.cmp g.met.K.Ord.total c.args.height c.args.key.now (λ n. n ≡ 16) _ c.try_reserve.new.self.items c.args.at child c.in_ok-try_reserve.ensures.items c.requires.siblings c.requires.ready c.index_mut-child.ensures.value in
    let way = to.2 in
    let there = c.deref.ensures ∙ ap (λ p. p.node.value) (c.index.ensures ∙ get_or_default c.try_reserve.new.self.items c.args.at _ child to.0 ∙ sym c.index_mut-child.ensures.value) in
    let empty = rw there at (c.in_ok-node.ensures.ok ∙ c.in_ok-empty.ensures) in
    let e = c.in_ok-split.ensures in
    let cut = rw c.in-Some.is at e.cut in
    let whole = merged child.node.value c.in_ok-node.node.value in
    let x = c.divide.new.front.value in
    let y = c.divide.new.back.value in
    let level = (child_is g.K.Ord.cmp _ _ _ _ way.is c.args.height to.1.children).0 in
    let rest : y.items + c.args.cut ≡ 16 = omega (arith, cut.back_len, way.has, ap (λ n. n.items) empty) in
    let fit_x : IsFit x = (omega (arith, cut.len, c.requires.front), omega (arith, cut.len, c.requires.back), e.filled) in
    let fit_y : IsFit y = (omega (arith, rest, c.requires.back), omega (arith, rest), e.back_filled) in
    let entries = ap (λ n. child.node.value.entries ++ n.entries) empty in
    let new = ap branches c.insert_in_room.ensures.items ∙ cut_insert c.try_reserve.new.self.items c.args.at child record { least = child.least; node = c.divide.new.front } refl record { least = c.in-Some.least; node = c.divide.new.back } to.0 in
    let apart = two_instead g.K.Ord.cmp g.met.K.Ord.total c.args.height _ _ _ [] _ way.is to.1 _ whole x y c.in-Some.least cut level entries fit_x fit_y _ new in
    record {
      same = rw (← c.in_ok-try_reserve.ensures.items) apart;
      not_less = omega (arith, c.insert_in_room.ensures.len, c.in_ok-try_reserve.ensures.len);
      one_more = omega (arith, c.insert_in_room.ensures.len, c.in_ok-try_reserve.ensures.len);
      ready = two_ready g.K.Ord.cmp g.met.K.Ord.total c.args.height _ _ _ [] _ way.is to.1 _ whole x y c.in-Some.least cut level entries fit_x fit_y _ new (λ n. n < 16) c.args.at c.side_of-side.result (front_length c.try_reserve.new.self.items c.args.at to.0) c.args.key.now way.gap c.side_of-side.ensures.less c.side_of-side.ensures.not_less (omega (arith, cut.len, c.requires.back)) (omega (arith, rest, c.requires.front));
    }
