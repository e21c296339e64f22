use Rattle.std.proofs.Common.{◌≡◌, ◌+◌, ◌<◌, ◌⊎◌, [], ◌∷◌, ◌++◌, arith, refl, sym, ap, subst, ◌∙◌}
use Rattle.std.proofs.lemmas.List.{append-nil}
use Rattle.cap_tree.specs.Shape.{branches, place, AreChildren, IsFit}
use Rattle.cap_tree.specs.Cut.{merged}
use Rattle.cap_tree.proofs.BranchLemmas.{gap_of_two, place_at, none_filled}
use Rattle.cap_tree.proofs.SiblingLemmas.{front_length, cut_two, cut_remove, cut_redo, child_is, child_fit, second, neighbours, rearranged, one_instead, two_instead, ready_at, two_ready}
use Rattle.cap_tree.proofs.rebalance.refill.Goals as goal

pub share_of-cut-requires : goal.share_of-cut-requires
share_of-cut-requires g c =
    let whole = cut_two c.args.children.now _ c.args.at _ _ c.requires.within c.remove-back.ensures.items c.index_mut-front.ensures.value c.remove-back.ensures.value in
    let a = c.len.ensures.value ∙ ap (λ n. n.items) c.deref.ensures in
    let b = c.len-2.ensures.value ∙ ap (λ n. n.items) c.deref-2.ensures in
    let own_d = child_fit g.K.Ord.cmp _ _ _ _ whole c.requires.siblings.fit in
    let own_e = child_fit g.K.Ord.cmp _ _ _ _ (second g.K.Ord.cmp _ _ _ _ _ whole) c.requires.siblings.fit in
    record { some = omega (arith, a, b, own_d.0, own_e.0); most = omega (arith, c.len.ensures.most, c.len-2.ensures.most) }

pub divide-requires : goal.divide-requires
divide-requires g c =
    let whole = cut_two c.args.children.now _ c.args.at _ _ c.requires.within c.remove-back.ensures.items c.index_mut-front.ensures.value c.remove-back.ensures.value in
    let a = c.len.ensures.value ∙ ap (λ n. n.items) c.deref.ensures in
    let b = c.len-2.ensures.value ∙ ap (λ n. n.items) c.deref-2.ensures in
    let share = c.share_of-cut.ensures in
    record {
      pair = neighbours g.K.Ord.cmp _ _ _ _ _ whole c.args.height c.requires.siblings;
      share = record { most = share.most; within = omega (arith, a, b, share.rest); back_most = omega (arith, a, b, share.back) };
    }

pub returns-in-Err : goal.returns-in-Err
returns-in-Err g c =
    let d = c.index_mut-front.result.now in
    let e = c.remove-back.result in
    let whole = cut_two c.args.children.now _ c.args.at d e c.requires.within c.remove-back.ensures.items c.index_mut-front.ensures.value c.remove-back.ensures.value in
    let kept = c.in-Err.ensures in
    let new = ap branches c.insert_in_room-in-Err.ensures.items ∙ cut_redo c.args.children.now _ c.args.at d e c.requires.within c.remove-back.ensures.items c.index_mut-front.ensures.value c.remove-back.ensures.value record { least = d.least; node = c.divide.new.front } refl record { least = e.least; node = c.divide.new.back } in
    record {
      same = rearranged g.K.Ord.cmp c.args.height _ _ (new ∙ rw (kept.err, kept.back_err) (sym whole)) c.requires.siblings;
      not_more = omega (arith, c.insert_in_room-in-Err.ensures.len, c.remove-back.ensures.len);
      one_less = omega (arith, c.insert_in_room-in-Err.ensures.len, c.remove-back.ensures.len);
      ready = tt;
    }

pub returns-in-Ok-None : goal.returns-in-Ok-None
returns-in-Ok-None g c =
    let d = c.index_mut-front.result.now in
    let e = c.remove-back.result in
    let whole = cut_two c.args.children.now _ c.args.at d e c.requires.within c.remove-back.ensures.items c.index_mut-front.ensures.value c.remove-back.ensures.value in
    let share = c.share_of-cut.ensures in
    let s = c.requires.siblings in
    let n = c.in-Ok-None.ensures in
    let cut = rw c.in-Ok-None.field-0-is at n.cut in
    let first = front_length c.args.children.now.items c.args.at (omega (arith, c.requires.within, c.args.children.now.ok.0)) in
    let x = c.divide.new.front.value in
    let level = (child_is g.K.Ord.cmp _ _ _ _ whole c.args.height s.children).0 in
    let fit_x : IsFit x = (omega (arith, cut.len, share.more), omega (arith, cut.len, share.most), n.filled) in
    let entries = sym (append-nil x.entries) ∙ ap (λ l. x.entries ++ l) (sym (none_filled c.divide.new.back.value cut.parted n.back_filled)) ∙ sym cut.entries ∙ ap (λ l. d.node.value.entries ++ l) (sym (append-nil e.node.value.entries)) in
    let new = cut_remove c.args.children.now _ c.args.at d e c.requires.within c.remove-back.ensures.items c.index_mut-front.ensures.value c.remove-back.ensures.value record { least = d.least; node = c.divide.new.front } refl in
    let gap = gap_of_two g.K.Ord.cmp g.met.K.Ord.total c.args.key.now c.args.height _ _ _ _ c.args.at (subst (AreChildren g.K.Ord.cmp c.args.height) whole s.children) (subst (λ l. (place g.K.Ord.cmp c.args.key.now l ≡ c.args.at + 1) ⊎ (place g.K.Ord.cmp c.args.key.now l ≡ c.args.at + 2)) whole c.requires.place) first in
    record {
      same = one_instead g.K.Ord.cmp g.met.K.Ord.total c.args.height _ _ _ (_ ∷ []) _ whole s x _ new (omega (arith, cut.height, level)) entries fit_x;
      not_more = omega (arith, c.remove-back.ensures.len);
      one_less = omega (arith, c.remove-back.ensures.len);
      ready = ready_at g.K.Ord.cmp _ _ _ (d.least, x) new (λ m. 4 < m) c.args.at first c.args.key.now (rw new (place_at g.K.Ord.cmp g.met.K.Ord.total c.args.key.now _ _ _ gap x _ ∙ omega (arith, first, gap.none))) (omega (arith, cut.len, share.more));
    }

pub returns-in-Ok-Some : goal.returns-in-Ok-Some
returns-in-Ok-Some g c =
    let d = c.index_mut-front.result.now in
    let e = c.remove-back.result in
    let whole = cut_two c.args.children.now _ c.args.at d e c.requires.within c.remove-back.ensures.items c.index_mut-front.ensures.value c.remove-back.ensures.value in
    let a = c.len.ensures.value ∙ ap (λ n. n.items) c.deref.ensures in
    let b = c.len-2.ensures.value ∙ ap (λ n. n.items) c.deref-2.ensures in
    let share = c.share_of-cut.ensures in
    let s = c.requires.siblings in
    let n = c.in-Ok-Some.ensures in
    let cut = rw c.in-Ok-Some.field-0-is at n.cut in
    let first = front_length c.args.children.now.items c.args.at (omega (arith, c.requires.within, c.args.children.now.ok.0)) in
    let x = c.divide.new.front.value in
    let y = c.divide.new.back.value in
    let level = (child_is g.K.Ord.cmp _ _ _ _ whole c.args.height s.children).0 in
    let fit_x : IsFit x = (omega (arith, cut.len, share.more), omega (arith, cut.len, share.most), n.filled) in
    let more : 4 < y.items = omega (arith, cut.back_len, cut.parted.0, share.rest, a, b) in
    let fit_y : IsFit y = (omega (arith, more), omega (arith, cut.back_len, share.back, a, b), n.back_filled) in
    let new = ap branches c.insert_in_room.ensures.items ∙ cut_redo c.args.children.now _ c.args.at d e c.requires.within c.remove-back.ensures.items c.index_mut-front.ensures.value c.remove-back.ensures.value record { least = d.least; node = c.divide.new.front } refl record { least = c.in-Ok-Some.least; node = c.divide.new.back } in
    let gap = gap_of_two g.K.Ord.cmp g.met.K.Ord.total c.args.key.now c.args.height _ _ _ _ c.args.at (subst (AreChildren g.K.Ord.cmp c.args.height) whole s.children) (subst (λ l. (place g.K.Ord.cmp c.args.key.now l ≡ c.args.at + 1) ⊎ (place g.K.Ord.cmp c.args.key.now l ≡ c.args.at + 2)) whole c.requires.place) first in
    let same = ap (λ l. d.node.value.entries ++ l) (sym (append-nil e.node.value.entries)) in
    record {
      same = two_instead g.K.Ord.cmp g.met.K.Ord.total c.args.height _ _ _ (_ ∷ []) _ whole s _ (merged d.node.value e.node.value) x y c.in-Ok-Some.least cut level same fit_x fit_y _ new;
      not_more = omega (arith, c.insert_in_room.ensures.len, c.remove-back.ensures.len);
      one_less = omega (arith, c.insert_in_room.ensures.len, c.remove-back.ensures.len);
      ready = two_ready g.K.Ord.cmp g.met.K.Ord.total c.args.height _ _ _ (_ ∷ []) _ whole s _ (merged d.node.value e.node.value) x y c.in-Ok-Some.least cut level same fit_x fit_y _ new (λ m. 4 < m) c.args.at c.side_of-side.result first c.args.key.now gap c.side_of-side.ensures.less c.side_of-side.ensures.not_less (omega (arith, cut.len, share.more)) more;
    }
