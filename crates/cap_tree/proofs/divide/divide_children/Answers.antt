use Rattle.std.proofs.Common.{◌<◌, length, arith}
use Rattle.cap_tree.specs.Shape.{branches, entries_of, EachBelow}
use Rattle.cap_tree.proofs.SiblingLemmas.{length_branches, cut_count, cut_front, cut_back, inner_cut}
use Rattle.cap_tree.proofs.divide.divide_children.Goals as goal

pub count_of-rest-requires : goal.count_of-rest-requires
count_of-rest-requires g c =
    let r = c.requires in
    let first = c.in_ok-rename_first.ensures in
    let ys = c.rename_first.new.children in
    let below : 0 < length (branches ys.items) → EachBelow g.K.Ord.cmp c.args.least.now (entries_of (branches c.args.front.now.items)) = λ some. r.pair.below (omega (arith, some, length_branches ys.items, first.len, ys.ok.0)) in
    let e = c.in_ok-next.ensures in
    let count = cut_count g.K.Ord.cmp g.met.K.Ord.total c.args.height _ _ _ c.args.front.now c.args.back.now ys.items r.front r.back first.same first.leasts below c.args.at c.cut_items.new.front c.cut_items.new.back e.front e.back in
    record { fits = rw c.as_slice.ensures.value (omega (arith, count, r.front.count, r.back.count, r.pair.fits)) }

pub overflow_sub-count : goal.overflow_sub-count
overflow_sub-count g c =
    let r = c.requires in
    let first = c.in_ok-rename_first.ensures in
    let ys = c.rename_first.new.children in
    let below : 0 < length (branches ys.items) → EachBelow g.K.Ord.cmp c.args.least.now (entries_of (branches c.args.front.now.items)) = λ some. r.pair.below (omega (arith, some, length_branches ys.items, first.len, ys.ok.0)) in
    let e = c.in_ok-next.ensures in
    let count = cut_count g.K.Ord.cmp g.met.K.Ord.total c.args.height _ _ _ c.args.front.now c.args.back.now ys.items r.front r.back first.same first.leasts below c.args.at c.cut_items.new.front c.cut_items.new.back e.front e.back in
    let rest = rw c.as_slice.ensures.value at c.count_of-rest.ensures in
    omega (arith, count, rest)

pub returns : goal.returns
returns g c =
    let r = c.requires in
    let first = c.in_ok-rename_first.ensures in
    let ys = c.rename_first.new.children in
    let below : 0 < length (branches ys.items) → EachBelow g.K.Ord.cmp c.args.least.now (entries_of (branches c.args.front.now.items)) = λ some. r.pair.below (omega (arith, some, length_branches ys.items, first.len, ys.ok.0)) in
    let e = c.in_ok-next.ensures in
    let count = cut_count g.K.Ord.cmp g.met.K.Ord.total c.args.height _ _ _ c.args.front.now c.args.back.now ys.items r.front r.back first.same first.leasts below c.args.at c.cut_items.new.front c.cut_items.new.back e.front e.back in
    let rest = rw c.as_slice.ensures.value at c.count_of-rest.ensures in
    record {
      front = cut_front g.K.Ord.cmp g.met.K.Ord.total c.args.height _ _ _ c.args.front.now c.args.back.now ys.items r.front r.back first.same first.leasts below c.args.at c.cut_items.new.front c.cut_items.new.back e.front e.back _ (omega (arith, count, rest)) (omega (arith, e.front_len, r.share.most));
      back = cut_back g.K.Ord.cmp g.met.K.Ord.total c.args.height _ _ _ c.args.front.now c.args.back.now ys.items r.front r.back first.same first.leasts below c.args.at c.cut_items.new.front c.cut_items.new.back e.front e.back _ rest (omega (arith, e.back_len, first.len, r.share.back_most));
      err = tt;
      back_err = tt;
      cut = inner_cut g.K.Ord.cmp g.met.K.Ord.total c.args.height _ _ _ c.args.front.now c.args.back.now ys.items r.front r.back first.same first.leasts below c.args.at c.cut_items.new.front c.cut_items.new.back e.front e.back e.front_len (omega (arith, e.back_len, first.len)) (omega (arith, ys.ok.0, first.len)) _ (rw first.len at e.key);
    }
