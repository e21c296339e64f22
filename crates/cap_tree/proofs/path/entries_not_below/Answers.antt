use Rattle.std.proofs.Common.{◌∷◌, [], sym, ◌∙◌}
use Rattle.cap_tree.proofs.EntryLemmas.{ordered_back, entries_from-past, entries_from-here}
use Rattle.cap_tree.proofs.path.entries_not_below.Goals as goal

pub loop-entry-preserved : goal.loop-entry-preserved
loop-entry-preserved g c =
    let is = c.in-Some.ensures.cases.0 in
    let i = c.loop-entry.invariant in
    record {
      ordered = ordered_back g.K.Ord.cmp [] c.in-Some.entry.now c.in-Some.others.now (rw is at i.ordered);
      same = i.same ∙ rw is (entries_from-past g.K.Ord.cmp c.args.key.now (c.in-Some.entry.now ∷ []) c.in-Some.others.now (sym c.cmp.ensures ∙ c.in-Greater.is, tt));
    }

pub returns-in-Less : goal.returns-in-Less
returns-in-Less g c =
    let is = c.in-Some.ensures.cases.0 in
    let i = c.loop-entry.invariant in
    sym (i.same ∙ rw is (entries_from-here g.K.Ord.cmp g.met.K.Ord.total c.args.key.now c.in-Some.entry.now c.in-Some.others.now (rw is at i.ordered) (rw c.cmp.ensures at c.in-Less.is)))
