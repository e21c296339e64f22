use Rattle.std.proofs.Common.{arith, refl, sym, ◌∙◌}
use Rattle.cap_tree.proofs.LeafLemmas.{put_less, put_equal, get_equal, get_less, put_end, get_end, past_all, take_equal}
use Rattle.cap_tree.proofs.EntryLemmas.{take_entry-absent}
use Rattle.cap_tree.proofs.leaf.search.Goals as goal

pub returns-in-Less-clause-put : goal.returns-in-Less-clause-put
returns-in-Less-clause-put g c v = put_less g.K.Ord.cmp _ v _ _ c.index-entries-at.result (omega arith) c.loop-at.invariant.past (sym c.cmp.ensures ∙ c.in-Less.is)

pub returns-in-Less-clause-get : goal.returns-in-Less-clause-get
returns-in-Less-clause-get g c = get_less g.K.Ord.cmp g.met.K.Ord.total _ _ _ c.index-entries-at.result c.requires (omega arith) c.loop-at.invariant.past (sym c.cmp.ensures ∙ c.in-Less.is)

pub returns-in-Equal-clause-put : goal.returns-in-Equal-clause-put
returns-in-Equal-clause-put g c v = put_equal g.K.Ord.cmp _ v _ _ c.index-entries-at.result (omega arith) c.loop-at.invariant.past (sym c.cmp.ensures ∙ c.in-Equal.is)

pub returns-in-Equal-clause-get : goal.returns-in-Equal-clause-get
returns-in-Equal-clause-get g c d = get_equal g.K.Ord.cmp _ _ _ d c.index-entries-at.result (omega arith) c.loop-at.invariant.past (sym c.cmp.ensures ∙ c.in-Equal.is)

pub returns-clause-put : goal.returns-clause-put
returns-clause-put g c v = put_end g.K.Ord.cmp _ v _ _ (omega arith) c.loop-at.invariant.past

pub returns-clause-get : goal.returns-clause-get
returns-clause-get g c = get_end g.K.Ord.cmp _ _ _ (omega arith) c.loop-at.invariant.past

pub returns-in-Less-clause-take : goal.returns-in-Less-clause-take
returns-in-Less-clause-take g c = take_entry-absent g.K.Ord.cmp _ _ (get_less g.K.Ord.cmp g.met.K.Ord.total _ _ _ c.index-entries-at.result c.requires (omega arith) c.loop-at.invariant.past (sym c.cmp.ensures ∙ c.in-Less.is))

pub returns-in-Equal-clause-take : goal.returns-in-Equal-clause-take
returns-in-Equal-clause-take g c = take_equal g.K.Ord.cmp _ _ _ c.index-entries-at.result (omega arith) c.loop-at.invariant.past (sym c.cmp.ensures ∙ c.in-Equal.is)

pub returns-clause-take : goal.returns-clause-take
returns-clause-take g c = take_entry-absent g.K.Ord.cmp _ _ (get_end g.K.Ord.cmp _ _ _ (omega arith) c.loop-at.invariant.past)

pub returns-then-is_past_last-clause-put : goal.returns-then-is_past_last-clause-put
returns-then-is_past_last-clause-put g c v = put_end g.K.Ord.cmp _ v _ _ refl (past_all g.K.Ord.cmp _ _ (c.is_past_last.ensures c.if-is_past_last.true))

pub returns-then-is_past_last-clause-get : goal.returns-then-is_past_last-clause-get
returns-then-is_past_last-clause-get g c = get_end g.K.Ord.cmp _ _ _ refl (past_all g.K.Ord.cmp _ _ (c.is_past_last.ensures c.if-is_past_last.true))

pub returns-then-is_past_last-clause-take : goal.returns-then-is_past_last-clause-take
returns-then-is_past_last-clause-take g c = take_entry-absent g.K.Ord.cmp _ _ (get_end g.K.Ord.cmp _ _ _ refl (past_all g.K.Ord.cmp _ _ (c.is_past_last.ensures c.if-is_past_last.true)))
