use Rattle.std.proofs.Common.{arith, sym, ap, ◌∙◌}
use Rattle.std.specs.Prelude.{is_some}
use Rattle.std.proofs.lemmas.Cmp.{nat_list_cmp_total}
use Rattle.cap_value.specs.Bytes.{bytes_cmp, bytes_cmp-Equal}
use Rattle.cap_tree.proofs.LeafLemmas.{put_less, get_equal, get_less, put_end, get_end}
use Rattle.cap_database.proofs.StepLemmas.{put_named}
use Rattle.cap_database.proofs.place.place_of.Goals as goal

pub returns-in-Less-clause-put : goal.returns-in-Less-clause-put
returns-in-Less-clause-put g c v = put_less bytes_cmp _ v _ _ c.index-tables-at.result (omega arith) c.loop-at.invariant.past (sym c.order.ensures.order ∙ c.in-Less.is)

pub returns-in-Less-clause-get : goal.returns-in-Less-clause-get
returns-in-Less-clause-get g c = get_less bytes_cmp nat_list_cmp_total _ _ _ c.index-tables-at.result c.requires (omega arith) c.loop-at.invariant.past (sym c.order.ensures.order ∙ c.in-Less.is)

pub returns-in-Equal-clause-put : goal.returns-in-Equal-clause-put
returns-in-Equal-clause-put g c d v = put_named bytes_cmp (λ x y. (bytes_cmp-Equal x y).0) _ v _ _ d c.index-tables-at.result (omega arith) c.loop-at.invariant.past (sym c.order.ensures.order ∙ c.in-Equal.is)

pub returns-in-Equal-clause-get : goal.returns-in-Equal-clause-get
returns-in-Equal-clause-get g c d = get_equal bytes_cmp _ _ _ d c.index-tables-at.result (omega arith) c.loop-at.invariant.past (sym c.order.ensures.order ∙ c.in-Equal.is)

pub returns-clause-put : goal.returns-clause-put
returns-clause-put g c v = put_end bytes_cmp _ v _ _ (omega arith) c.loop-at.invariant.past

pub returns-clause-get : goal.returns-clause-get
returns-clause-get g c = get_end bytes_cmp _ _ _ (omega arith) c.loop-at.invariant.past

pub returns-in-Less-clause-there : goal.returns-in-Less-clause-there
returns-in-Less-clause-there g c = ap is_some (get_less bytes_cmp nat_list_cmp_total _ _ _ c.index-tables-at.result c.requires (omega arith) c.loop-at.invariant.past (sym c.order.ensures.order ∙ c.in-Less.is))

pub returns-in-Equal-clause-there : goal.returns-in-Equal-clause-there
returns-in-Equal-clause-there g c = ap is_some (get_equal bytes_cmp _ _ _ c.index-tables-at.result c.index-tables-at.result (omega arith) c.loop-at.invariant.past (sym c.order.ensures.order ∙ c.in-Equal.is))

pub returns-clause-there : goal.returns-clause-there
returns-clause-there g c = ap is_some (get_end bytes_cmp c.args.name.now c.args.tables.now _ (omega arith) c.loop-at.invariant.past)
