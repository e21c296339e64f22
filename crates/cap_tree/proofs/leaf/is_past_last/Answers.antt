use Rattle.std.proofs.Common.{sym, ◌∙◌}
use Rattle.cap_tree.proofs.LeafLemmas.{past_last}
use Rattle.cap_tree.proofs.leaf.is_past_last.Goals as goal

pub returns-in-Greater : goal.returns-in-Greater
returns-in-Greater g c _ = past_last g.K.Ord.cmp g.met.K.Ord.total c.args.key.now c.args.entries.now c.in-Some.last.now c.requires (sym c.in-Some.ensures.value) (sym c.cmp.ensures ∙ c.in-Greater.is)
