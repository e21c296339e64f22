use Rattle.std.proofs.Common.{sym, ◌∙◌}
use Rattle.cap_row.specs.Key.{fields_cmp, fields_cmp_total}
use Rattle.cap_tree.proofs.LeafLemmas.{past_last}
use Rattle.cap_session.proofs.records.is_above_tree.Goals as goal

pub returns-in-Greater : goal.returns-in-Greater
returns-in-Greater g c _ =
    past_last fields_cmp fields_cmp_total c.args.key.now c.args.tree.now (c.in-Some.last.now, c.in-Some.field-0-1.now) c.len-length.ensures.ordered c.in-Some.ensures.last
    (sym c.order.ensures.order ∙ c.in-Greater.is)
