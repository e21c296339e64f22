use Rattle.std.proofs.Common.{◌≡◌, [], ◌∷◌, ◌++◌, Some, true, false, get_or, ap, arith, sym, ◌∙◌}
use Rattle.cap_row.specs.Schema.{flags_eq}
use Rattle.cap_group.specs.Grown.{before}
use Rattle.cap_group.proofs.GroupLemmas.{group_put, group_refused_at}
use Rattle.cap_group.proofs.GrownLemmas.{before_last, cut_set}
use Rattle.cap_group.proofs.tables.push_at.Goals as goal

pub returns-in_ok-push_changes-clause-content : goal.returns-in_ok-push_changes-clause-content
returns-in_ok-push_changes-clause-content g c =
    let first = get_or c.args.tables.now c.args.index c.index-tables-index.result in
    let same : flags_eq first.schema c.args.group.now.schema ≡ true = rw (c.schema.ensures.schema, c.schema-2.ensures.schema) at (sym c.eq.ensures ∙ c.if-eq.true) in
    group_put g.C.Combine.key g.C.Combine.combined c.args.place c.args.tables.now c.args.index c.index-tables-index.result c.push_changes.new.table c.args.group.now c.requires.at same c.in_ok-push_changes.ensures.changes

pub returns-else-eq-clause-content : goal.returns-else-eq-clause-content
returns-else-eq-clause-content g c =
    let first = get_or c.args.tables.now c.args.index c.index-tables-index.result in
    let other : flags_eq first.schema c.args.group.now.schema ≡ false = rw (c.schema.ensures.schema, c.schema-2.ensures.schema) at (sym c.eq.ensures ∙ c.if-eq.false) in
    group_refused_at g.C.Combine.key g.C.Combine.combined c.args.place c.args.tables.now c.args.index c.index-tables-index.result c.args.group.now c.requires.at other

pub returns-in_err-push_changes-clause-steps : goal.returns-in_err-push_changes-clause-steps
returns-in_err-push_changes-clause-steps g c =
    let put : c.push.new.self.items ≡ c.args.steps.now.items ++ (c.args.index, Some c.len.result) ∷ [] = grind (arith, c.push.ensures.items, c.is_err.ensures.value, c.if-is_err.false) in
    rw (put, c.len.ensures, c.changes.ensures.changes, before_last) (ap (before c.args.steps.now.items) (cut_set c.args.tables.now c.args.index c.push_changes.new.table c.index-tables-index.result c.requires.within c.push_changes.ensures.grown))

pub returns-in_ok-push_changes-clause-steps : goal.returns-in_ok-push_changes-clause-steps
returns-in_ok-push_changes-clause-steps g c =
    let put : c.push.new.self.items ≡ c.args.steps.now.items ++ (c.args.index, Some c.len.result) ∷ [] = grind (arith, c.push.ensures.items, c.is_err.ensures.value, c.if-is_err.false) in
    rw (put, c.len.ensures, c.changes.ensures.changes, before_last) (ap (before c.args.steps.now.items) (cut_set c.args.tables.now c.args.index c.push_changes.new.table c.index-tables-index.result c.requires.within c.push_changes.ensures.grown))
