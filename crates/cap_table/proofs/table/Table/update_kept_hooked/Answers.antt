use Rattle.std.proofs.Common.{Ok, Err, refl, rules, sym, ◌∙◌}
use Rattle.cap_table.specs.declared.row_ref.RowRef.TheVariants.{Key}
use Rattle.cap_table.proofs.KeptKeyLemmas.{allowed, leaves, next_rows-stand, updated_to}
use Rattle.cap_table.proofs.TableLemmas.{found-wide}
use Rattle.cap_table.proofs.table.Table.update_kept_hooked.Goals as goal

pub modify_hooked-requires-clause-can_modify : goal.modify_hooked-requires-clause-can_modify
modify_hooked-requires-clause-can_modify g c = λ row there. sym (found-wide _ (Key c.args.key.now) row c.self.invariant there)

pub modify_hooked-requires-clause-can_ask : goal.modify_hooked-requires-clause-can_ask
modify_hooked-requires-clause-can_ask g c =
    let is = updated_to _ c.args.key.now c.args.fields.now (rw (← c.width.ensures.columns) (sym c.are_columns.ensures ∙ c.if-not-are_columns.false)) (rw (← c.self.view_is) at c.requires.kept) c.self.invariant in
    let can = rw (← c.self.view_is) at c.requires.can_ask in
    λ there. can _ (allowed is there)

pub invariant_of-self : goal.invariant_of-self
invariant_of-self g c = rw c.in-Ok.ensures.ok (next_rows-stand _ c.args.key.now c.args.fields.now (rw (← c.self.view_is) at c.requires.kept) c.self.invariant)

pub returns-in-Ok-clause-table : goal.returns-in-Ok-clause-table
returns-in-Ok-clause-table g c =
    let is = updated_to _ c.args.key.now c.args.fields.now (rw (← c.width.ensures.columns) (sym c.are_columns.ensures ∙ c.if-not-are_columns.false)) (rw (← c.self.view_is) at c.requires.kept) c.self.invariant in
    let all = leaves _ (Ok tt) _ _ is c.in-Ok.ensures.allowed.1 refl (λ same. same) (λ a told. told) in
    let name = c.in-Ok.ensures.allowed.0 in
    rw (← c.self.view_is, c.in-Ok.ensures.ok) (all.0, search rules)

pub returns-in-Err-Refused-clause-table : goal.returns-in-Err-Refused-clause-table
returns-in-Err-Refused-clause-table g c =
    let is = updated_to _ c.args.key.now c.args.fields.now (rw (← c.width.ensures.columns) (sym c.are_columns.ensures ∙ c.if-not-are_columns.false)) (rw (← c.self.view_is) at c.requires.kept) c.self.invariant in
    let refused = rw c.in-Err-Refused.field-0-is at c.in-Err-Refused.ensures.refused in
    let name = refused.0 in
    rw (← c.self.view_is) (leaves _ (Err c.in-Err-Refused.why) _ _ is refused.1 tt (λ same. search rules) (λ a told. search rules))
