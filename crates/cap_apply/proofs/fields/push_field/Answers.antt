use Rattle.std.proofs.Common.{◌≡◌, ◌∷◌, [], rules, sym, ap, ◌∙◌}
use Rattle.cap_apply.proofs.Common.{on_ok_weaker, bytes_eq}
use Rattle.cap_apply.proofs.FieldLemmas.{next_set}
use Rattle.cap_apply.proofs.fields.push_field.Goals as goal

pub returns-clause-field : goal.returns-clause-field
returns-clause-field g c =
    let zero : c.as_slice.result.now ≡ 0 ∷ [] = search rules in
    on_ok_weaker c.push_rest.result
    (λ put. next_set c.args.field.now c.args.builder.now c.push_rest.new.self c.args.rest.now c.next_field.new.self c.in-Some.field-0.now (ap (bytes_eq c.args.field.now) (sym zero) ∙ sym c.eq.ensures ∙ c.if-eq.false) c.in-Some.ensures put)
    (rw c.of.ensures at c.push_rest.ensures.pushed)
