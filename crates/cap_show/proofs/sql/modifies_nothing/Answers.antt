use Rattle.std.proofs.Common.{◌+◌, ap, drop, false, get_or, refl, sym, ◌∙◌}
use Rattle.cap_changes.specs.FieldReading.{field_of}
use Rattle.cap_show.specs.Code.Equations.{is_empty}
use Rattle.cap_show.specs.Sql.{equations}
use Rattle.cap_show.proofs.TextLemmas.{equation_found, equations_next, no_more_fields, no_more_flags, none_found}
use Rattle.cap_show.proofs.sql.modifies_nothing.Goals as goal

pub returns-in_default : goal.returns-in_default
returns-in_default g c =
    sym (ap (λ texts. is_empty texts) (no_more_fields false c.loop-is_key.is_key-index c.args.flags.now c.loop-is_key.rest c.in_default.ensures.field.0)) ∙ c.loop-is_key.invariant

pub returns-then-is_some : goal.returns-then-is_some
returns-then-is_some g c =
    let i = c.loop-is_key.is_key-index in
    let found = c.asked_value.result in
    let others = equations false (i + 1) (drop (i + 1) c.args.flags.now) c.next_field.new.self in
    let next = equations_next false i c.args.flags.now c.loop-is_key.rest (get_or c.args.flags.now i false) (field_of c.in-Some.field) (field_of found) c.next_field.new.self c.loop-is_key-test.true refl c.in-Some.ensures.field c.asked_value.ensures in
    sym (equation_found g.row.A.Denot i found others (sym c.if-is_some.ensures)) ∙ ap (λ texts. is_empty texts) (sym next) ∙ c.loop-is_key.invariant

pub loop-is_key-preserved : goal.loop-is_key-preserved
loop-is_key-preserved g c =
    let i = c.loop-is_key.is_key-index in
    let found = c.asked_value.result in
    let others = equations false (i + 1) (drop (i + 1) c.args.flags.now) c.next_field.new.self in
    let next = equations_next false i c.args.flags.now c.loop-is_key.rest (get_or c.args.flags.now i false) (field_of c.in-Some.field) (field_of found) c.next_field.new.self c.loop-is_key-test.true refl c.in-Some.ensures.field c.asked_value.ensures in
    ap (λ texts. is_empty texts) (sym (next ∙ none_found g.row.A.Denot i found others (sym c.if-is_some.ensures))) ∙ c.loop-is_key.invariant

pub returns : goal.returns
returns g c =
    sym (ap (λ texts. is_empty texts) (no_more_flags false c.loop-is_key.is_key-index c.args.flags.now c.loop-is_key.rest c.loop-is_key-test.false)) ∙ c.loop-is_key.invariant
