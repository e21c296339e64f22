use Rattle.std.proofs.Common.{◌+◌, ◌++◌, ap, drop, false, get_or, refl, rules, sym, ◌∙◌, Bool, true}
use Rattle.cap_changes.specs.FieldReading.{field_of}
use Rattle.cap_changes.specs.FieldRecord.{RecordFields}
use Rattle.cap_show.specs.Code.Equations.{next_equation}
use Rattle.cap_show.specs.Sql.{equations}
use Rattle.cap_show.proofs.TextLemmas.{equation_left, equations_next, left_at, no_equation, no_more_fields, no_more_flags, written_all, written_more, written_none}
use Rattle.cap_show.proofs.sql.write_equations.Goals as goal

pub loop-column-init : goal.loop-column-init
loop-column-init g c =
    written_none g.W.Write.write_str_gives _ _ _ (ap (λ (fields : RecordFields g.row.A.Denot). left_at true c.args.of_key 0 c.args.flags.now fields) c.copy-rest.ensures)

pub returns-in_default : goal.returns-in_default
returns-in_default g c = λ plain ok.
    let i = c.loop-column.column in
    let flags = c.args.flags.now in
    written_all g.W.Write.write_str_gives _ _ _ _ (no_equation c.loop-column.is_first c.args.of_key _ (no_more_fields c.args.of_key i flags c.loop-column.rest c.in_default.ensures.field.0)) c.loop-column.invariant plain

pub loop-column-preserved : goal.loop-column-preserved
loop-column-preserved g c =
    let i = c.loop-column.column in
    let first = c.loop-column.is_first in
    let flags = c.args.flags.now in
    let key = c.args.of_key in
    let value = field_of {A = g.row.A.Denot} c.asked_value-value.result in
    let rest = c.next_field.new.self in
    let next = equations_next key i flags c.loop-column.rest (get_or flags i false) (field_of c.in-Some.field) value rest c.loop-column-test.true refl c.in-Some.ensures.field c.asked_value-value.ensures in
    let left = equation_left first key i value _ (equations key (i + 1) (drop (i + 1) flags) rest) next in
    let others = ap (λ (b : Bool). next_equation first key i value ++ left_at b key (i + 1) flags rest) (sym c.write_next_equation.ensures.first) in
    written_more g.W.Write.write_str_gives _ _ _ _ _ _ _ (left ∙ others) c.loop-column.invariant (λ plain. c.write_next_equation.ensures.text plain (search rules))

pub returns : goal.returns
returns g c = λ plain ok.
    let i = c.loop-column.column in
    let flags = c.args.flags.now in
    written_all g.W.Write.write_str_gives _ _ _ _ (no_equation c.loop-column.is_first c.args.of_key _ (no_more_flags c.args.of_key i flags c.loop-column.rest c.loop-column-test.false)) c.loop-column.invariant plain
