use Rattle.std.proofs.Common.{◌≡◌, false, Some, ap, sym, ◌∙◌, rules}
use Rattle.cap_row.specs.Schema.{has_key}
use Rattle.cap_core.specs.Capture.{group_of}
use Rattle.cap_core.specs.CanCapture.{are_own_records}
use Rattle.cap_core.proofs.SoundLemmas.{between-keyed, unkeyed-unchanged}
use Rattle.cap_core.proofs.capture.group_of.Goals as goal

pub returns-then-not-has_key : goal.returns-then-not-has_key
returns-then-not-has_key g c =
    let table = c.args.table.now in
    let none : has_key table.schema ≡ false = rw c.schema.ensures at (sym c.has_key.ensures ∙ c.if-not-has_key.true) in
    sym (ap (group_of c.args.name.now table.schema) (unkeyed-unchanged table c.keyed-rows.ensures.sound none c.args.records.now c.requires))

pub push_between-requires : goal.push_between-requires
push_between-requires g c =
    let table = c.args.table.now in
    let all = ap (are_own_records (Some table.schema)) (sym c.in-Some.ensures.steps) ∙ c.loop-key.invariant.3 in
    let met = between-keyed table c.keyed-rows.ensures.sound c.loop-key.group.schema c.loop-key.invariant.1 c.in-Some.key.now c.in-Some.kept.now c.next.new.self all
    _ _ c.as_ref-then-is_changed.ensures.value (rw c.keyed-rows.ensures.rows at c.get-now.ensures) in
    record { image_keyed = met.0; now_keyed = met.1; same_key = met.2; changed = search rules }
