use Rattle.std.proofs.Common.{[], ◌∷◌, arith, refl, ◌∙◌}
use Rattle.cap_dump.proofs.SpelledLemmas.{one_limits}
use Rattle.cap_dump.proofs.WayLemmas.{IsOnItsWay, come_again, never_faulty, never_refused}
use Rattle.cap_dump.proofs.whole_way.carry.Goals as goal

pub returns-in-Ok-load : goal.returns-in-Ok-load
returns-in-Ok-load g c =
    let tables = (c.args.name.now, c.args.table.now) ∷ [] in
    let way : IsOnItsWay tables c.args.key_flags c.as_slice.result.now c.empty.result = record {
      written = c.as_slice.ensures.value ∙ c.in_ok-bytes.ensures;
      read = c.dumps_are_read_again.ensures.read c.args.key_flags tables (c.requires, tt) (one_limits (c.args.name.now, c.args.table.now) c.table_has_limits.ensures);
      made = c.dumps_are_loaded_again.ensures.parts tables (record { names = refl; each = (c.requires, tt) }) (omega arith);
      empty = c.empty.ensures;
    } in
    come_again tables c.args.key_flags c.as_slice.result.now c.empty.result way c.in-Ok.blob c.in-Ok-load.again c.in-Ok.ensures.answers c.in-Ok-load.ensures.database

pub unreachable-requires : goal.unreachable-requires
unreachable-requires g c =
    let tables = (c.args.name.now, c.args.table.now) ∷ [] in
    let way : IsOnItsWay tables c.args.key_flags c.as_slice.result.now c.empty.result = record {
      written = c.as_slice.ensures.value ∙ c.in_ok-bytes.ensures;
      read = c.dumps_are_read_again.ensures.read c.args.key_flags tables (c.requires, tt) (one_limits (c.args.name.now, c.args.table.now) c.table_has_limits.ensures);
      made = c.dumps_are_loaded_again.ensures.parts tables (record { names = refl; each = (c.requires, tt) }) (omega arith);
      empty = c.empty.ensures;
    } in
    let refused = rw c.in-Err-Refused-load.field-0-is at c.in-Err-Refused-load.ensures.database in
    never_refused tables c.args.key_flags c.as_slice.result.now c.empty.result way c.in-Ok.blob c.in-Err-Refused-load.field-0-0 c.in-Ok.ensures.answers refused

pub unreachable-requires-in-Err-Refused : goal.unreachable-requires-in-Err-Refused
unreachable-requires-in-Err-Refused g c =
    let tables = (c.args.name.now, c.args.table.now) ∷ [] in
    let faulty = rw c.in-Err-Refused.field-0-is at c.in-Err-Refused.ensures.answers in
    never_faulty tables c.args.key_flags c.as_slice.result.now (c.as_slice.ensures.value ∙ c.in_ok-bytes.ensures)
    (c.dumps_are_read_again.ensures.read c.args.key_flags tables (c.requires, tt) (one_limits (c.args.name.now, c.args.table.now) c.table_has_limits.ensures)) c.in-Err-Refused.field-0-0 faulty
