use Rattle.std.proofs.Common.{◌≡◌, Some, sym, ap, ◌∙◌}
use Rattle.std.specs.Option.{option_copied, option_map}
use Rattle.cap_table.specs.Table.{TableState}
use Rattle.cap_database.specs.Tables.{schema_of}
use Rattle.cap_core.proofs.DiffLemmas.{compared-stand}
use Rattle.cap_core.proofs.diff.differences.Goals as goal

pub returns-clause-sound : goal.returns-clause-sound
returns-clause-sound g c =
    let name = c.args.name.now in
    let table = c.in-Some.table.now in
    let own : schema_of c.args.main.now name ≡ Some table.schema = ap (option_map (λ (t : TableState g.row.A.Denot). t.schema)) (sym c.table.ensures ∙ ap option_copied c.in-Some.is) in
    let is = rw c.table-2.ensures at c.in_ok-found.ensures.found in
    rw own (compared-stand c.in-Some-get.database.now name table c.in_ok-found.found.items c.sound_rows_law.ensures is)
