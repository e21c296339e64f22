use Rattle.std.proofs.Common.{◌++◌, ℕ, List, sym, ap, ◌∙◌}
use Rattle.cap_session.specs.Records.{Records}
use Rattle.cap_session.specs.Session.{AttachedTables}
use Rattle.cap_database.specs.Tables.{schema_of, table_of}
use Rattle.cap_core.specs.Capture.{changes_of, table_changes}
use Rattle.cap_core.specs.CanCapture.{are_own_records, are_own_tables}
use Rattle.cap_core.proofs.SmallLemmas.{second, filter_map-more}
use Rattle.cap_core.proofs.capture.changes_of.Goals as goal

pub loop-name-preserved : goal.loop-name-preserved
loop-name-preserved g c =
    let main = c.args.main.now in
    let rest = c.next.new.self in
    let name = c.in-Some.name.now in
    let records = c.in-Some.records.now in
    let first = sym c.in-Some.ensures.steps in
    let made = rw c.table.ensures at c.in_ok-group.ensures in (
      tt,
      tt,
      filter_map-more (λ (table : List ℕ × Records g.row.A.Denot). table_changes table (table_of main table.0)) c.loop-name.list c.in_ok-list.list rest (name, records) c.in_ok-group.group c.in_ok-list.ensures made
          ∙ ap (λ (tables : AttachedTables g.row.A.Denot). c.loop-name.list ++ changes_of main tables) first ∙ c.loop-name.invariant.2,
      second (are_own_records (schema_of main name) records) (are_own_tables main rest) (ap (are_own_tables main) first ∙ c.loop-name.invariant.3),
    )
