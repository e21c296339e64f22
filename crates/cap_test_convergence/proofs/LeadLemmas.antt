-- A capture leads from the rows before the session's first touches to the rows now.
use Rattle.std.proofs.Common.{◌≡◌, ◌≤◌, ℕ, Bool, Option, Some, None, List, [], ◌∷◌, IfOk, length, refl, sym, ap, subst, ◌∙◌, arith}
use Rattle.std.specs.Prelude.{option_and_then}
use Rattle.std.specs.List.{cons_option}
use Rattle.std.specs.Option.{ForSome, option_map, unwrap_or}
use Rattle.std.proofs.lemmas.List.{append-nil}
use Rattle.std.proofs.lemmas.List.Elements.{All-from_recursion, recursion_from_All}
use Rattle.cap_row.specs.Fields.{Fields}
use Rattle.cap_database.specs.Operation.{run}
use Rattle.cap_database.specs.Read.{row_at}
use Rattle.cap_database.specs.Tables.{AreRising, Tables, create, schema_of}
use Rattle.cap_database.specs.declared.op.Op.{Op}
use Rattle.cap_changes.specs.Change.{change_of}
use Rattle.cap_changes.specs.Entries.{IsFitting}
use Rattle.cap_changes.specs.Fits.{change_fits}
use Rattle.cap_changes.specs.Group.{TableChanges}
use Rattle.cap_changes.specs.declared.row_change.RowChange.{RowChange}
use Rattle.cap_codec.specs.Writable.{IsGroup, IsWritable}
use Rattle.cap_codec.specs.declared.read.Contents.TheVariants.{Changes}
use Rattle.cap_apply.specs.Fitting.{FitsItsColumns}
use Rattle.cap_session.specs.declared.record.Record.{Record}
use Rattle.cap_session.specs.Session.{AttachedTables, record_of}
use Rattle.cap_group.specs.Rows.{Follow, IsRowUnder}
use Rattle.cap_core.specs.Capture.{session_changes}
use Rattle.cap_core.specs.History.{main}
use Rattle.cap_core.specs.Past.{Past}
use Rattle.cap_core_laws.specs.Restarts.{first_touched}
use Rattle.cap_core.specs.Session.{session_of}
use Rattle.cap_core.specs.Table.{BlobsFitPast}
use Rattle.cap_core.specs.Touch.{touches}
use Rattle.cap_core_laws.proofs.AppliedCaptureLemmas.{session-distinct, session-sorted}
use Rattle.cap_captures.specs.Rows.{AreInARow, row_changes}
use Rattle.cap_captures.proofs.CaptureLemmas.{captured-row, groups-known, no-table-row, row-under}
use Rattle.cap_captures.proofs.ConcatLemmas.{some_same}
use Rattle.cap_captures.proofs.RecordLemmas.{all-turn, follow-next, image-touched, session-record}
use Rattle.cap_test_convergence.specs.Synchronised.{base_row}
use Rattle.cap_test_convergence.proofs.ImageLemmas.{first-stands, touches-stand}

module _ {A : Type 0} where
  -- what can be written fits its columns
  pub written-fits : (groups : List (TableChanges A)) → IsWritable (Changes groups) → FitsItsColumns (Changes groups)
  written-fits groups writable =
      All-from_recursion (λ group. IsFitting change_fits group) groups
      (all-turn IsGroup (λ group. IsFitting change_fits group) (λ group is. record { keyed = is.table.keyed; each = is.fit }) groups (recursion_from_All IsGroup groups writable))

  few : (made : Option (RowChange A)) → length (cons_option made []) ≤ 1
  few None = omega arith
  few (Some change) = omega arith

  module _ (runs_keep : (tables : Tables A) (ops : List (Op A)) → IfOk (run tables ops) (λ left. (other : List ℕ) → schema_of left.database other ≡ schema_of tables other))
      (creates_keep : (tables : Tables A) (other : List ℕ) (schema : List Bool) → IfOk (create tables other schema) (λ after. (table : List ℕ) (columns : List Bool) → schema_of tables table ≡ Some columns → schema_of after table ≡ Some columns))
      (rises : (past : Past A) → BlobsFitPast past → AreRising (main past))
      (session : ℕ) (past : Past A) (fits : BlobsFitPast past) where
    abbrev Touched : List ℕ → Fields A → Option (Option (Fields A))
    Touched name key = first_touched (touches session past) name key

    abbrev Base : List ℕ → Fields A → Option (Fields A)
    Base name key = base_row session past name key

    abbrev Now : List ℕ → Fields A → Option (Fields A)
    Now name key = row_at (main past) name key

    abbrev list : List (TableChanges A)
    list = session_changes (main past) (session_of past session)

    abbrev attached : AttachedTables A
    attached = (session_of past session).tables

    abbrev image_in : Option (Record A) → Option (Option (Fields A))
    image_in found = option_map (λ (r : Record A). r.image) found

    kept-at : (name : List ℕ) (key : Fields A) → image_in (record_of attached name key) ≡ Touched name key
    kept-at name key = ap image_in (session-record past session name key) ∙ image-touched (touches session past) name key

    now-under : (name : List ℕ) (flags : List Bool) (key : Fields A) → schema_of (main past) name ≡ Some flags → ForSome (Now name key) (IsRowUnder flags key)
    now-under name flags key known = row-under (main past) (rises past fits) name flags key known

    image-under : (name : List ℕ) (flags : List Bool) (key : Fields A) → schema_of (main past) name ≡ Some flags → (image : Option (Fields A)) → Touched name key ≡ Some image → ForSome image (IsRowUnder flags key)
    image-under name flags key known image is row at =
        let here = first-stands (main past) (touches session past) (touches-stand runs_keep creates_keep rises session past fits) name key image is row at in
        subst (λ columns. IsRowUnder columns key row) (some_same (sym here.1 ∙ known)) here.2

    base-under : (name : List ℕ) (flags : List Bool) (key : Fields A) → schema_of (main past) name ≡ Some flags → ForSome (Base name key) (IsRowUnder flags key)
    base-under name flags key known =
        elim (Touched name key) as (λ o. Touched name key ≡ o → ForSome (unwrap_or o (Now name key)) (IsRowUnder flags key)) [
          | None ↦ λ _. now-under name flags key known
          | Some image ↦ λ is. image-under name flags key known image is
        ] refl

    -- the change of a row
    row-is : (name : List ℕ) (flags : List Bool) (key : Fields A) → schema_of (main past) name ≡ Some flags
        → row_changes name key list ≡ cons_option (option_and_then (λ r. change_of flags r.indirect r.image (Now name key)) (record_of attached name key)) []
    row-is name flags key known =
        captured-row (main past) attached (session-distinct past session) name flags key known
        (λ records at. session-sorted past session name records at)
        (λ k r is. image-under name flags k known r.image (sym (kept-at name k) ∙ ap image_in is))
        (λ k. now-under name flags k known)

    led : (name : List ℕ) (flags : List Bool) (key : Fields A) → schema_of (main past) name ≡ Some flags → Follow flags key (Base name key) (row_changes name key list) (Now name key)
    led name flags key known =
        let now = Now name key in
        subst (λ cs. Follow flags key (Base name key) cs now) (sym (row-is name flags key known))
        (elim (record_of attached name key) as (λ o. record_of attached name key ≡ o → Follow flags key (Base name key) (cons_option (option_and_then (λ r. change_of flags r.indirect r.image now) o) []) now) [
          | None ↦ λ none. ap (λ o. unwrap_or o now) (sym (kept-at name key) ∙ ap image_in none)
          | Some r ↦ λ is.
              let first : Touched name key ≡ Some r.image = sym (kept-at name key) ∙ ap image_in is in
              subst (λ row. Follow flags key row (cons_option (change_of flags r.indirect r.image now) []) now) (sym (ap (λ o. unwrap_or o now) first))
              (follow-next flags key r.indirect r.image [] r.image now refl (now-under name flags key known) (change_of flags r.indirect r.image now) refl)
        ] refl)

    pub capture-leads : AreInARow (schema_of (main past)) (base_row session past) (row_at (main past)) (list ∷ [])
    capture-leads = record {
      schemas = (groups-known (main past) attached, tt);
      under = base-under;
      rows = λ name flags key known. subst (λ cs. Follow flags key (Base name key) cs (Now name key)) (sym (append-nil (row_changes name key list))) (led name flags key known);
    }

    -- it has at most one change of each row
    pub capture-once : (name : List ℕ) (key : Fields A) → length (row_changes name key list) ≤ 1
    capture-once name key =
        elim (schema_of (main past) name) as (λ o. schema_of (main past) name ≡ o → length (row_changes name key list) ≤ 1) [
          | None ↦ λ none. subst (λ (cs : List (RowChange A)). length cs ≤ 1) (sym (no-table-row (main past) name key attached (session-distinct past session) none)) (few None)
          | Some flags ↦ λ known. subst (λ (cs : List (RowChange A)). length cs ≤ 1) (sym (row-is name flags key known)) (few (option_and_then (λ r. change_of flags r.indirect r.image (Now name key)) (record_of attached name key)))
        ] refl
