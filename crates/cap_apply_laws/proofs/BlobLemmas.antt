-- A capture of several tables, one group after another.
use Rattle.std.proofs.Common.{◌≡◌, ℕ, ◌+◌, Bool, Ok, List, [], ◌∷◌, length, map, refl, sym, ap, ◌∙◌, arith}
use Rattle.cap_apply.proofs.Common.{map-map, Tables, table_of, TableEntries, patch_list_of, patch_of, RowChange, Contents, Changes, Patches, AppliedState, and_then, group_applied, groups_applied, nothing_applied, Requested, requested_by_change, requested_by_patch, requested_of, AllAfter, AllBefore, AreOthers, GivesAllRowsNow, TableRows, changes_of, total, Difference, IsDifference, RowsAfter, ReportState}
use Rattle.cap_apply.specs.declared.policy.Policy.{Policy}
use Rattle.cap_apply_laws.proofs.CaptureLemmas.{AsksFor, fit_self}
use Rattle.cap_apply_laws.proofs.DifferenceLemmas.{change_asks, patch_asks, rows_given}

module _ {A : Type 0} where
  -- the rows of a table are as they were where the table is
  all_before_moves : (name : List ℕ) (ts : List (TableRows A)) (start left : Tables A) → ((other : List ℕ) → (other ≡ name → ⊥) → table_of left other ≡ table_of start other) →
      AreOthers name ts → AllBefore ts start → AllBefore ts left
  all_before_moves name [] start left same apart h = tt
  all_before_moves name (t ∷ ts) start left same apart h =
      (record { there = same t.name (λ e. apart.0 (sym e)) ∙ h.0.there; rows = h.0.rows; ordered = h.0.ordered }, h.1, all_before_moves name ts start left same apart.1 h.2)

  after_moves : (t : TableRows A) (start left : Tables A) → table_of left t.name ≡ table_of start t.name → RowsAfter t.name t.table t.differences start →
      RowsAfter t.name t.table t.differences left
  after_moves t start left same h = record {
    found = h.found;
    there = same ∙ h.there;
    rows = h.rows;
    other_rows = h.other_rows;
    loose = h.loose;
    columns = h.columns;
    next_id = h.next_id;
    ordered = h.ordered;
  }

  -- groups that ask of each table what gives its rows now
  module _ (policy : Policy) (f : List Bool → RowChange A → Requested A) (asks : (flags : List Bool) (d : Difference A) → IsDifference flags d → AsksFor flags (f flags d.change) d.key d.before d.after) where
    abbrev group_of : TableRows A → TableEntries (Requested A)
    group_of t = record { table = t.name; schema = t.table.schema; changes = map (λ (d : Difference A). f t.table.schema d.change) t.differences }

    groups_give : (ts : List (TableRows A)) (place number : ℕ) (state : AppliedState A) → AllBefore ts state.database
        → (left : AppliedState A) × (groups_applied policy place number (map group_of ts) state ≡ Ok left) × AllAfter ts left.database
        × ((other : List ℕ) → AreOthers other ts → table_of left.database other ≡ table_of state.database other)
        × (left.report ≡ record state.report { applied = state.report.applied + total ts })
    groups_give [] place number state before =
        let none : state.report.applied ≡ state.report.applied + 0 = omega arith in
        (state, refl, tt, λ other apart. refl, ap (λ n. record state.report { applied = n }) none)
    groups_give (t ∷ ts) place number state before =
        let first = rows_given policy f asks number t.name t.table t.differences state before.0 in
        let next = first.0 in
        let one : group_applied policy place number (group_of t) state ≡ Ok next = rw (before.0.there, fit_self t.table.schema, first.1) in
        let rest = groups_give ts (place + 1) (number + length (group_of t).changes) next (all_before_moves t.name ts state.database next.database first.3 before.1 before.2) in
        let more : state.report.applied + length t.differences + total ts ≡ state.report.applied + (length t.differences + total ts) = omega arith in (
          rest.0,
          ap (λ r. and_then r (λ s. groups_applied policy (place + 1) (number + length (group_of t).changes) (map group_of ts) s)) one ∙ rest.1,
          (after_moves t next.database rest.0.database (rest.3 t.name before.1) first.2, rest.2),
          λ other apart. rest.3 other apart.1 ∙ first.3 other apart.0,
          rest.4 ∙ ap (λ (r : ReportState). record r { applied = r.applied + total ts }) first.4 ∙ ap (λ n. record state.report { applied = n }) more,
        )

    blob_gives : (ts : List (TableRows A)) (blob : Contents A) (database : Tables A) → requested_of blob ≡ map group_of ts → AllBefore ts database → GivesAllRowsNow policy ts blob database
    blob_gives ts blob database are before =
        let all = groups_give ts 0 0 (nothing_applied database) before in
        let count : 0 + total ts ≡ total ts = omega arith in
        (all.0, ap (λ groups. groups_applied policy 0 0 groups (nothing_applied database)) are ∙ all.1, all.2, all.3, all.4 ∙ ap (λ n. record (nothing_applied database).report { applied = n }) count)

  pub changeset_gives : (policy : Policy) (ts : List (TableRows A)) (database : Tables A) → AllBefore ts database → GivesAllRowsNow policy ts (Changes (map changes_of ts)) database
  changeset_gives policy ts database before = blob_gives policy requested_by_change change_asks ts (Changes (map changes_of ts)) database (simp map-map) before

  pub patchset_gives : (policy : Policy) (ts : List (TableRows A)) (database : Tables A) → AllBefore ts database → GivesAllRowsNow policy ts (Patches (patch_list_of (map changes_of ts))) database
  patchset_gives policy ts database before =
      blob_gives policy (λ flags change. requested_by_patch flags (patch_of flags change)) patch_asks ts (Patches (patch_list_of (map changes_of ts))) database (simp map-map) before
