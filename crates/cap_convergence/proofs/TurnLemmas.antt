-- Changesets of the hub that a client applies one after the other, and their buffers.
use Rattle.std.proofs.Common.{◌≡◌, ℕ, zero, suc, ◌+◌, ◌-◌, Bool, true, false, cond, List, [], ◌∷◌, length, Option, Some, None, Ok, refl, ap, sym, subst, ◌∙◌, nat_lt}
use Rattle.std.specs.Prelude.{IfOk, IfSome, slice_get}
use Rattle.std.specs.Option.{ForSome, option_map}
use Rattle.std.specs.List.{AllByRecursion}
use Rattle.std.proofs.lemmas.List.Elements.{recursion_from_All}
use Rattle.cap_row.specs.Fields.{Fields}
use Rattle.cap_row.specs.Key.{fields_cmp}
use Rattle.cap_row.specs.Schema.{has_key}
use Rattle.cap_table.specs.Table.{TableState}
use Rattle.cap_database.specs.Read.{row_at}
use Rattle.cap_database.specs.Tables.{AreRising, Tables, table_of}
use Rattle.cap_changes.specs.Entries.{IsFitting}
use Rattle.cap_changes.specs.Fits.{change_fits}
use Rattle.cap_changes.specs.Group.{TableChanges}
use Rattle.cap_changes.specs.declared.row_change.RowChange.{RowChange}
use Rattle.cap_codec.specs.Writable.{has_some}
use Rattle.cap_codec.specs.declared.read.Contents.{Contents}
use Rattle.cap_codec.specs.declared.read.Contents.TheVariants.{Changes}
use Rattle.cap_apply.specs.Applied.{AppliedState}
use Rattle.cap_apply.specs.Apply.{apply, nothing_applied}
use Rattle.cap_apply.specs.Fitting.{FitsItsColumns}
use Rattle.cap_apply.specs.declared.conflict.Conflict.{Conflict}
use Rattle.cap_apply.specs.declared.policy.Answer.{Answer}
use Rattle.cap_apply.specs.declared.policy.Answer.TheVariants.{Omit, Replace, Abort}
use Rattle.cap_apply.specs.declared.policy.Policy.{Policy}
use Rattle.cap_apply.proofs.OrderLemmas.{found-rises}
use Rattle.cap_group.specs.Rows.{Follow, IsRowUnder}
use Rattle.cap_core.proofs.KeyedLemmas.{ordered}
use Rattle.cap_rebase.specs.Buffer.{answered, answered_at, buffer_of, groups_met, met}
use Rattle.cap_rebase.specs.Rebaser.{Buffers}
use Rattle.cap_captures.specs.Rows.{all_row_changes, row_changes}
use Rattle.cap_captures.proofs.ConcatLemmas.{last_under}
use Rattle.cap_convergence.specs.Convergence.{AreAppliedInTurn, Columns, HasTables, LeadsFrom, RemoteChangeset, Rows}
use Rattle.cap_convergence.proofs.KeyLemmas.{all_filter, append_none, all_kept, flagged_fits, row_of_some, some_same}
use Rattle.cap_convergence.proofs.StepLemmas.{Stands}
use Rattle.cap_convergence.proofs.AppliedLemmas.{AllStand, AreSound, RowApplied, all_groups, row_applied_more, row_applied_none}

module _ {A : Type 0} where
  -- ---- what is known of a changeset

  pub sound_from : (columns : Columns) (groups : List (TableChanges A)) → AllByRecursion (λ group. columns group.table ≡ Some group.schema) groups → AllByRecursion (IsFitting change_fits) groups → AreSound columns groups
  sound_from columns [] known fits = tt
  sound_from columns (group ∷ groups) known fits =
      ((known.0, fits.0.keyed, recursion_from_All (λ change. change_fits group.schema change ≡ true) group.changes fits.0.each), sound_from columns groups known.1 fits.1)

  pub sound : (columns : Columns) (before after : Rows A) (changes : List (TableChanges A)) → LeadsFrom columns before after changes → AreSound columns changes
  sound columns before after changes leads = sound_from columns changes leads.rows.schemas.0 (recursion_from_All (IsFitting change_fits) changes leads.fits)

  -- the changes of a row lead from the row before to the row after
  pub follows : (columns : Columns) (before after : Rows A) (changes : List (TableChanges A)) → LeadsFrom columns before after changes → (name : List ℕ) (flags : List Bool) (key : Fields A) → columns name ≡ Some flags
      → Follow flags key (before name key) (row_changes name key changes) (after name key)
  follows columns before after changes leads name flags key is =
      subst (λ l. Follow flags key (before name key) l (after name key)) (sym (append_none (row_changes name key changes))) (leads.rows.rows name flags key is)

  -- ---- a buffer

  answered_fits : (flags : List Bool) (answer : Answer) (change : RowChange A) → change_fits flags change ≡ true → IfSome (answered answer change) (λ c. change_fits flags c ≡ true)
  answered_fits flags Omit change fits = flagged_fits flags false change fits
  answered_fits flags Replace change fits = flagged_fits flags true change fits
  answered_fits flags Abort change fits = tt

  met_at : (flags : List Bool) (answer : Answer) (place : ℕ) (changes : List (RowChange A)) → AllByRecursion (λ change. change_fits flags change ≡ true) changes
      → IfSome (answered_at answer (slice_get changes place)) (λ c. change_fits flags c ≡ true)
  met_at flags answer place [] all = tt
  met_at flags answer zero (change ∷ changes) all = answered_fits flags answer change all.0
  met_at flags answer (suc place) (change ∷ changes) all = met_at flags answer place changes all.1

  met_fits : (flags : List Bool) (first : ℕ) (changes : List (RowChange A)) → AllByRecursion (λ change. change_fits flags change ≡ true) changes → (conflict : Conflict) → IfSome (met first changes conflict) (λ c. change_fits flags c ≡ true)
  met_fits flags first changes all conflict =
      elim (nat_lt conflict.change first) as (λ b. IfSome (cond b None (answered_at conflict.answer (slice_get changes (conflict.change - first)))) (λ c. change_fits flags c ≡ true)) [
        | true ↦ tt
        | false ↦ met_at flags conflict.answer (conflict.change - first) changes all
      ]

  each_met : (flags : List Bool) (first : ℕ) (changes : List (RowChange A)) → AllByRecursion (λ change. change_fits flags change ≡ true) changes → (conflicts : List Conflict)
      → AllByRecursion (λ conflict. IfSome (met first changes conflict) (λ c. change_fits flags c ≡ true)) conflicts
  each_met flags first changes all [] = tt
  each_met flags first changes all (conflict ∷ conflicts) = (met_fits flags first changes all conflict, each_met flags first changes all conflicts)

  groups_sound : (columns : Columns) (first : ℕ) (conflicts : List Conflict) (groups : List (TableChanges A)) → AreSound columns groups → AreSound columns (groups_met first conflicts groups)
  groups_sound columns first conflicts [] all = tt
  groups_sound columns first conflicts (group ∷ groups) all = (
    (all.0.0, all.0.1, all_kept (λ change. change_fits group.schema change ≡ true) (met first group.changes) conflicts (each_met group.schema first group.changes all.0.2 conflicts)),
    groups_sound columns (first + length group.changes) conflicts groups all.1,
  )

  buffer_sound : (columns : Columns) (groups : List (TableChanges A)) (conflicts : List Conflict) → AreSound columns groups → AreSound columns (buffer_of groups conflicts)
  buffer_sound columns groups conflicts all =
      all_filter (λ (group : TableChanges A). (columns group.table ≡ Some group.schema) × (has_key group.schema ≡ true) × AllByRecursion (λ change. change_fits group.schema change ≡ true) group.changes)
      (λ (group : TableChanges A). has_some group.changes) (groups_met 0 conflicts groups) (groups_sound columns 0 conflicts groups all)

  -- ---- the tables of a database

  stand_at : (columns : List Bool) (name : List ℕ) (database : Tables A) → AreRising database → (found : Option (TableState A)) → table_of database name ≡ found → option_map (λ table. table.schema) found ≡ Some columns
      → Stands name columns database
  stand_at columns name database rise None is known = cc
  stand_at columns name database rise (Some table) is known =
      record { table = table; there = is; columns = some_same known; ordered = ordered fields_cmp table.keyed (found-rises database name table rise.each is).keys }

  pub all_stand : (columns : Columns) (database : Tables A) → AreRising database → HasTables columns database → AllStand columns database
  all_stand columns database rise has name flags is = stand_at flags name database rise (table_of database name) refl (has name flags is)

  has_tables : (columns : Columns) (database : Tables A) → AllStand columns database → HasTables columns database
  has_tables columns database all name flags is =
      let s = all name flags is in
      ap (option_map (λ table. table.schema)) s.there ∙ ap Some s.columns

  -- ---- one after the other

  -- what is known of the client, the hub's rows and the buffers at last
  pub record InTurn (columns : Columns) (hub : Rows A) (client : Tables A) (buffers : Buffers A) (last_hub : Rows A) (last_client : Tables A) : Type 0 where
    pub rise : AreRising last_client
    pub tables : HasTables columns last_client
    pub buffers_sound : AllByRecursion (AreSound columns) buffers
    pub under : (name : List ℕ) (flags : List Bool) (key : Fields A) → columns name ≡ Some flags → ForSome (last_hub name key) (IsRowUnder flags key)
    pub row : (name : List ℕ) (flags : List Bool) (key : Fields A) → columns name ≡ Some flags
        → RowApplied flags key (hub name key) (last_hub name key) (row_at client name key) (row_at last_client name key) (all_row_changes name key buffers)

  module _ (keep_order : (tables : Tables A) (blob : Contents A) (policy : Policy) → AreRising tables → FitsItsColumns blob → IfOk (apply tables blob policy) (λ left. AreRising left.database)) (columns : Columns) where
    still_rises : (client : Tables A) (blob : Contents A) (policy : Policy) (left : AppliedState A) → AreRising client → FitsItsColumns blob → apply client blob policy ≡ Ok left → AreRising left.database
    still_rises client blob policy left rise fits is = subst (λ r. IfOk r (λ (l : AppliedState A). AreRising l.database)) is (keep_order client blob policy rise fits)

    pub in_turn : (hub : Rows A) (client : Tables A) (remotes : List (RemoteChangeset A)) (buffers : Buffers A) (last_hub : Rows A) (last_client : Tables A) → AreRising client → HasTables columns client
        → ((name : List ℕ) (flags : List Bool) (key : Fields A) → columns name ≡ Some flags → ForSome (hub name key) (IsRowUnder flags key))
        → AreAppliedInTurn columns hub client remotes buffers last_hub last_client → InTurn columns hub client buffers last_hub last_client
    in_turn hub client [] [] last_hub last_client rise has under (same, is) = record {
      rise = subst AreRising is rise;
      tables = subst (HasTables columns) is has;
      buffers_sound = tt;
      under = λ name flags key known. subst (λ row. ForSome row (IsRowUnder flags key)) (same name flags key known) (under name flags key known);
      row = λ name flags key known. row_applied_none flags key _ _ _ _ (same name flags key known) (ap (λ d. row_at d name key) is);
    }
    in_turn hub client [] (buffer ∷ buffers) last_hub last_client rise has under h = absurd h
    in_turn hub client (remote ∷ remotes) [] last_hub last_client rise has under h = absurd h
    in_turn hub client (remote ∷ remotes) (buffer ∷ buffers) last_hub last_client rise has under (before, next, same, leads, (left, is, buffer_is, more)) =
        let changes = remote.changes in
        let whole = sound columns before next changes leads in
        let passed = all_groups columns remote.policy changes 0 0 (nothing_applied client) left whole (all_stand columns client rise has) is in
        let follow : (name : List ℕ) (flags : List Bool) (key : Fields A) → columns name ≡ Some flags → Follow flags key (hub name key) (row_changes name key changes) (next name key)
        = λ name flags key known. subst (λ row. Follow flags key row (row_changes name key changes) (next name key)) (sym (same name flags key known)) (follows columns before next changes leads name flags key known) in
        let next_under : (name : List ℕ) (flags : List Bool) (key : Fields A) → columns name ≡ Some flags → ForSome (next name key) (IsRowUnder flags key)
        = λ name flags key known. last_under flags key (hub name key) (row_changes name key changes) (next name key) (under name flags key known) (follow name flags key known) in
        let rest = in_turn next left.database remotes buffers last_hub last_client (still_rises client (Changes changes) remote.policy left rise leads.fits is) (has_tables columns left.database passed.stands) next_under more in
        let has_rows : (name : List ℕ) (key : Fields A) → row_changes name key (groups_met 0 passed.mine changes) ≡ row_changes name key buffer
        = λ name key. ap (λ l. row_changes name key (groups_met 0 l changes)) (sym passed.conflicts) ∙ sym (row_of_some name key (groups_met 0 left.report.conflicts changes)) ∙ ap (row_changes name key) (sym buffer_is) in
        record {
          rise = rest.rise;
          tables = rest.tables;
          buffers_sound = (subst (AreSound columns) (sym buffer_is) (buffer_sound columns changes left.report.conflicts whole), rest.buffers_sound);
          under = rest.under;
          row = λ name flags key known.
              row_applied_more flags key (hub name key) (next name key) (last_hub name key) (row_at client name key) (row_at left.database name key) (row_at last_client name key) (row_changes name key buffer) (all_row_changes name key buffers)
              (subst (RowApplied flags key (hub name key) (next name key) (row_at client name key) (row_at left.database name key)) (has_rows name key)
              (passed.row name flags key known (hub name key) (next name key) (follow name flags key known)))
              (rest.row name flags key known);
        }
