-- What the concatenation of captures in a row has of the one capture over all of them.
use Rattle.std.proofs.Common.{◌≡◌, ℕ, Bool, true, false, Option, Some, None, Ok, IfOk, List, [], ◌∷◌, ◌++◌, ◌&&◌, refl, sym, ap, ◌∙◌}
use Rattle.std.specs.Prelude.{map}
use Rattle.std.specs.List.{cons_option}
use Rattle.cap_row.specs.Fields.{Fields}
use Rattle.cap_database.specs.Operation.{run}
use Rattle.cap_database.specs.Read.{row_at}
use Rattle.cap_database.specs.Tables.{AreRising, Tables, create, schema_of}
use Rattle.cap_database.specs.declared.op.Op.{Op}
use Rattle.cap_changes.specs.Change.{change_of}
use Rattle.cap_changes.specs.Group.{TableChanges}
use Rattle.cap_changes.specs.declared.row_change.RowChange.{RowChange}
use Rattle.cap_codec.specs.declared.read.Contents.TheVariants.{Changes}
use Rattle.cap_session.specs.declared.record.Record.{Record}
use Rattle.cap_group_laws.proofs.JoinLemmas.{followed}
use Rattle.cap_group_laws.proofs.FlagLemmas.{followed_one_flag}
use Rattle.cap_group.specs.ChangeGroup.{concat_of}
use Rattle.cap_core.specs.declared.event.Event.{Event}
use Rattle.cap_core.specs.Flags.{command_to}
use Rattle.cap_core.specs.History.{main}
use Rattle.cap_core.specs.Past.{Past, is_accepted}
use Rattle.cap_core_laws.specs.Restarts.{IsSteady, captures, touches_over}
use Rattle.cap_core.specs.Table.{BlobsFitPast}
use Rattle.cap_core.specs.Touch.{restarts, touches}
use Rattle.cap_captures.specs.Captures.{HasCaptureOver, as_direct, capture_over, first_row}
use Rattle.cap_captures.specs.Rows.{all_row_changes, row_changes}
use Rattle.cap_captures.proofs.CaptureLemmas.{no-table-row}
use Rattle.cap_captures.proofs.ConcatLemmas.{concatenated}
use Rattle.cap_captures.proofs.FlagLemmas.{counted}
use Rattle.cap_captures.proofs.PeriodLemmas as period
use Rattle.cap_captures.proofs.RecordLemmas.{direct-same, record_from}

module _ {A : Type 0} where
  module _ (runs_keep : (tables : Tables A) (ops : List (Op A)) → IfOk (run tables ops) (λ left. (other : List ℕ) → schema_of left.database other ≡ schema_of tables other))
      (creates_keep : (tables : Tables A) (other : List ℕ) (schema : List Bool) → IfOk (create tables other schema) (λ after. (table : List ℕ) (columns : List Bool) → schema_of tables table ≡ Some columns → schema_of after table ≡ Some columns))
      (rises : (past : Past A) → BlobsFitPast past → AreRising (main past))
      (session : ℕ) (start : Past A) (fresh : touches session start ≡ []) where
    abbrev Now : List (Event A) → List ℕ → Fields A → Option (Fields A)
    Now later name key = row_at (main (later ++ start)) name key

    abbrev First : List (Event A) → List ℕ → Fields A → Option (Fields A)
    First later name key = first_row session later start name key

    abbrev Led : List (Event A) → List ℕ → Fields A → List (RowChange A)
    Led later name key = all_row_changes name key (captures session later start)

    abbrev over-record : List (Event A) → List ℕ → Fields A → Option (Record A)
    over-record later name key = record_from (touches_over session later start) name key

    -- ---- the concatenation

    pub concatenated-captures : (event : Event A) (later : List (Event A)) → (is_accepted event.reply && restarts (command_to session event.command)) ≡ true → IsSteady session (event ∷ later) start → BlobsFitPast (event ∷ later ++ start)
        → (groups : List (TableChanges A)) × (concat_of (map Changes (captures session (event ∷ later) start)) ≡ Ok (Changes groups)) × HasCaptureOver session (event ∷ later) start groups
    concatenated-captures event later restarted steady fits =
        let all = event ∷ later in
        let columns = schema_of (main (all ++ start)) in
        let in_a_row = period.captures-follow runs_keep creates_keep rises session start fresh event later restarted steady fits in
        let made = concatenated columns (First all) (Now all) (captures session all start) in_a_row in
        let none : (name : List ℕ) (key : Fields A) → columns name ≡ None → row_changes name key made.0 ≡ row_changes name key (capture_over session all start) =
        λ name key is. made.2.others name key is ∙ sym (no-table-row (main (all ++ start)) name key (period.over-tables runs_keep creates_keep rises session start fresh all) (period.over-distinct runs_keep creates_keep rises session start fresh all) is) in (
          made.0,
          made.1,
          record {
            rows = λ name key. elim (columns name) as (λ o. columns name ≡ o → map as_direct (row_changes name key made.0) ≡ map as_direct (row_changes name key (capture_over session all start))) [
              | None ↦ λ is. ap (map as_direct) (none name key is)
              | Some flags ↦ λ known.
                  let whole = followed flags key (First all name key) (Led all name key) (Now all name key) (in_a_row.under name flags key known) (in_a_row.rows name flags key known) in
                  ap (map as_direct) (made.2.rows name flags key known ∙ ap (λ o. cons_option o []) whole.1)
                  ∙ direct-same flags whole.0 (period.flag_or runs_keep creates_keep rises session start fresh false (over-record all name key)) (First all name key) (Now all name key)
                  ∙ ap (map as_direct) (sym (period.over-row runs_keep creates_keep rises session start fresh all steady fits name flags key false known))
            ] refl;
            flags = λ name key one. elim (columns name) as (λ o. columns name ≡ o → row_changes name key made.0 ≡ row_changes name key (capture_over session all start)) [
              | None ↦ λ is. none name key is
              | Some flags ↦ λ known.
                  made.2.rows name flags key known
                  ∙ ap (λ o. cons_option o []) (followed_one_flag flags key one.0 (First all name key) (Led all name key) (Now all name key) (in_a_row.under name flags key known) (in_a_row.rows name flags key known) (period.led-flag runs_keep creates_keep rises session start fresh all steady fits name key one.0 one.1))
                  ∙ ap (λ i. cons_option (change_of flags i (First all name key) (Now all name key)) []) (sym (period.over-flag runs_keep creates_keep rises session start fresh all name key one.0 one.1))
                  ∙ sym (period.over-row runs_keep creates_keep rises session start fresh all steady fits name flags key one.0 known)
            ] refl;
            changed = λ name key changed. elim (columns name) as (λ o. columns name ≡ o → row_changes name key made.0 ≡ row_changes name key (capture_over session all start)) [
              | None ↦ λ is. none name key is
              | Some flags ↦ λ known.
                  made.2.rows name flags key known
                  ∙ ap (λ o. cons_option o []) (counted runs_keep creates_keep rises session start fresh event later restarted steady fits name flags key changed known)
                  ∙ sym (period.over-row runs_keep creates_keep rises session start fresh all steady fits name flags key true known)
            ] refl;
          },
        )
