-- What becomes of one change over one remote change of its row: its flag, and that it fits its table.
use Rattle.std.proofs.Common.{◌≡◌, List, [], ◌∷◌, Bool, true, false, Option, Some, None, is_some, is_none, cond, refl}
use Rattle.std.specs.Prelude.{IfSome, IsTrue}
use Rattle.std.specs.Option.{option_map}
use Rattle.std.specs.List.{list_any}
use Rattle.std.proofs.lemmas.Bool.{and_parts, and_from}
use Rattle.cap_value.specs.declared.value.Value.{Value}
use Rattle.cap_changes.specs.Column.{by_column}
use Rattle.cap_changes.specs.FieldRecord.{RecordFields}
use Rattle.cap_changes.specs.Fits.{change_fits}
use Rattle.cap_changes.specs.Invert.{inverse_of}
use Rattle.cap_changes.specs.Requirements.{requirements, new_requirements, new_requirement, satisfies, satisfy}
use Rattle.cap_changes.specs.declared.row_change.RowChange.{RowChange}
use Rattle.cap_changes.specs.declared.row_change.RowChange.TheVariants.{Insert, Update, Delete}
use Rattle.cap_changes.specs.declared.field_requirement.FieldRequirement.TheVariants as required
use Rattle.cap_changes.specs.declared.record_kind.RecordKind.TheVariants as record_kinds
use Rattle.cap_changes.proofs.InvertLemmas.{inverse_of-fits}
use Rattle.cap_group.specs.Combined.{combined}
use Rattle.cap_group.specs.Record.{differ, old_field, new_field, update_between}
use Rattle.cap_group.specs.Rows.{is_indirect}
use Rattle.cap_group.proofs.FitLemmas.{combined-fits}
use Rattle.cap_rebase.specs.Flag.{flagged}
use Rattle.cap_rebase.specs.Rebase.{field_left, new_left, old_left, over_omitted, over_replaced, rebased}

if_some : {X : Type 0} (b : Bool) (x : X) (fits : X → Bool) → fits x ≡ true → IfSome (cond b (Some x) None) (λ one. IsTrue (fits one))
if_some true x fits h = h
if_some false x fits h = tt

module _ {A : Type 0} where
  -- an update that is made with one flag and then has another
  pub reflagged : (flags : List Bool) (flag indirect : Bool) (before after : RecordFields A) →
      option_map (flagged indirect) (update_between flags flag before after) ≡ update_between flags indirect before after
  reflagged flags flag indirect before after =
      elim (differ flags before after) as (λ b.
      option_map (flagged indirect) (cond b (Some (Update flag (by_column old_field flags before after) (by_column new_field flags before after))) None)
      ≡ cond b (Some (Update indirect (by_column old_field flags before after) (by_column new_field flags before after))) None) [
        | true ↦ refl
        | false ↦ refl
      ]

  flagged-fits : (flags : List Bool) (flag : Bool) (change : RowChange A) → change_fits flags change ≡ true → change_fits flags (flagged flag change) ≡ true
  flagged-fits flags flag (Insert indirect new) fit = fit
  flagged-fits flags flag (Update indirect old new) fit = fit
  flagged-fits flags flag (Delete indirect old) fit = fit

  reflagged-fits : (flags : List Bool) (flag : Bool) (o : Option (RowChange A)) → IfSome o (λ one. IsTrue (change_fits flags one)) →
      IfSome (option_map (flagged flag) o) (λ one. IsTrue (change_fits flags one))
  reflagged-fits flags flag None h = h
  reflagged-fits flags flag (Some change) h = flagged-fits flags flag change h

  -- ---- the columns that are left of an update

  left_field_fits : (old new remote : Option (Value A)) → satisfies (new_requirement (false, old)) new ≡ true →
      satisfies (new_requirement (false, old_left false old (field_left new remote))) (field_left new remote) ≡ true
  left_field_fits old new (Some value) met = refl
  left_field_fits old None None met = refl
  left_field_fits None (Some value) None met = cc
  left_field_fits (Some before) (Some value) None met = refl

  left_key_fits : (new remote : Option (Value A)) → is_none new ≡ true → is_none (field_left new remote) ≡ true
  left_key_fits new None none = none
  left_key_fits new (Some value) none = refl

  left_fits : (flags : List Bool) (old new old' new' : RecordFields A) →
      satisfy (requirements record_kinds.Keyed flags) old ≡ true → satisfy (new_requirements flags old) new ≡ true →
      satisfy (requirements record_kinds.Keyed flags) old' ≡ true → satisfy (new_requirements flags old') new' ≡ true →
      (satisfy (requirements record_kinds.Keyed flags) (by_column old_left flags old (new_left new new')) ≡ true)
      × (satisfy (new_requirements flags (by_column old_left flags old (new_left new new'))) (new_left new new') ≡ true)
  left_fits [] [] [] [] [] met new_met met' new_met' = (refl, refl)
  left_fits [] [] [] [] (n' ∷ new') met new_met met' new_met' = cc
  left_fits [] [] [] (o' ∷ old') new' met new_met met' new_met' = cc
  left_fits [] [] (n ∷ new) old' new' met new_met met' new_met' = cc
  left_fits [] (o ∷ old) new old' new' met new_met met' new_met' = cc
  left_fits (key ∷ flags) [] new old' new' met new_met met' new_met' = cc
  left_fits (key ∷ flags) (o ∷ old) [] old' new' met new_met met' new_met' = cc
  left_fits (key ∷ flags) (o ∷ old) (n ∷ new) [] new' met new_met met' new_met' = cc
  left_fits (key ∷ flags) (o ∷ old) (n ∷ new) (o' ∷ old') [] met new_met met' new_met' = cc
  left_fits (true ∷ flags) (o ∷ old) (n ∷ new) (o' ∷ old') (n' ∷ new') met new_met met' new_met' =
      let olds = and_parts (satisfies required.Key o) (satisfy (requirements record_kinds.Keyed flags) old) met in
      let news = and_parts (is_none n) (satisfy (new_requirements flags old) new) new_met in
      let olds' = and_parts (satisfies required.Key o') (satisfy (requirements record_kinds.Keyed flags) old') met' in
      let news' = and_parts (is_none n') (satisfy (new_requirements flags old') new') new_met' in
      let rest = left_fits flags old new old' new' olds.1 news.1 olds'.1 news'.1 in (
        and_from (satisfies required.Key o) _ olds.0 rest.0,
        and_from (is_none (field_left n n')) _ (left_key_fits n n' news.0) rest.1,
      )
  left_fits (false ∷ flags) (o ∷ old) (n ∷ new) (o' ∷ old') (n' ∷ new') met new_met met' new_met' =
      let news = and_parts (satisfies (new_requirement (false, o)) n) (satisfy (new_requirements flags old) new) new_met in
      let news' = and_parts (satisfies (new_requirement (false, o')) n') (satisfy (new_requirements flags old') new') new_met' in
      let rest = left_fits flags old new old' new' met news.1 met' news'.1 in (
        rest.0,
        and_from (satisfies (new_requirement (false, old_left false o (field_left n n'))) (field_left n n')) _ (left_field_fits o n n' news.0) rest.1,
      )

  -- ---- what is left of a change fits

  pub omitted-fits : (flags : List Bool) (remote local : RowChange A) → change_fits flags remote ≡ true → change_fits flags local ≡ true →
      IfSome (over_omitted flags remote local) (λ one. IsTrue (change_fits flags one))
  omitted-fits flags remote local fit fit' =
      reflagged-fits flags (is_indirect local) (combined flags (inverse_of flags remote) local)
      (combined-fits flags (inverse_of flags remote) local (inverse_of-fits flags remote fit) fit')

  pub replaced-fits : (flags : List Bool) (remote local : RowChange A) → change_fits flags remote ≡ true → change_fits flags local ≡ true →
      IfSome (over_replaced flags remote local) (λ one. IsTrue (change_fits flags one))
  replaced-fits flags (Insert indirect new) local fit fit' = tt
  replaced-fits flags (Delete indirect old) local fit fit' = tt
  replaced-fits flags (Update indirect old new) (Insert indirect' new') fit fit' = tt
  replaced-fits flags (Update indirect old new) (Delete indirect' old') fit fit' = tt
  replaced-fits flags (Update indirect old new) (Update indirect' old' new') fit fit' =
      let remotes = and_parts (satisfy (requirements record_kinds.Keyed flags) old) (satisfy (new_requirements flags old) new) fit in
      let locals = and_parts (satisfy (requirements record_kinds.Keyed flags) old') (satisfy (new_requirements flags old') new') fit' in
      let both = left_fits flags old' new' old new locals.0 locals.1 remotes.0 remotes.1 in
      if_some (list_any is_some (new_left new' new)) (Update indirect' (by_column old_left flags old' (new_left new' new)) (new_left new' new)) (change_fits flags)
      (and_from (satisfy (requirements record_kinds.Keyed flags) (by_column old_left flags old' (new_left new' new))) _ both.0 both.1)

  either : (b : Bool) (x y : Option (RowChange A)) (P : RowChange A → Type 0) → IfSome x P → IfSome y P → IfSome (cond b x y) P
  either true x y P h h' = h
  either false x y P h h' = h'

  pub rebased-fits : (flags : List Bool) (remote local : RowChange A) → change_fits flags remote ≡ true → change_fits flags local ≡ true →
      IfSome (rebased flags remote local) (λ one. IsTrue (change_fits flags one))
  rebased-fits flags remote local fit fit' =
      either (is_indirect remote) (over_replaced flags remote local) (over_omitted flags remote local) (λ one. IsTrue (change_fits flags one))
      (replaced-fits flags remote local fit fit') (omitted-fits flags remote local fit fit')
