-- A list with one change for each row, added to an empty changegroup, is what it was without its empty groups.
use Rattle.std.proofs.Common.{◌≡◌, ℕ, ◌+◌, Bool, false, cond, List, [], ◌∷◌, ◌++◌, Option, None, Ok, refl, ap, sym, ◌∙◌, arith}
use Rattle.std.specs.Prelude.{map, filter, position}
use Rattle.std.specs.List.{AllByRecursion, IsDistinct}
use Rattle.std.specs.List.Sorted.{IsStrictlySortedBy}
use Rattle.std.proofs.Math.Bool.{and-false}
use Rattle.std.proofs.lemmas.Grind.{common_steps}
use Rattle.std.proofs.lemmas.List.{append-nil, append_assoc, map-id}
use Rattle.std.proofs.lemmas.List.Elements.{recursion_from_All}
use Rattle.std.proofs.lemmas.Simd.{map-map}
use Rattle.cap_value.specs.Bytes.{bytes_eq}
use Rattle.cap_row.specs.Fields.{Fields}
use Rattle.cap_row.specs.Key.{fields_cmp}
use Rattle.cap_changes.specs.Entries.{TableEntries}
use Rattle.cap_changes.specs.declared.patch.Patch.{Patch}
use Rattle.cap_codec.specs.Writable.{has_some, of_patches, with_some}
use Rattle.cap_codec.specs.declared.read.Contents.{Contents}
use Rattle.cap_codec.specs.declared.read.Contents.TheVariants.{Changes, Patches}
use Rattle.cap_group.specs.ChangeKey.{change_key, patch_key}
use Rattle.cap_group.specs.Combined.{combined, patches_combined}
use Rattle.cap_group.specs.KeyedChanges.{KeyedChanges, entries_of, no_changes, with_changes}
use Rattle.cap_group.specs.ChangeGroup.{concat_of, groups_of, has_changes, with_groups}
use Rattle.cap_group_laws.specs.OneEach.{BlobHasOneForEachRow, HasOneForEachRow}
use Rattle.cap_group.proofs.GroupLemmas.{group_copied}
use Rattle.cap_group.proofs.RunLemmas.{rising}

module _ {A X : Type 0} (key : List Bool → X → Fields A) (combine : List Bool → X → X → Option X) where
  -- the table with the changes of a group alone
  abbrev alone : TableEntries X → KeyedChanges A X
  alone group = with_changes key combine (no_changes group.table group.schema) group.changes

  alone_is : (group : TableEntries X) → IsStrictlySortedBy fields_cmp (map (key group.schema) group.changes) → entries_of (alone group) ≡ group
  alone_is group s =
      ap entries_of (rising key combine group.table group.schema group.changes [] (rw map-map s))
      ∙ rw (map-map, map-id) refl

  -- ---- groups of different tables

  -- the groups that are left are of other tables
  abbrev Apart : List (TableEntries X) → List (TableEntries X) → Type 0
  Apart done groups = AllByRecursion (λ group. position (λ t. bytes_eq t.table group.table) done ≡ None) groups

  apart_nil : (groups : List (TableEntries X)) → Apart [] groups
  apart_nil [] = tt
  apart_nil (g ∷ gs) = (refl, apart_nil gs)

  none_more : (name : List ℕ) (done : List (TableEntries X)) (t : TableEntries X) → position (λ u. bytes_eq u.table name) done ≡ None → bytes_eq t.table name ≡ false → position (λ u. bytes_eq u.table name) (done ++ t ∷ []) ≡ None
  none_more name done t none other = grind (arith, common_steps)

  apart_more : (done : List (TableEntries X)) (t : TableEntries X) (groups : List (TableEntries X)) → Apart done groups → AllByRecursion (λ name. bytes_eq t.table name ≡ false) (map (λ (group : TableEntries X). group.table) groups) → Apart (done ++ t ∷ []) groups
  apart_more done t [] others apart = tt
  apart_more done t (g ∷ gs) others apart = (none_more g.table done t others.0 apart.0, apart_more done t gs others.1 apart.1)

  abbrev some : List (TableEntries X) → List (TableEntries X)
  some groups = filter (λ group. has_some group.changes) groups

  taken : (place : ℕ) (groups done : List (TableEntries X)) → Apart done groups → IsDistinct bytes_eq (map (λ (group : TableEntries X). group.table) groups) →
      with_groups key combine place (map alone done) groups ≡ Ok (map alone (done ++ some groups))
  unfolding IsDistinct
  taken place [] done others apart = ap (λ gs. Ok (map alone gs)) (sym (append-nil done))
  taken place (g ∷ gs) done others apart =
      let copied = group_copied key combine place done g others.0 in
      let with_it = taken (place + 1) gs (done ++ g ∷ []) (apart_more done g gs others.1 apart.0) apart.1 in
      let without = taken (place + 1) gs done others.1 apart.1 in
      grind (arith, append_assoc, copied, with_it, without)

  back : (groups : List (TableEntries X)) → AllByRecursion (λ group. IsStrictlySortedBy fields_cmp (map (key group.schema) group.changes)) groups → groups_of (map alone (some groups)) ≡ some groups
  back [] rise = refl
  back (g ∷ gs) rise =
      let here = alone_is g rise.0 in
      let others = back gs rise.1 in
      grind (arith, here, others)

  module _ (groups : List (TableEntries X)) (one : HasOneForEachRow key groups) where
    pub taken_alone : with_groups key combine 0 [] groups ≡ Ok (map alone (some groups))
    taken_alone = taken 0 groups [] (apart_nil groups) one.tables

    pub back_alone : groups_of (map alone (some groups)) ≡ some groups
    back_alone = back groups (recursion_from_All _ groups one.rows)

module _ {A : Type 0} where
  of_some : (groups : List (TableEntries (Patch A))) → cond (has_some groups) (Patches groups) (Changes []) ≡ of_patches groups
  of_some groups = grind arith

  pub one_blob : (blob : Contents A) → BlobHasOneForEachRow blob → concat_of (blob ∷ []) ≡ Ok (with_some blob)
  one_blob (Changes groups) one = rw (and-false (has_changes groups), taken_alone change_key combined groups one, back_alone change_key combined groups one) refl
  one_blob (Patches groups) one =
      rw (and-false (has_changes groups), taken_alone patch_key (λ flags. patches_combined) groups one, back_alone patch_key (λ flags. patches_combined) groups one)
      (ap (λ (b : Contents A). Ok b) (of_some (filter (λ group. has_some group.changes) groups)))
