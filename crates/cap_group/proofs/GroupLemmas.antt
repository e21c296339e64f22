-- The tables of a changegroup, found by their names, and the groups that are added to them.
use Rattle.std.proofs.Common.{◌≡◌, ℕ, ◌+◌, ◌<◌, ltb, List, [], ◌∷◌, ◌++◌, length, take, get_or, set, cond, Bool, true, false, Option, Some, None, Ok, Err, Result, refl, ap, sym, ◌∙◌, arith}
use Rattle.std.specs.Prelude.{map, not, position, ◌==◌}
use Rattle.std.specs.List.{position_or_len}
use Rattle.std.specs.Option.{option_map}
use Rattle.std.proofs.lemmas.Bool.Decides.{nat_tests}
use Rattle.std.specs.Cmp.{booleans_Decides}
use Rattle.std.proofs.Math.Seq.{map-set_same}
use Rattle.std.proofs.lemmas.Slice.Eq.{bytes_eq-Decides, slice_eq-Decides}
use Rattle.std.proofs.lemmas.List.{map-append, map-set, take_more}
use Rattle.std.proofs.lemmas.List.Elements.{filter-append}
use Rattle.std.proofs.lemmas.List.Quantifiers.{position-Some}
use Rattle.std.proofs.lemmas.List.Sums.{fold-append}
use Rattle.cap_value.specs.Bytes.{bytes_eq}
use Rattle.cap_value.specs.declared.memory.Fault.{Fault}
use Rattle.cap_value.specs.Memory.{LeavesUnlessMemory}
use Rattle.cap_row.specs.Fields.{Fields}
use Rattle.cap_row.specs.Schema.{flags_eq}
use Rattle.cap_changes.specs.Entries.{TableEntries}
use Rattle.cap_codec.specs.Writable.{has_some}
use Rattle.cap_group.specs.KeyedChanges.{KeyedChanges, entries_of, keyed_of, no_changes, table_at, with_change, with_changes, with_table}
use Rattle.cap_group.specs.ChangeGroup.{and_then, groups_of, with_group}
use Rattle.cap_group.specs.declared.refusal.GroupRefusal.TheVariants.{OtherColumns}

pub flags_same : (a b : List Bool) → flags_eq a b ≡ true → a ≡ b
flags_same a b e = (slice_eq-Decides booleans_Decides a b (flags_eq a b) refl).0 e

flags_self : (a : List Bool) → flags_eq a a ≡ true
flags_self a = (slice_eq-Decides booleans_Decides a a (flags_eq a a) refl).1 refl

module _ {A X : Type 0} (key : List Bool → X → Fields A) (combine : List Bool → X → X → Option X) where
  pub kept_names : (keyed : KeyedChanges A X) (changes : List X) → with_changes key combine keyed changes ≡ record keyed { changes = (with_changes key combine keyed changes).changes }
  kept_names keyed [] = refl
  kept_names keyed (change ∷ changes) = kept_names (with_change key combine keyed change) changes

  pub kept_table : (keyed : KeyedChanges A X) (changes : List X) → (with_changes key combine keyed changes).table ≡ keyed.table
  kept_table keyed changes = ap (λ (t : KeyedChanges A X). t.table) (kept_names keyed changes)

  kept_schema : (keyed : KeyedChanges A X) (changes : List X) → (with_changes key combine keyed changes).schema ≡ keyed.schema
  kept_schema keyed changes = ap (λ (t : KeyedChanges A X). t.schema) (kept_names keyed changes)

  abbrev keyed : TableEntries X → KeyedChanges A X
  keyed group = keyed_of key combine group

  module _ (name : List ℕ) where
    abbrev pub named : TableEntries X → Bool
    named group = bytes_eq group.table name

    named_is : (group : TableEntries X) → bytes_eq (keyed group).table name ≡ named group
    named_is group = ap (λ n. bytes_eq n name) (kept_table (no_changes group.table group.schema) group.changes)

    -- the first table of the name, and the tables with another one in its place
    found : (tables : List (TableEntries X)) (d : TableEntries X) → table_at (map keyed tables) name ≡ option_map (λ i. keyed (get_or tables i d)) (position named tables)
    found [] d = refl
    found (u ∷ us) d = grind (arith, nat_tests, named_is u, found us d)

    put : (tables : List (TableEntries X)) (t : KeyedChanges A X) → t.table ≡ name →
        with_table (map keyed tables) t ≡ cond (ltb (position_or_len named tables) (length tables)) (set (map keyed tables) (position_or_len named tables) t) (map keyed tables ++ t ∷ [])
    put [] t same = refl
    put (u ∷ us) t same = grind (arith, nat_tests, named_is u, put us t same)

  -- a group is appended to the table at the place, or refused
  pub group_put : (place : ℕ) (tables : List (TableEntries X)) (i : ℕ) (d made group : TableEntries X) → position (named group.table) tables ≡ Some i → flags_eq (get_or tables i d).schema group.schema ≡ true →
      made ≡ record { table = (get_or tables i d).table; schema = (get_or tables i d).schema; changes = (get_or tables i d).changes ++ group.changes } →
      with_group key combine place (map keyed tables) group ≡ Ok (map keyed (set tables i made))
  group_put place tables i d made group at same is =
      let first = get_or tables i d in
      let all = with_changes key combine (keyed first) group.changes in
      let table : all.table ≡ group.table =
      kept_table (keyed first) group.changes ∙ kept_table (no_changes first.table first.schema) first.changes ∙ (bytes_eq-Decides first.table group.table).0 (position-Some (named group.table) tables i d at).1 in
      let in_place : with_table (map keyed tables) all ≡ set (map keyed tables) i all = grind (arith, put group.table tables all table) in
      rw (found group.table tables d, at, kept_schema, same, in_place, map-set) (ap (λ t. Ok (set (map keyed tables) i t)) (sym (ap keyed is ∙ fold-append (with_change key combine) (no_changes first.table first.schema) first.changes group.changes)))

  pub group_refused_at : (place : ℕ) (tables : List (TableEntries X)) (i : ℕ) (d group : TableEntries X) → position (named group.table) tables ≡ Some i → flags_eq (get_or tables i d).schema group.schema ≡ false →
      with_group key combine place (map keyed tables) group ≡ Err (OtherColumns place)
  group_refused_at place tables i d group at other = rw (found group.table tables d, at, kept_schema, other) refl

  -- the group of a table that is not there yet
  pub group_copied : (place : ℕ) (tables : List (TableEntries X)) (group : TableEntries X) → position (named group.table) tables ≡ None → with_group key combine place (map keyed tables) group ≡ Ok (map keyed (tables ++ group ∷ []))
  group_copied place tables group at =
      let last : with_table (map keyed tables) (keyed group) ≡ map keyed tables ++ keyed group ∷ [] = grind (arith, put group.table tables (keyed group) (kept_table (no_changes group.table group.schema) group.changes)) in
      rw (map-append, found group.table tables group, at, flags_self, last) refl

-- the tables that have changes, with one more
pub groups_more : {A X : Type 0} (f : TableEntries X → KeyedChanges A X) (tables : List (TableEntries X)) (i : ℕ) (t made : TableEntries X) → i < length tables → t ≡ get_or tables i t → made ≡ entries_of (f t) →
    groups_of (map f (take (i + 1) tables)) ≡ groups_of (map f (take i tables)) ++ cond (has_some made.changes) (made ∷ []) []
groups_more f tables i t made within is made_is =
    ap (λ l. groups_of (map f l)) (take_more tables i t within ∙ ap (λ u. take i tables ++ u ∷ []) (sym is))
    ∙ rw (map-append, map-append, filter-append, made_is) refl

-- what follows from a call that left this
pub leaves_then : {X Y E : Type 0} (result : Result (Unit {0}) (Fault E)) (answer : Result X E) (x : X) (f : X → Y) → LeavesUnlessMemory result answer x →
    LeavesUnlessMemory result (and_then answer (λ t. Ok (f t))) (f x)
leaves_then result answer x f is = grind arith

-- what comes first was refused, and the whole is then, or memory is out
pub leaves_whole : {X E : Type 0} (fault : Fault E) (one whole : Result X E) (x y : X) → LeavesUnlessMemory {X = Unit {0}} (Err fault) one x →
    ((why : E) → one ≡ Err why → whole ≡ Err why) → LeavesUnlessMemory {X = Unit {0}} (Err fault) whole y
leaves_whole fault one whole x y is then = grind (arith, then)

-- whether a group has changes, by how many there are
pub some_is : {X : Type 0} (xs : List X) → has_some xs ≡ not (length xs == 0)
some_is [] = refl
some_is (x ∷ xs) = grind (arith, nat_tests)

-- one element in place of another that shows the same
pub ruleset set_same = (map-set_same)
