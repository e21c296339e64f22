-- The bytes of a dump spell its groups, those without changes too.
use Rattle.std.proofs.Common.{◌≡◌, ◌<◌, ◌+◌, ℕ, Bool, true, false, cond, List, [], ◌∷◌, ◌++◌, Ok, length, map, filter, flat_map, get_or, drop, drop-cons, add-one, refl, sym, ap, ap₂, ◌∙◌, append_assoc}
use Rattle.std.specs.Prelude.{All, IfSome, OnOk, Result, Err}
use Rattle.std.specs.List.{AllByRecursion}
use Rattle.std.proofs.lemmas.List.{append-nil}
use Rattle.std.proofs.lemmas.List.Elements.{All-from_recursion, recursion_from_All}
use Rattle.cap_value.specs.Value.{IsValue}
use Rattle.cap_row.specs.Fields.{Fields}
use Rattle.cap_row.specs.Schema.{has_key}
use Rattle.cap_table.specs.Sound.{IsRising}
use Rattle.cap_table.specs.Table.{TableState}
use Rattle.cap_database.specs.Tables.{EachRises, Tables}
use Rattle.cap_changes.specs.Change.{full_record}
use Rattle.cap_changes.specs.Fits.{change_fits}
use Rattle.cap_codec.specs.BlobReading.{blob_at}
use Rattle.cap_changes.specs.ChangeBytes.{change_bytes, flag_byte}
use Rattle.cap_codec.specs.Changeset.{flags_bytes, header_bytes}
use Rattle.cap_changes.specs.Spelling.{SpellsChange, SpellsEach}
use Rattle.cap_codec.specs.Spelling.{SpellsChanges}
use Rattle.cap_field.specs.Varint.{varint_bytes}
use Rattle.cap_changes.specs.HasValues.{AreValues}
use Rattle.cap_codec.specs.declared.key_flags.KeyFlags.{KeyFlags}
use Rattle.cap_codec.specs.declared.read.Contents.TheVariants.{Changes}
use Rattle.cap_codec.proofs.BlobAgain.{blob_again}
use Rattle.cap_codec.proofs.KeyFlagLemmas.{flags_set}
use Rattle.cap_dump.specs.Dump.{dump, dump_bytes, insert_of, inserts_of, keyed_part, whole_group_bytes}
use Rattle.cap_dump.specs.Limits.{HasLimits, HaveValues}
use Rattle.cap_dump.proofs.LoadLemmas.{part_rises, table_fits}

module _ {A : Type 0} where
  defined_values : (row : Fields A) → AllByRecursion IsValue row → AllByRecursion (λ field. IfSome field IsValue) (full_record row)
  defined_values [] values = tt
  defined_values (value ∷ row) values = (values.0, defined_values row values.1)

  -- each INSERT spells a row
  inserts_spelled : (schema : List Bool) (rows : List (Fields A × Fields A)) → HaveValues rows → AllByRecursion (λ change. change_fits schema change ≡ true) (map (λ row. insert_of row.1) rows)
      → SpellsEach (SpellsChange schema) (map (λ row. insert_of row.1) rows) (flat_map change_bytes (map (λ row. insert_of row.1) rows))
  inserts_spelled schema [] values fit = refl
  inserts_spelled schema (row ∷ rows) values fit =
      let are : AreValues (full_record row.1) = All-from_recursion (λ field. IfSome field IsValue) (full_record row.1) (defined_values row.1 (recursion_from_All IsValue row.1 values.0)) in (
        change_bytes (insert_of row.1),
        flat_map change_bytes (map (λ r. insert_of r.1) rows),
        refl,
        (fit.0, are, (flag_byte false, refl, refl)),
        inserts_spelled schema rows values.1 fit.1,
      )

  group_spelled : (key_flags : KeyFlags) (p : List ℕ × TableState A) → has_key p.1.schema ≡ true → IsRising p.1 → HasLimits p → SpellsChanges (inserts_of p) (whole_group_bytes key_flags (inserts_of p))
  group_spelled key_flags p keyed rises limits =
      let changes = map (λ row. insert_of row.1) p.1.keyed in
      let rest = flat_map change_bytes changes in
      let fits = table_fits p keyed rises in
      record {
        named = record { name = limits.name; utf8 = limits.utf8; columns = limits.columns; keyed = keyed };
        flags = flags_bytes key_flags p.1.schema;
        flagged = flags_set key_flags p.1.schema;
        rest = rest;
        parts = ap (λ (b : List ℕ). 0x54 ∷ b) (append_assoc (varint_bytes (length p.1.schema) ++ flags_bytes key_flags p.1.schema ++ p.0) (0 ∷ []) rest);
        each = inserts_spelled p.1.schema p.1.keyed limits.values (recursion_from_All (λ change. change_fits p.1.schema change ≡ true) changes fits.each);
      }

  part_limits : (t : List ℕ × TableState A) → HasLimits t → HasLimits (t.0, keyed_part t.1)
  part_limits t limits = record { name = limits.name; utf8 = limits.utf8; columns = limits.columns; values = limits.values }

  groups_spelled : (key_flags : KeyFlags) (tables : Tables A) → EachRises tables → AllByRecursion HasLimits tables → SpellsEach SpellsChanges (dump tables) (dump_bytes key_flags tables)
  groups_spelled key_flags [] rise limits = refl
  groups_spelled key_flags (t ∷ tables) rise limits =
      elim (has_key t.1.schema) as (λ b. has_key t.1.schema ≡ b → SpellsEach SpellsChanges (map inserts_of (map (λ (n : List ℕ × TableState A). (n.0, keyed_part n.1)) (cond b (t ∷ filter (λ n. has_key n.1.schema) tables) (filter (λ n. has_key n.1.schema) tables))))
      (flat_map (whole_group_bytes key_flags) (map inserts_of (map (λ (n : List ℕ × TableState A). (n.0, keyed_part n.1)) (cond b (t ∷ filter (λ n. has_key n.1.schema) tables) (filter (λ n. has_key n.1.schema) tables)))))) [
        | true ↦ λ is. (
          whole_group_bytes key_flags (inserts_of (t.0, keyed_part t.1)),
          dump_bytes key_flags tables,
          refl,
          group_spelled key_flags (t.0, keyed_part t.1) is (part_rises t.1 rise.0) (part_limits t limits.0),
          groups_spelled key_flags tables rise.1 limits.1,
        )
        | false ↦ λ is. groups_spelled key_flags tables rise.1 limits.1
      ] refl

  -- the bytes of a dump are read as it
  pub read_again : (tables : Tables A) → EachRises tables → All HasLimits tables → (key_flags : KeyFlags) → blob_at (dump_bytes key_flags tables) ≡ Ok (Changes (dump tables))
  read_again tables rise limits key_flags =
      blob_again (Changes (dump tables)) (dump_bytes key_flags tables) (groups_spelled key_flags tables rise (recursion_from_All HasLimits tables limits))

-- ---- the bytes of one table more

module _ {A : Type 0} where
  pub first_table : (key_flags : KeyFlags) (t : List ℕ × TableState A) (tables : Tables A) → dump_bytes key_flags (t ∷ tables) ≡ dump_bytes key_flags (t ∷ []) ++ dump_bytes key_flags tables
  first_table key_flags t tables =
      elim (has_key t.1.schema) as (λ b. flat_map (whole_group_bytes key_flags) (map inserts_of (map (λ (n : List ℕ × TableState A). (n.0, keyed_part n.1)) (cond b (t ∷ filter (λ n. has_key n.1.schema) tables) (filter (λ n. has_key n.1.schema) tables))))
      ≡ flat_map (whole_group_bytes key_flags) (map inserts_of (map (λ (n : List ℕ × TableState A). (n.0, keyed_part n.1)) (cond b (t ∷ []) []))) ++ dump_bytes key_flags tables) [
        | true ↦ ap (λ (bytes : List ℕ). bytes ++ dump_bytes key_flags tables) (sym (append-nil (whole_group_bytes key_flags (inserts_of (t.0, keyed_part t.1)))))
        | false ↦ refl
      ]

  -- one table more is written
  pub one_more : (key_flags : KeyFlags) (out new : List ℕ) (t : List ℕ × TableState A) (tables : Tables A) → new ≡ out ++ dump_bytes key_flags (t ∷ []) → new ++ dump_bytes key_flags tables ≡ out ++ dump_bytes key_flags (t ∷ tables)
  one_more key_flags out new t tables is =
      ap (λ (bytes : List ℕ). bytes ++ dump_bytes key_flags tables) is
      ∙ append_assoc out (dump_bytes key_flags (t ∷ [])) (dump_bytes key_flags tables)
      ∙ ap (λ (bytes : List ℕ). out ++ bytes) (sym (first_table key_flags t tables))

  -- the same of the tables that are left
  pub one_more_at : (key_flags : KeyFlags) (tables : Tables A) (i : ℕ) (t : List ℕ × TableState A) (out new all : List ℕ) → i < length tables → t ≡ get_or tables i t → new ≡ out ++ dump_bytes key_flags (t ∷ [])
      → out ++ dump_bytes key_flags (drop i tables) ≡ all → new ++ dump_bytes key_flags (drop (i + 1) tables) ≡ all
  one_more_at key_flags tables i t out new all lt same is so_far =
      let rest : drop i tables ≡ t ∷ drop (i + 1) tables = drop-cons tables i t lt ∙ ap₂ (λ u k. u ∷ drop k tables) (sym same) (sym (add-one i)) in
      one_more key_flags out new t (drop (i + 1) tables) is ∙ ap (λ ts. out ++ dump_bytes key_flags ts) (sym rest) ∙ so_far

  -- the group of a table that has key columns, or nothing
  pub own_group : (key_flags : KeyFlags) (t : List ℕ × TableState A) → has_key t.1.schema ≡ true → dump_bytes key_flags (t ∷ []) ≡ whole_group_bytes key_flags (inserts_of (t.0, keyed_part t.1))
  own_group key_flags t is = rw is (append-nil (whole_group_bytes key_flags (inserts_of (t.0, keyed_part t.1))))

  pub no_group : (key_flags : KeyFlags) (t : List ℕ × TableState A) → has_key t.1.schema ≡ false → dump_bytes key_flags (t ∷ []) ≡ []
  no_group key_flags t is = rw is refl

  -- the INSERTs of a table, row by row
  pub row_bytes : (rows : List (Fields A × Fields A)) → flat_map change_bytes (map (λ row. insert_of row.1) rows) ≡ flat_map (λ row. change_bytes (insert_of row.1)) rows
  row_bytes [] = refl
  row_bytes (row ∷ rows) = ap (λ (bytes : List ℕ). change_bytes (insert_of row.1) ++ bytes) (row_bytes rows)

  -- a group is written: its header, and then the rows
  pub group_written : {X E : Type 0} (r : Result X E) (key_flags : KeyFlags) (out mid new : List ℕ) (t : List ℕ × TableState A) → mid ≡ out ++ header_bytes key_flags 0x54 t.0 t.1.schema
      → OnOk r (new ≡ mid ++ flat_map (λ (row : Fields A × Fields A). change_bytes (insert_of row.1)) t.1.keyed) → OnOk r (new ≡ out ++ whole_group_bytes key_flags (inserts_of (t.0, keyed_part t.1)))
  group_written (Ok x) key_flags out mid new t headed rows =
      let header = header_bytes key_flags 0x54 t.0 t.1.schema in
      let inserts = flat_map (λ (row : Fields A × Fields A). change_bytes (insert_of row.1)) t.1.keyed in
      rows ∙ ap (λ (b : List ℕ). b ++ inserts) headed ∙ append_assoc out header inserts ∙ ap (λ (b : List ℕ). out ++ (header ++ b)) (sym (row_bytes t.1.keyed))
  group_written (Err why) key_flags out mid new t headed rows = tt

  -- all of one table keep the limits
  pub one_limits : (t : List ℕ × TableState A) → HasLimits t → All HasLimits (t ∷ [])
  one_limits t limits = All-from_recursion HasLimits (t ∷ []) (limits, tt)
