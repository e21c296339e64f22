-- A captured changeset, its patchset, and what bytes spell fit the columns of their groups.
use Rattle.std.proofs.Common.{◌≡◌, ℕ, Bool, true, Some, List, [], ◌∷◌, map, ap, arith, All, is_some}
use Rattle.cap_changes.specs.KindByte.{changeset_kind, patchset_kind}
use Rattle.cap_changes.specs.Spelling.{SpellsChange, SpellsEach, SpellsPatch}
use Rattle.cap_changes.proofs.ChangeLemmas.{full_fits, update_fits}
use Rattle.cap_codec.specs.Spelling.{Spells, SpellsChanges, SpellsGroup, SpellsPatches}
use Rattle.cap_codec.specs.Writable.{has_some}
use Rattle.cap_apply.proofs.Common.{All-cons, All-map, All-nil, All-weaker, Fields, has_key, TableState, Tables, IsKeyedRow, IsFitting, TableEntries, change_fits, patch_fits, patch_list_of, patch_of, patches_of, patch_of-fits, Contents, Changes, Patches, AllBefore, AllDiffer, TableRows, changes_of, Difference, HoldBefore, IsDifference, IsUnder, FitsItsColumns}
use Rattle.cap_apply.proofs.RowLemmas.{no_key}
use Rattle.cap_apply_laws.proofs.CaptureLemmas.{by_rows}

-- ---- what bytes spell

each-spelled : {X : Type 0} (P : X → Type 0) (one : X → List ℕ → Type 0) → ((x : X) (bytes : List ℕ) → one x bytes → P x) → (xs : List X) (bytes : List ℕ) → SpellsEach one xs bytes → All P xs
each-spelled P one says [] bytes spelled = All-nil P
each-spelled P one says (x ∷ xs) bytes (front, rest, is, here, later) = All-cons P x xs (says x front here) (each-spelled P one says xs rest later)

group-spelled : {X : Type 0} (fits : List Bool → X → Bool) (kind : ℕ) (one : List Bool → X → List ℕ → Type 0) → ((flags : List Bool) (x : X) (bytes : List ℕ) → one flags x bytes → fits flags x ≡ true)
    → (group : TableEntries X) (bytes : List ℕ) → SpellsGroup kind group.table group.schema (one group.schema) group.changes bytes → IsFitting fits group
group-spelled fits kind one says group bytes spelled =
    record { keyed = spelled.named.keyed; each = each-spelled (λ x. fits group.schema x ≡ true) (one group.schema) (says group.schema) group.changes spelled.rest spelled.each }

module _ {A : Type 0} where
  pub spelled_fits : (blob : Contents A) (bytes : List ℕ) → Spells blob bytes → FitsItsColumns blob
  spelled_fits (Changes groups) bytes spelled =
      each-spelled (IsFitting change_fits) SpellsChanges (group-spelled change_fits changeset_kind SpellsChange (λ flags change bytes one. one.0)) groups bytes spelled
  spelled_fits (Patches groups) bytes spelled =
      each-spelled (IsFitting patch_fits) SpellsPatches (group-spelled patch_fits patchset_kind SpellsPatch (λ flags patch bytes one. one.0)) groups bytes spelled.0

  -- ---- one difference

  -- a row under a key has a key column
  keyed-row : (flags : List Bool) (key row : Fields A) → IsUnder flags key (Some row) → (has_key flags ≡ true) × IsKeyedRow flags row
  keyed-row flags key row (wide, under) = let none = no_key flags row in (grind (arith, none), record { wide = wide; keyed = ap is_some under })

  difference-fits : (flags : List Bool) (d : Difference A) → IsDifference flags d → (has_key flags ≡ true) × (change_fits flags d.change ≡ true)
  difference-fits flags d h =
      by_rows flags h.change.0 (λ b a c. IsUnder flags d.key b → IsUnder flags d.key a → (has_key flags ≡ true) × (change_fits flags c ≡ true))
      (λ now _ q. let row = keyed-row flags d.key now q in (row.0, full_fits flags now row.1))
      (λ image p _. let row = keyed-row flags d.key image p in (row.0, full_fits flags image row.1))
      (λ image now _ p q. let row = keyed-row flags d.key now q in (row.0, update_fits flags h.change.0 image now (keyed-row flags d.key image p).1 row.1))
      d.before d.after d.change h.change.1 h.before h.after

  -- ---- those of tables

  differences-fit : (flags : List Bool) (table : TableState A) (ds : List (Difference A)) → HoldBefore flags table ds → All (λ d. change_fits flags d.change ≡ true) ds
  differences-fit flags table [] hold = All-nil (λ (d : Difference A). change_fits flags d.change ≡ true)
  differences-fit flags table (d ∷ ds) hold =
      All-cons (λ (e : Difference A). change_fits flags e.change ≡ true) d ds (difference-fits flags d hold.0).1 (differences-fit flags table ds hold.3)

  table-fits : (t : TableRows A) (ds : List (Difference A)) → has_some ds ≡ true → HoldBefore t.table.schema t.table ds
      → IsFitting change_fits (record { table = t.name; schema = t.table.schema; changes = map (λ (d : Difference A). d.change) ds })
  table-fits t [] some hold = cc
  table-fits t (d ∷ ds) some hold = record {
    keyed = (difference-fits t.table.schema d hold.0).0;
    each = All-map (λ change. change_fits t.table.schema change ≡ true) (λ (e : Difference A). e.change) (d ∷ ds) (differences-fit t.table.schema t.table (d ∷ ds) hold);
  }

  pub changeset-fits : (ts : List (TableRows A)) (database : Tables A) → AllBefore ts database → AllDiffer ts → FitsItsColumns (Changes (map changes_of ts))
  changeset-fits [] database before differ = All-nil (IsFitting change_fits)
  changeset-fits (t ∷ ts) database before differ =
      All-cons (IsFitting change_fits) (changes_of t) (map changes_of ts) (table-fits t t.differences differ.0 before.0.rows) (changeset-fits ts database before.2 differ.1)

  pub patchset-fits : (ts : List (TableRows A)) (database : Tables A) → AllBefore ts database → AllDiffer ts → FitsItsColumns (Patches (patch_list_of (map changes_of ts)))
  patchset-fits ts database before differ =
      All-map (IsFitting patch_fits) patches_of (map changes_of ts) (All-weaker (IsFitting change_fits) (λ group. IsFitting patch_fits (patches_of group))
      (λ group fit. record {
        keyed = fit.keyed;
        each = All-map (λ patch. patch_fits group.schema patch ≡ true) (patch_of group.schema) group.changes
            (All-weaker (λ change. change_fits group.schema change ≡ true) (λ change. patch_fits group.schema (patch_of group.schema change) ≡ true) (patch_of-fits group.schema) group.changes fit.each);
      }) (map changes_of ts) (changeset-fits ts database before differ))
