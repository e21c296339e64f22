-- What was read is spelled by the bytes that were read: headers, groups and blobs.
use Rattle.cap_codec.proofs.Common.{◌≡◌, ℕ, zero, suc, ◌≤◌, Bool, true, ◌==◌, List, [], ◌∷◌, ◌++◌, length, take, map, Result, Ok, IsTrue, IsUtf8, refl, ap, subst, ◌∙◌, append_assoc, arith, length-take, length-append, list_any, position_or_len, nat_tests, eqb-true, length-map, IsUtf8-from_is_utf8, AreBytes, is_name, TableChanges, TablePatches, BlobFault, Contents, Changes, Header, is_zero, count_at, flags_at, name_at, header_at, is_set, change_at, patch_at, changes_at, varint_bytes, is_operation, TableEntries, entries_at, groups_at, blob_at, SpellsEach, SpellsChange, SpellsPatch, SpellsChanges, SpellsPatches, Spells, IsTable, bind_ok, check_ok, ok_is, AreLow, low_behind, varint_spelled, bytes_spelled}
use Rattle.cap_codec.proofs.HeaderLemmas.{zero_at, key_is_set, name_before}
use Rattle.cap_codec.proofs.BlobAgain.{SpelledAs}
use Rattle.cap_changes.proofs.ChangeSpelled.{Begins, change_spelled, patch_spelled, each_spelled}

-- ---- headers

pub count_spelled : (total : ℕ) (bytes : List ℕ) (x : ℕ × List ℕ) → AreLow bytes → count_at total bytes ≡ Ok x → (1 ≤ x.0) × (x.0 ≤ 2000) × (bytes ≡ varint_bytes x.0 ++ x.1)
unfolding count_at
count_spelled total bytes x low e = let number = varint_spelled total bytes x low in grind (arith, nat_tests, number)

pub flags_spelled : (total count : ℕ) (bytes : List ℕ) (x : List ℕ × List ℕ) → flags_at total count bytes ≡ Ok x → (list_any is_set x.0 ≡ true) × (length x.0 ≡ count) × (bytes ≡ x.0 ++ x.1)
unfolding flags_at
flags_spelled total count bytes x e = let parts = bytes_spelled total count bytes x in grind (arith, parts)

name_spelled : (total : ℕ) (bytes : List ℕ) (x : List ℕ × List ℕ) → name_at total bytes ≡ Ok x → IsTrue (is_name x.0) × IsUtf8 x.0 × (bytes ≡ x.0 ++ 0 ∷ x.1)
unfolding name_at
name_spelled total bytes x e =
    let len = position_or_len is_zero (take 256 bytes) in
    let before = name_before bytes len in
    let parts = zero_at 256 bytes in
    let utf8 = IsUtf8-from_is_utf8 (take len bytes) in
    let long = length-take 256 bytes in
    grind (arith, nat_tests, before, parts, utf8, long)

abbrev IsHeader : List ℕ → Header × List ℕ → Type 0
IsHeader bytes x = IsTable x.0.table x.0.flags × ((flags : List ℕ) × (map is_set flags ≡ x.0.flags) × (bytes ≡ varint_bytes (length x.0.flags) ++ flags ++ x.0.table ++ 0 ∷ x.1))

pub header_spelled : (total : ℕ) (bytes : List ℕ) (x : Header × List ℕ) → AreLow bytes → header_at total bytes ≡ Ok x → IsHeader bytes x
unfolding header_at
header_spelled total bytes x low e =
    let count = bind_ok (count_at total bytes) _ x e in
    let flags = bind_ok (flags_at total count.0.0 count.0.1) _ x count.2 in
    let name = bind_ok (name_at total flags.0.1) _ x flags.2 in
    let columns = count_spelled total bytes count.0 low count.1 in
    let keyed = flags_spelled total count.0.0 count.0.1 flags.0 flags.1 in
    let named = name_spelled total flags.0.1 name.0 name.1 in
    let long = length-map flags.0.0 is_set in
    let table : IsTable name.0.0 (map is_set flags.0.0) = record { name = named.0; utf8 = named.1; columns = grind (arith, nat_tests, long, columns, keyed); keyed = key_is_set flags.0.0 ∙ keyed.0 } in
    subst (IsHeader bytes) (ok_is _ x name.2) (table, (flags.0.0, refl, grind (arith, append_assoc, columns, keyed, named, long)))

-- ---- groups

module _ {X : Type 0} (one_at : ℕ → List Bool → ℕ → List ℕ → Result (X × List ℕ) BlobFault) (kind : ℕ) (one : List Bool → X → List ℕ → Type 0)
    (spelled : (total : ℕ) (flags : List Bool) (op : ℕ) (bytes : List ℕ) (x : X × List ℕ) → AreLow bytes → is_operation op ≡ true → one_at total flags op bytes ≡ Ok x → Begins (one flags) op bytes x) where
  -- the kind byte and these bytes begin with a group, and with what is left
  abbrev BeginsGroup : List ℕ → TableEntries X × List ℕ → Type 0
  BeginsGroup bytes x = (front : List ℕ) × (bytes ≡ front ++ x.1) × SpelledAs kind one x.0 (kind ∷ front)

  group_spelled : (total : ℕ) (bytes : List ℕ) (x : TableEntries X × List ℕ) → AreLow bytes → entries_at one_at total bytes ≡ Ok x → BeginsGroup bytes x
  group_spelled total bytes x low e =
      let header = bind_ok (header_at total bytes) _ x e in
      let changes = bind_ok (changes_at one_at (length header.0.1) total header.0.0.flags header.0.1) _ x header.2 in
      let (table, (flags, flagged, parts)) = header_spelled total bytes header.0 low header.1 in
      let start = varint_bytes (length header.0.0.flags) ++ flags ++ header.0.0.table in
      let low' = low_behind bytes (start ++ 0 ∷ []) header.0.1 (grind (arith, append_assoc, parts)) low in
      let (front, is, each) = each_spelled one_at total header.0.0.flags (one header.0.0.flags) (spelled total header.0.0.flags) (length header.0.1) header.0.1 changes.0 low' changes.1 in
      subst (BeginsGroup bytes) (ok_is _ x changes.2)
      (start ++ 0 ∷ front, grind (arith, append_assoc, parts, is), record { named = table; flags = flags; flagged = flagged; rest = front; parts = refl; each = each })

  groups_spelled : (most total : ℕ) (bytes : List ℕ) (groups : List (TableEntries X)) → AreLow bytes → length bytes ≤ most → groups_at (entries_at one_at) kind most total bytes ≡ Ok groups → SpellsEach (SpelledAs kind one) groups bytes
  unfolding groups_at
  groups_spelled zero total [] groups low le e = subst (λ (ys : List (TableEntries X)). SpellsEach (SpelledAs kind one) ys []) (ok_is [] groups e) refl
  groups_spelled zero total (byte ∷ bytes) groups low le e = absurd (omega arith)
  groups_spelled (suc most) total [] groups low le e = subst (λ (ys : List (TableEntries X)). SpellsEach (SpelledAs kind one) ys []) (ok_is [] groups e) refl
  groups_spelled (suc most) total (byte ∷ bytes) groups low le e =
      let same = check_ok (byte == kind) _ _ groups e in
      let first = bind_ok (entries_at one_at total bytes) _ groups same.1 in
      let others = bind_ok (groups_at (entries_at one_at) kind most total first.0.1) _ groups first.2 in
      let (front, parts, is) = group_spelled total bytes first.0 low.1 first.1 in
      let shorter : length first.0.1 ≤ most = omega (arith, ap length parts, length-append front first.0.1) in
      let are = groups_spelled most total first.0.1 others.0 (low_behind bytes front first.0.1 parts low.1) shorter others.1 in
      subst (λ (ys : List (TableEntries X)). SpellsEach (SpelledAs kind one) ys (byte ∷ bytes)) (ok_is _ groups others.2)
      (kind ∷ front, first.0.1, ap (λ (k : ℕ). k ∷ bytes) (eqb-true byte kind same.0) ∙ ap (λ (b : List ℕ). kind ∷ b) parts, is, are)

-- ---- blobs

module _ {A : Type 0} where
  -- Bytes that are read as a blob spell it.
  pub blob_spelled : (bytes : List ℕ) (blob : Contents A) → AreLow bytes → blob_at bytes ≡ Ok blob → Spells blob bytes
  unfolding blob_at
  blob_spelled [] blob low e = subst (λ (b : Contents A). Spells b []) (ok_is (Changes []) blob e) refl
  blob_spelled (kind ∷ bytes) blob low e =
      let all = length (kind ∷ bytes) in
      let changes : (groups : List (TableChanges A)) → groups_at (entries_at change_at) 0x54 all all (kind ∷ bytes) ≡ Ok groups → SpellsEach SpellsChanges groups (kind ∷ bytes) = λ groups. groups_spelled change_at 0x54 SpellsChange change_spelled all all (kind ∷ bytes) groups low (omega arith) in
      let patches : (groups : List (TablePatches A)) → groups_at (entries_at patch_at) 0x50 all all (kind ∷ bytes) ≡ Ok groups → SpellsEach SpellsPatches groups (kind ∷ bytes) = λ groups. groups_spelled patch_at 0x50 SpellsPatch patch_spelled all all (kind ∷ bytes) groups low (omega arith) in
      grind (arith, nat_tests, changes, patches, e)

pub low_bytes : (bytes : List ℕ) → AreBytes bytes → AreLow bytes
low_bytes [] are = tt
low_bytes (byte ∷ bytes) are = (are 0 (omega arith), low_bytes bytes (λ i lt. are (suc i) (omega arith)))
