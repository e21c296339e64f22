-- Entries as their bytes, one after another, and where each ends.
use Rattle.std.proofs.Common.{◌≡◌, ℕ, zero, suc, ◌-◌, ◌≤◌, ◌<◌, Bool, List, [], ◌∷◌, ◌++◌, length, take, drop, set, get_or, slice_get, Option, Some, IsTrue, Result, Ok, Err, is_ok, refl, sym, ap, subst, ◌∙◌, append-nil, length-append, length-drop, arith, if◌then◌else◌}
use mathlib.Core.List.{IsPrefix}
use Rattle.std.specs.Prelude.{All, OnOk, OnErr}
use Rattle.std.specs.List.{AllByRecursion, flat_map}
use Rattle.std.proofs.lemmas.List.{take-append-le, drop-append-le, take-append-drop, drop-drop, take_all, drop_all, length-take-le}
use Rattle.std.proofs.lemmas.List.Elements.{All-from_recursion}
use Rattle.std.proofs.Math.Seq.{drop-append_seam, take-append_seam}
use Rattle.cap_changes.specs.Entries.{TableEntries}
use Rattle.cap_changes.specs.Judged.{group_of}
use Rattle.cap_changes.specs.Stored.{part, start_of, end_of, IsEntry, entries_of, AreEntries, IsKept}

pub part_before : (start end : ℕ) (bytes more : List ℕ) → start ≤ end → end ≤ length bytes → part start end (bytes ++ more) ≡ part start end bytes
part_before start end bytes more le within =
    ap (take (end - start)) (drop-append-le start bytes more (omega arith))
    ∙ take-append-le (end - start) (drop start bytes) more (omega (arith, length-drop start bytes))

part_cut : (start end cut : ℕ) (bytes : List ℕ) → start ≤ end → end ≤ cut → cut ≤ length bytes → part start end (take cut bytes) ≡ part start end bytes
part_cut start end cut bytes le before within =
    sym (part_before start end (take cut bytes) (drop cut bytes) le (omega (arith, length-take-le cut bytes within, before))) ∙ ap (part start end) (take-append-drop cut bytes)

pub further : (start end : ℕ) (bytes : List ℕ) → start ≤ end → drop (end - start) (drop start bytes) ≡ drop end bytes
further start end bytes le = drop-drop (end - start) start bytes ∙ ap (λ (n : ℕ). drop n bytes) (omega (arith, le))

-- what was appended
pub part_behind : (bytes piece : List ℕ) → part (length bytes) (length (bytes ++ piece)) (bytes ++ piece) ≡ piece
part_behind bytes piece =
    ap (take (length (bytes ++ piece) - length bytes)) (drop-append_seam bytes piece)
    ∙ take_all (length (bytes ++ piece) - length bytes) piece (omega (arith, length-append bytes piece))

-- what `extend_from_slice` leaves
pub extended : {E : Type 0} (result : Result (Unit {0}) E) (old more new : List ℕ) → new ≡ if is_ok result then old ++ more else old → OnOk result (new ≡ old ++ more) × OnErr result (IsPrefix old new)
extended (Ok u) old more new is = (is, tt)
extended (Err e) old more new is = (tt, ([], append-nil old ∙ sym is))

-- an entry that is not the first begins where the one before it ends
pub start_behind : (start : ℕ) (ends : List ℕ) (place : ℕ) → 1 ≤ place → place ≤ length ends → get_or ends (place - 1) 0 ≡ start_of start ends place
start_behind start (end ∷ ends) (suc (suc place)) some within = grind (arith, start_behind end ends (suc place))
start_behind start ends place some within = grind arith

module _ {C : Type 0} (fits_in : List Bool → C → Bool) (has_values : C → Type 0) (bytes_of : C → List ℕ) (stored : List Bool → List ℕ → C) (flags : List Bool) where
  abbrev Are : List ℕ → ℕ → List ℕ → Type 0
  Are bytes start ends = AreEntries fits_in has_values bytes_of stored flags bytes start ends

  abbrev Is : List ℕ → Type 0
  Is piece = IsEntry fits_in has_values bytes_of flags (stored flags piece) piece

  pub last_end : (start end : ℕ) (ends : List ℕ) → end_of start (ends ++ end ∷ []) ≡ end
  last_end start end [] = refl
  last_end start end (next ∷ ends) = last_end next end ends

  -- what stands when one was appended
  pub record AppendedFrom (start : ℕ) (bytes ends : List ℕ) (before : List C) (entry : C) : Type 0 where
    pub are : Are bytes start ends
    pub end : end_of start ends ≡ length bytes
    pub entries : entries_of stored flags bytes start ends ≡ before ++ entry ∷ []

  appended_from : (old piece : List ℕ) (start : ℕ) (ends : List ℕ) → Are old start ends → end_of start ends ≡ length old → Is piece
      → AppendedFrom start (old ++ piece) (ends ++ length (old ++ piece) ∷ []) (entries_of stored flags old start ends) (stored flags piece)
  appended_from old piece start [] are end is =
      let last : part start (length (old ++ piece)) (old ++ piece) ≡ piece = ap (λ (n : ℕ). part n (length (old ++ piece)) (old ++ piece)) end ∙ part_behind old piece in record {
        are = (omega (arith, end, length-append old piece), omega arith, subst Is (sym last) is, omega arith);
        end = refl;
        entries = ap (λ (b : List ℕ). stored flags b ∷ []) last;
      }
  appended_from old piece start (end ∷ ends) are reaches is =
      let others = appended_from old piece end ends are.3 reaches is in
      let same = part_before start end old piece are.0 are.1 in record {
        are = (are.0, omega (arith, are.1, length-append old piece), subst Is (sym same) are.2, others.are);
        end = others.end;
        entries = λ i. stored flags (same i) ∷ others.entries i;
      }

  pub appended : (old ends piece new new_ends : List ℕ) (before : List C) (entry : C) → Are old 0 ends → end_of 0 ends ≡ length old → entries_of stored flags old 0 ends ≡ before
      → Is piece → stored flags piece ≡ entry → new ≡ old ++ piece → new_ends ≡ ends ++ length new ∷ [] → AppendedFrom 0 new new_ends before entry
  appended old ends piece new new_ends before entry are end seen is entry_is new_is ends_are = rw (ends_are, new_is, ← seen, ← entry_is) (appended_from old piece 0 ends are end is)

  -- ---- what is known of each

  each : (P : C → Type 0) → ((piece : List ℕ) → Is piece → P (stored flags piece)) → (bytes : List ℕ) (start : ℕ) (ends : List ℕ) → Are bytes start ends → AllByRecursion P (entries_of stored flags bytes start ends)
  each P one bytes start [] are = tt
  each P one bytes start (end ∷ ends) are = (one (part start end bytes) are.2, each P one bytes end ends are.3)

  pub all_fit : (bytes : List ℕ) (start : ℕ) (ends : List ℕ) → Are bytes start ends → All (λ x. IsTrue (fits_in flags x)) (entries_of stored flags bytes start ends)
  all_fit bytes start ends are = All-from_recursion (λ x. IsTrue (fits_in flags x)) (entries_of stored flags bytes start ends) (each (λ x. IsTrue (fits_in flags x)) (λ piece is. is.fits) bytes start ends are)

  pub all_values : (bytes : List ℕ) (start : ℕ) (ends : List ℕ) → Are bytes start ends → All has_values (entries_of stored flags bytes start ends)
  all_values bytes start ends are = All-from_recursion has_values (entries_of stored flags bytes start ends) (each has_values (λ piece is. is.values) bytes start ends are)

  spelled_from : (bytes : List ℕ) (start : ℕ) (ends : List ℕ) → Are bytes start ends → end_of start ends ≡ length bytes → drop start bytes ≡ flat_map bytes_of (entries_of stored flags bytes start ends)
  spelled_from bytes start [] are reaches = ap (λ (n : ℕ). drop n bytes) reaches ∙ drop_all (length bytes) bytes (omega arith)
  spelled_from bytes start (end ∷ ends) are reaches =
      sym (take-append-drop (end - start) (drop start bytes))
      ∙ ap (λ (r : List ℕ). part start end bytes ++ r) (further start end bytes are.0)
      ∙ ap (λ (front : List ℕ). front ++ drop end bytes) are.2.spelled
      ∙ ap (λ (rest : List ℕ). bytes_of (stored flags (part start end bytes)) ++ rest) (spelled_from bytes end ends are.3 reaches)

  -- the bytes are those of the entries
  pub spelled : (bytes ends : List ℕ) → Are bytes 0 ends → end_of 0 ends ≡ length bytes → bytes ≡ flat_map bytes_of (entries_of stored flags bytes 0 ends)
  spelled bytes ends are reaches = spelled_from bytes 0 ends are reaches

  -- ---- the first entries alone

  start_within : (bytes : List ℕ) (start : ℕ) (ends : List ℕ) → Are bytes start ends → start ≤ length bytes
  start_within bytes start [] are = are
  start_within bytes start (end ∷ ends) are = omega (arith, are.0, are.1)

  -- so many entries, in the bytes up to where the last of them ends
  pub record AreFirst (cut count : ℕ) (bytes : List ℕ) (start : ℕ) (ends : List ℕ) : Type 0 where
    pub from : start ≤ cut
    pub within : cut ≤ length bytes
    pub are : Are (take cut bytes) start (take count ends)
    pub end : end_of start (take count ends) ≡ cut
    pub entries : entries_of stored flags (take cut bytes) start (take count ends) ≡ take count (entries_of stored flags bytes start ends)

  pub are_first : (cut count : ℕ) (bytes : List ℕ) (start : ℕ) (ends : List ℕ) → Are bytes start ends → count < length ends → cut ≡ start_of start ends count
      → AreFirst cut count bytes start ends
  are_first cut zero bytes start ends are lt is =
      let within = start_within bytes start ends are in
      record { from = omega (arith, is); within = omega (arith, is, within); are = omega (arith, is, length-take-le cut bytes (omega (arith, is, within))); end = sym is; entries = refl }
  are_first cut (suc count) bytes start [] are lt is = absurd (omega arith)
  are_first cut (suc count) bytes start (end ∷ ends) are lt is =
      let others = are_first cut count bytes end ends are.3 (omega arith) is in
      let long = length-take-le cut bytes others.within in
      let same = part_cut start end cut bytes are.0 others.from others.within in
      record {
        from = omega (arith, are.0, others.from);
        within = others.within;
        are = (are.0, omega (arith, long, others.from), subst Is (sym same) are.2, others.are);
        end = others.end;
        entries = λ i. stored flags (same i) ∷ others.entries i;
      }

  -- ---- an entry in the place of another, in as many bytes

  -- entries behind a place do not depend on the bytes before it
  behind_same : (bytes new : List ℕ) (start : ℕ) (ends : List ℕ) → length new ≡ length bytes → drop start new ≡ drop start bytes → Are bytes start ends → Are new start ends × (entries_of stored flags new start ends ≡ entries_of stored flags bytes start ends)
  behind_same bytes new start [] long same are = (omega (arith, long, are), refl)
  behind_same bytes new start (end ∷ ends) long same are =
      let here : part start end new ≡ part start end bytes = ap (take (end - start)) same in
      let others = behind_same bytes new end ends long (sym (further start end new are.0) ∙ ap (drop (end - start)) same ∙ further start end bytes are.0) are.3 in
      ((are.0, omega (arith, long, are.1), subst Is (sym here) are.2, others.0), λ i. stored flags (here i) ∷ others.1 i)

  pub record Replaced (bytes new piece : List ℕ) (start : ℕ) (ends : List ℕ) (place : ℕ) : Type 0 where
    pub from : start ≤ start_of start ends place
    pub are : Are new start ends
    pub entries : entries_of stored flags new start ends ≡ set (entries_of stored flags bytes start ends) place (stored flags piece)

  pub replaced : (bytes new piece : List ℕ) (start : ℕ) (ends : List ℕ) (place : ℕ) → Are bytes start ends → place < length ends → Is piece → length new ≡ length bytes → start_of start ends place ≤ length bytes
      → take (start_of start ends place) new ≡ take (start_of start ends place) bytes → drop (start_of start ends place) new ≡ piece ++ drop (get_or ends place 0) bytes → length piece ≡ get_or ends place 0 - start_of start ends place
      → Replaced bytes new piece start ends place
  replaced bytes new piece start [] place are lt is long within front behind count = absurd (omega arith)
  replaced bytes new piece start (end ∷ ends) zero are lt is long within front behind count =
      let here : part start end new ≡ piece = ap (take (end - start)) behind ∙ ap (λ (n : ℕ). take n (piece ++ drop end bytes)) (sym count) ∙ take-append_seam piece (drop end bytes) in
      let others = behind_same bytes new end ends long
      (sym (further start end new are.0) ∙ ap (drop (end - start)) behind ∙ ap (λ (n : ℕ). drop n (piece ++ drop end bytes)) (sym count) ∙ drop-append_seam piece (drop end bytes)) are.3 in
      record { from = omega arith; are = (are.0, omega (arith, long, are.1), subst Is (sym here) is, others.0); entries = λ i. stored flags (here i) ∷ others.1 i }
  replaced bytes new piece start (end ∷ ends) (suc place) are lt is long within front behind count =
      let others = replaced bytes new piece end ends place are.3 (omega arith) is long within front behind count in
      let cut = start_of end ends place in
      let same : part start end new ≡ part start end bytes = sym (part_cut start end cut new are.0 others.from (omega (arith, long, within))) ∙ ap (part start end) front ∙ part_cut start end cut bytes are.0 others.from within in
      record { from = omega (arith, are.0, others.from); are = (are.0, omega (arith, long, are.1), subst Is (sym same) are.2, others.are); entries = λ i. stored flags (same i) ∷ others.entries i }

-- as many as there are ends
pub as_many : {C : Type 0} (stored : List Bool → List ℕ → C) (flags : List Bool) (bytes : List ℕ) (start : ℕ) (ends : List ℕ) → length (entries_of stored flags bytes start ends) ≡ length ends
as_many stored flags bytes start [] = refl
as_many stored flags bytes start (end ∷ ends) = ap suc (as_many stored flags bytes end ends)

module _ {C : Type 0} (fits_in : List Bool → C → Bool) (has_values : C → Type 0) (bytes_of : C → List ℕ) (stored : List Bool → List ℕ → C) (table : List ℕ) (schema : List Bool) (bytes ends : List ℕ) (old : TableEntries C) (count : ℕ)
    (seen : ◌≡◌ {A = TableEntries C} (record { table = table; schema = schema; changes = entries_of stored schema bytes 0 ends }) old) where
  -- what is left of a group of which the first entries are kept
  pub record Kept (new_bytes new_ends : List ℕ) : Type 0 where
    pub keeps : IsKept fits_in has_values bytes_of stored schema new_bytes new_ends
    pub is : ◌≡◌ {A = TableEntries C} (record { table = table; schema = schema; changes = entries_of stored schema new_bytes 0 new_ends }) (record { table = old.table; schema = old.schema; changes = take count old.changes })

  pub first_kept : (cut : ℕ) (new_bytes new_ends : List ℕ) → IsKept fits_in has_values bytes_of stored schema bytes ends → count < length ends
      → cut ≡ start_of 0 ends count → new_ends ≡ take count ends → new_bytes ≡ take cut bytes → Kept new_bytes new_ends
  first_kept cut new_bytes new_ends stands lt is ends_are bytes_are =
      let first = are_first fits_in has_values bytes_of stored schema cut count bytes 0 ends stands.each lt is in
      let long : length (take cut bytes) ≡ cut = length-take-le cut bytes first.within in
      subst (λ (e : List ℕ). Kept new_bytes e) (sym ends_are) (subst (λ (b : List ℕ). Kept b (take count ends)) (sym bytes_are) (record {
        keeps = record { keyed = stands.keyed; each = first.are; end = first.end ∙ sym long };
        is = (λ i. record { table = table; schema = schema; changes = first.entries i }) ∙ ap (λ (t : TableEntries C). record { table = t.table; schema = t.schema; changes = take count t.changes }) seen;
      }))

  pub all_kept : length ends ≤ count → old ≡ record { table = old.table; schema = old.schema; changes = take count old.changes }
  all_kept le =
      let long : length old.changes ≤ count = omega (arith, ap (λ (t : TableEntries C). length t.changes) seen, as_many stored schema bytes 0 ends, le) in
      λ i. record { table = old.table; schema = old.schema; changes = sym (take_all count old.changes long) i }

module _ {C : Type 0} (fits_in : List Bool → C → Bool) (has_values : C → Type 0) (bytes_of : C → List ℕ) (stored : List Bool → List ℕ → C) where
  -- what an entry in its place is
  pub record Lent (flags : List Bool) (bytes : List ℕ) (start end : ℕ) (entry : Option C) : Type 0 where
    pub before : start ≤ end
    pub within : end ≤ length bytes
    pub is : IsEntry fits_in has_values bytes_of flags (stored flags (part start end bytes)) (part start end bytes)
    pub lent : Some (stored flags (part start end bytes)) ≡ entry

  pub lent_at : (flags : List Bool) (bytes : List ℕ) (start : ℕ) (ends : List ℕ) (place : ℕ) → AreEntries fits_in has_values bytes_of stored flags bytes start ends → place < length ends
      → Lent flags bytes (start_of start ends place) (get_or ends place 0) (slice_get (entries_of stored flags bytes start ends) place)
  lent_at flags bytes start [] place are lt = absurd (omega arith)
  lent_at flags bytes start (end ∷ ends) zero are lt = record { before = are.0; within = are.1; is = are.2; lent = refl }
  lent_at flags bytes start (end ∷ ends) (suc place) are lt = lent_at flags bytes end ends place are.3 (omega arith)

  -- ---- a group

  -- what a call leaves that appends an entry, or answers an error
  pub record Leaves {E : Type 0} (result : Result (Unit {0}) E) (table : List ℕ) (schema : List Bool) (new new_ends : List ℕ) (before : TableEntries C) (entry : C) : Type 0 where
    pub keeps : IsKept fits_in has_values bytes_of stored schema new new_ends
    pub ok : OnOk result (group_of stored table schema new new_ends ≡ record before { changes = before.changes ++ entry ∷ [] })
    pub err : OnErr result (group_of stored table schema new new_ends ≡ before)

taken_off : {E : Type 0} (pushed : Result (Unit {0}) E) (old piece mid : List ℕ) (n : ℕ) → n ≡ length old → OnOk pushed (mid ≡ old ++ piece) → OnErr pushed (IsPrefix old mid) → take n mid ≡ old
taken_off (Ok u) old piece mid n is put begun = rw (is, put) (take-append_seam old piece)
taken_off (Err e) old piece mid n is put (rest, so) = rw (is, ← so) (take-append_seam old rest)

module _ {C : Type 0} {fits_in : List Bool → C → Bool} {has_values : C → Type 0} {bytes_of : C → List ℕ} {stored : List Bool → List ℕ → C} where
  pub leaves : {E : Type 0} (result pushed : Result (Unit {0}) E) {table : List ℕ} {schema : List Bool} {old ends piece : List ℕ} (mid new new_ends : List ℕ) {n : ℕ} {before : TableEntries C} {entry : C} → IsKept fits_in has_values bytes_of stored schema old ends
      → group_of stored table schema old ends ≡ before → IsEntry fits_in has_values bytes_of before.schema (stored before.schema piece) piece → stored before.schema piece ≡ entry → n ≡ length old → OnOk pushed (mid ≡ old ++ piece) → OnErr pushed (IsPrefix old mid)
      → OnOk result ((pushed ≡ Ok tt) × (new ≡ mid) × (new_ends ≡ ends ++ length mid ∷ [])) → OnErr result ((new ≡ take n mid) × (new_ends ≡ ends)) → Leaves fits_in has_values bytes_of stored result table schema new new_ends before entry
  leaves (Ok u) (Ok v) {table = table} {schema = schema} {old = old} {ends = ends} {piece = piece} mid new new_ends {before = before} {entry = entry} keeps seen is entry_is n_is put begun ok err =
      let columns : before.schema ≡ schema = sym (ap (λ (t : TableEntries C). t.schema) seen) in
      let a = appended fits_in has_values bytes_of stored schema old ends piece new new_ends before.changes entry keeps.each keeps.end (ap (λ (t : TableEntries C). t.changes) seen)
      (subst (λ (s : List Bool). IsEntry fits_in has_values bytes_of s (stored s piece) piece) columns is) (ap (λ (s : List Bool). stored s piece) (sym columns) ∙ entry_is)
      (ok.1 ∙ put) (ok.2 ∙ ap (λ (b : List ℕ). ends ++ length b ∷ []) (sym ok.1)) in record {
        keeps = record { keyed = keeps.keyed; each = a.are; end = a.end };
        ok = ap (λ (xs : List C). record { table = table; schema = schema; changes = xs }) a.entries ∙ ap (λ (t : TableEntries C). record t { changes = before.changes ++ entry ∷ [] }) seen;
        err = tt;
      }
  leaves (Ok u) (Err e) mid new new_ends keeps seen is entry_is n_is put begun ok err = absurd (let wrong = ok.0 in cc)
  leaves (Err e) pushed {old = old} {piece = piece} mid new new_ends {n = n} keeps seen is entry_is n_is put begun ok err =
      rw (err.0 ∙ taken_off pushed old piece mid n n_is put begun, err.1) (record { keeps = keeps; ok = tt; err = seen })
