-- Reading the changes of a group one after the other, as a loop does.
use Rattle.std.proofs.Common.{◌≡◌, ℕ, zero, suc, ◌-◌, ◌<◌, ◌≤◌, Bool, true, false, List, [], ◌∷◌, ◌++◌, length, take, drop, get_or, Result, Ok, Err, refl, sym, ap, subst, ◌∙◌, append_assoc, length-append, arith, ◌+◌}
use Rattle.std.proofs.lemmas.List.{append-nil, take_all, length-set, drop-append-le, drop_all}
use Rattle.cap_changes.specs.Entries.{TableEntries}
use Rattle.cap_field.specs.declared.fault.BlobFault.{BlobFault}
use Rattle.cap_changes.specs.Operation.{is_operation}
use Rattle.cap_changes.specs.ChangeReading.{changes_at, with_changes, is_set}
use Rattle.cap_changes.specs.Judged.{front_of, HaveFlags, Judged, group_of, joined, with_flag, with_flags}
use Rattle.cap_changes.specs.Stored.{IsPassed, normal, IsKept, end_of}
use Rattle.cap_row.proofs.EncodingLemmas.{before_rest}
use Rattle.cap_changes.specs.ChangeBytes.{flag_byte}
use Rattle.cap_changes.proofs.StoredEntries.{appended, last_end}

-- the bytes behind the first, as a pattern gives them
abbrev pub behind_of : List ℕ → List ℕ
behind_of rest = take (length rest - 1) (drop 1 rest)

pub behind-is : (op : ℕ) (bs : List ℕ) → behind_of (op ∷ bs) ≡ bs
behind-is op bs = take_all (length (op ∷ bs) - 1) bs (omega arith)

module _ {X : Type 0} (one_at : ℕ → List Bool → ℕ → List ℕ → Result (X × List ℕ) BlobFault) where
  -- `all` is this group, and the changes that are read from these bytes, at most `most` of them
  unfoldable pub ChangesLeft : TableEntries X → ℕ → List ℕ → Result (TableEntries X × List ℕ) BlobFault → Type 0
  ChangesLeft group total rest all = (most : ℕ) × (length rest ≤ most) × (with_changes group (changes_at one_at most total group.schema rest) ≡ all)

  changes_start : (group : TableEntries X) (total : ℕ) (bytes : List ℕ) → ChangesLeft group total bytes (with_changes group (changes_at one_at (length bytes) total group.schema bytes))
  unfolding ChangesLeft
  changes_start group total bytes = (length bytes, omega arith, refl)

  changes_go_on : (group grown : TableEntries X) (total : ℕ) (rest after : List ℕ) (x : X) (all : Result (TableEntries X × List ℕ) BlobFault) → grown ≡ record group { changes = group.changes ++ x ∷ [] }
      → 1 ≤ length rest → is_operation (get_or rest 0 0) ≡ true → one_at total group.schema (get_or rest 0 0) (behind_of rest) ≡ Ok (x, after) → length after ≤ length (behind_of rest)
      → ChangesLeft group total rest all → ChangesLeft grown total after all
  unfolding ChangesLeft changes_at
  changes_go_on group grown total (op ∷ behind) after x all is some operation read shorter (suc most, le, e) =
      (most, omega (arith, shorter, ap length (behind-is op behind), le), grind (arith, behind-is op behind, append_assoc))
  changes_go_on group grown total rest after x all is some operation read shorter (most, le, e) = absurd (omega (arith, some, le))

  pub changes_fail : (group : TableEntries X) (total : ℕ) (rest : List ℕ) (f : BlobFault) (all : Result (TableEntries X × List ℕ) BlobFault) → 1 ≤ length rest → is_operation (get_or rest 0 0) ≡ true
      → one_at total group.schema (get_or rest 0 0) (behind_of rest) ≡ Err f → ChangesLeft group total rest all → all ≡ Err f
  unfolding ChangesLeft changes_at
  changes_fail group total (op ∷ behind) f all some operation read (suc most, le, e) = grind (arith, behind-is op behind)
  changes_fail group total rest f all some operation read (most, le, e) = absurd (omega (arith, some, le))

  -- at the end, or at a byte that is no operation
  pub changes_stop : (group : TableEntries X) (total : ℕ) (rest : List ℕ) (all : Result (TableEntries X × List ℕ) BlobFault) → is_operation (get_or rest 0 0) ≡ false → ChangesLeft group total rest all → all ≡ Ok (group, rest)
  unfolding ChangesLeft changes_at
  changes_stop group total (op ∷ behind) all other (zero, le, e) = absurd (omega (arith, le))
  changes_stop group total (op ∷ behind) all other (suc most, le, e) = grind (arith, append-nil)
  changes_stop group total [] all other (zero, le, e) = grind (arith, append-nil)
  changes_stop group total [] all other (suc most, le, e) = grind (arith, append-nil)

pub no_operation : (rest : List ℕ) → length rest < 1 → is_operation (get_or rest 0 0) ≡ false
no_operation [] none = refl
no_operation (op ∷ rest) none = absurd (omega arith)

-- ---- changes that are judged first, and written behind those that a group holds then

flag-length : (place : ℕ) (bytes : List ℕ) → length (with_flag place bytes) ≡ length bytes
flag-length place bytes = length-set bytes place (flag_byte (is_set (get_or bytes place 0)))

flags-length : (bytes : List ℕ) (start : ℕ) (ends : List ℕ) → length (with_flags bytes start ends) ≡ length bytes
flags-length bytes start [] = refl
flags-length bytes start (end ∷ ends) = flags-length (with_flag (start + 1) bytes) end ends ∙ flag-length (start + 1) bytes

-- ---- one more entry

flag_before : (place : ℕ) (bytes more : List ℕ) → place < length bytes → with_flag place (bytes ++ more) ≡ with_flag place bytes ++ more
flag_before place [] more lt = absurd (omega arith)
flag_before zero (byte ∷ bytes) more lt = refl
flag_before (suc place) (byte ∷ bytes) more lt = ap (λ (b : List ℕ). byte ∷ b) (flag_before place bytes more (omega arith))

flag_behind : (bytes piece : List ℕ) → 2 ≤ length piece → with_flag (length bytes + 1) (bytes ++ piece) ≡ bytes ++ normal piece
flag_behind [] (op ∷ flag ∷ records) some = refl
flag_behind (byte ∷ bytes) piece some = grind (arith, flag_behind bytes piece)
flag_behind bytes piece some = absurd (omega arith)

one_more : (bytes piece : List ℕ) (start end : ℕ) (ends : List ℕ) → HaveFlags (length bytes) start ends → end_of start ends ≡ length bytes → 2 ≤ length piece
    → with_flags (bytes ++ piece) start (ends ++ end ∷ []) ≡ with_flags bytes start ends ++ normal piece
one_more bytes piece start end [] have last some = ap (λ (n : ℕ). with_flag (n + 1) (bytes ++ piece)) last ∙ flag_behind bytes piece some
one_more bytes piece start end (next ∷ ends) have last some =
    let same = sym (flag-length (start + 1) bytes) in
    ap (λ (b : List ℕ). with_flags b next (ends ++ end ∷ [])) (flag_before (start + 1) bytes piece (omega (arith, have.0, have.1)))
    ∙ one_more (with_flag (start + 1) bytes) piece next end ends (subst (λ (n : ℕ). HaveFlags n next ends) same have.2) (last ∙ same) some

have_more : (count start end : ℕ) (ends : List ℕ) → HaveFlags count start ends → end_of start ends ≡ count → count + 2 ≤ end → HaveFlags end start (ends ++ end ∷ [])
have_more count start end [] have last le = grind arith
have_more count start end (next ∷ ends) have last le = grind (arith, have_more count next end ends)

-- what was judged so far, and what is read of the bytes that are left
pub record Goes {C : Type 0} (fits_in : List Bool → C → Bool) (has_values : C → Type 0) (bytes_of : C → List ℕ) (stored : List Bool → List ℕ → C) (one_at : ℕ → List Bool → ℕ → List ℕ → Result (C × List ℕ) BlobFault)
    (total : ℕ) (flags : List Bool) (held old bytes rest ends : List ℕ) : Type 0 where
  pub judged : Judged fits_in has_values bytes_of stored flags held old bytes rest ends
  pub left : (table : List ℕ) → ChangesLeft one_at (group_of stored table flags (joined held old (front_of bytes rest) ends) ends) total rest
      (with_changes (group_of stored table flags held old) (changes_at one_at (length bytes) total flags bytes))

module _ {C : Type 0} {fits_in : List Bool → C → Bool} {has_values : C → Type 0} {bytes_of : C → List ℕ} {stored : List Bool → List ℕ → C} (one_at : ℕ → List Bool → ℕ → List ℕ → Result (C × List ℕ) BlobFault)
    (total : ℕ) {flags : List Bool} {held old : List ℕ} (bytes : List ℕ) where
  -- nothing is judged yet
  pub goes_first : IsKept fits_in has_values bytes_of stored flags held old → Goes fits_in has_values bytes_of stored one_at total flags held old bytes bytes old
  goes_first kept =
      let none : front_of bytes bytes ≡ [] = before_rest bytes [] bytes refl in
      let no_more : drop (length old) old ≡ [] = drop_all (length old) old (omega arith) in
      let same : joined held old (front_of bytes bytes) old ≡ held = rw (none, no_more) (append-nil held) in record {
        judged = record {
          parts = ap (λ (b : List ℕ). b ++ bytes) (sym none);
          begins = ([], append-nil old);
          flagged = rw no_more tt;
          end = rw (no_more, none) (ap length (sym (append-nil held)));
          kept = rw same kept;
        };
        left = λ table. rw same (changes_start one_at (group_of stored table flags held old) total bytes);
      }

  -- one more is judged
  pub goes_on : {rest after ends new : List ℕ} {op : ℕ} → Goes fits_in has_values bytes_of stored one_at total flags held old bytes rest ends → 1 ≤ length rest → get_or rest 0 0 ≡ op → is_operation (get_or rest 0 0) ≡ true
      → IsPassed fits_in has_values bytes_of stored one_at total flags op (behind_of rest) after → new ≡ ends ++ (length held + (length bytes - length after)) ∷ [] → Goes fits_in has_values bytes_of stored one_at total flags held old bytes after new
  goes_on {rest = []} goes some is operation passed new_is = absurd (omega arith)
  goes_on {rest = byte ∷ behind} {after = after} {ends = ends} {op = op} goes some is operation passed new_is =
      let judged = goes.judged in
      let front = front_of bytes (byte ∷ behind) in
      let given = op ∷ passed.front in
      let raw = held ++ front in
      let end = length held + (length bytes - length after) in
      let behind_are : behind_of (byte ∷ behind) ≡ passed.front ++ after = passed.parts in
      let parts : bytes ≡ (front ++ given) ++ after = judged.parts ∙ (λ i. front ++ is i ∷ (sym (behind-is byte behind) ∙ behind_are) i) ∙ sym (append_assoc front given after) in
      let read : front_of bytes after ≡ front ++ given = before_rest bytes (front ++ given) after parts in
      let place : end ≡ length (held ++ front_of bytes after) = omega (arith, ap length parts, length-append (front ++ given) after, ap length read, length-append held (front_of bytes after)) in
      let two : 2 ≤ length given = omega (arith, passed.some) in
      let more : length raw + 2 ≤ end = omega (arith, place, two, ap length read, length-append held (front_of bytes after), length-append front given, length-append held front) in
      let noted : drop (length old) (ends ++ end ∷ []) ≡ drop (length old) ends ++ end ∷ [] = drop-append-le (length old) ends (end ∷ []) (omega (arith, ap length judged.begins.1, length-append old judged.begins.0)) in
      let grown : joined held old (front_of bytes after) (ends ++ end ∷ []) ≡ joined held old front ends ++ normal given =
      (λ i. with_flags ((ap (λ (b : List ℕ). held ++ b) read ∙ sym (append_assoc held front given)) i) (length held) (noted i)) ∙ one_more raw given (length held) end (drop (length old) ends) judged.flagged judged.end two in
      let count : length (joined held old (front_of bytes after) (ends ++ end ∷ [])) ≡ end = flags-length (held ++ front_of bytes after) (length held) (drop (length old) (ends ++ end ∷ [])) ∙ sym place in
      let a = appended fits_in has_values bytes_of stored flags (joined held old front ends) ends (normal given) (joined held old (front_of bytes after) (ends ++ end ∷ [])) (ends ++ end ∷ []) _ _
      judged.kept.each judged.kept.end refl passed.entry refl grown (ap (λ (n : ℕ). ends ++ n ∷ []) (sym count)) in
      rw new_is (record {
        judged = record {
          parts = parts ∙ ap (λ (b : List ℕ). b ++ after) (sym read);
          begins = (judged.begins.0 ++ end ∷ [], sym (append_assoc old judged.begins.0 (end ∷ [])) ∙ ap (λ (b : List ℕ). b ++ end ∷ []) judged.begins.1);
          flagged = rw noted (subst (λ (n : ℕ). HaveFlags n (length held) (drop (length old) ends ++ end ∷ [])) place (have_more (length raw) (length held) end (drop (length old) ends) judged.flagged judged.end more));
          end = rw noted (last_end fits_in has_values bytes_of stored flags (length held) end (drop (length old) ends) ∙ place);
          kept = record { keyed = judged.kept.keyed; each = a.are; end = a.end };
        };
        left = λ table. changes_go_on one_at (group_of stored table flags (joined held old front ends) ends) _ total (byte ∷ behind) after _ _ (ap (λ (xs : List C). record { table = table; schema = flags; changes = xs }) a.entries)
            some operation (ap (λ (b : ℕ). one_at total flags b (behind_of (byte ∷ behind))) is ∙ passed.read) (omega (arith, ap length behind_are, length-append passed.front after)) (goes.left table);
      })

-- ---- the flags that are written

-- the next flag is before the next end, which is within the bytes
pub next_flag : (count start : ℕ) (ends : List ℕ) (index : ℕ) → index < length ends → HaveFlags count start (drop index ends) → (start + 1 < get_or ends index 0) × (get_or ends index 0 ≤ count)
next_flag count start (end ∷ ends) (suc index) lt have = next_flag count start ends index (omega arith) have
next_flag count start ends index lt have = grind arith
