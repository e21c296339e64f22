-- Scanning the front of a blob: each change and header that is whole leads on, whatever follows.
use Rattle.cap_codec.proofs.Common.{◌≡◌, ℕ, zero, suc, ◌+◌, ◌<◌, ◌≤◌, Bool, true, ◌==◌, List, [], ◌∷◌, ◌++◌, length, take, drop, get_or, Option, Some, None, IfSome, Result, Ok, Err, refl, sym, ap, subst, ◌∙◌, inl, inr, ◌⊎◌, arith, append_assoc, append-nil, length-append, length-drop, take-append-drop, drop_at, cases_Bool, eqb-true, drop-append-le, BlobFault, Truncated, Kind, Header, skip_at, is_cut, lasting, ended, kind_byte, one_as, part_as, GoesOn, Leads, Lacks, IsQuiet, IsScanned, IsLookedAt, ◌>>=◌, place, is_operation, behind, changes_at, with_changes, entries_at, groups_at, blob_at}
use Rattle.cap_codec.specs.declared.scan.Kind.TheVariants as kinds
use Rattle.cap_codec.specs.declared.scan.ScanPosition.{ScanPosition}
use Rattle.cap_codec.proofs.Steady.{IsBehind, Stays, Any, further, again, no_longer, same_place, skip_flag, one_stays, header_stays}

pub either : {X : Type 0} (read : Result X BlobFault) → ((x : X) × (read ≡ Ok x)) ⊎ ((f : BlobFault) × (read ≡ Err f))
either (Ok x) = inl (x, refl)
either (Err f) = inr (f, refl)

-- the bytes behind a part, at their offset
place_is : (bytes rest : List ℕ) → IsBehind rest bytes → (place (length bytes) rest ≤ length bytes) × (drop (place (length bytes) rest) bytes ≡ rest)
place_is bytes rest (front, parts) =
    (omega arith, subst (λ (all : List ℕ). drop (place (length all) rest) all ≡ rest) parts (drop_at front rest (place (length (front ++ rest)) rest) (omega (arith, length-append front rest))))

-- ---- what a part leads to

module _ {X : Type 0} (one_at : ℕ → List Bool → ℕ → List ℕ → Result (X × List ℕ) BlobFault) (kind : ℕ) where
  -- what a part leads to
  abbrev pub Follows : ℕ → Result (Unit {0}) BlobFault → Result (List Bool × List ℕ) BlobFault → Type 0
  Follows total answer (Ok x) = GoesOn one_at kind total x.0 x.1 answer
  Follows total answer (Err f) = lasting answer ≡ lasting {X = Unit {0}} (Err f)

  -- nothing is left
  pub none_left : (total : ℕ) (flags : List Bool) (answer : Result (Unit {0}) BlobFault) → GoesOn one_at kind total flags [] answer → answer ≡ Ok tt
  unfolding changes_at groups_at
  none_left total flags answer (zero, zero, le, le2, e) = sym e
  none_left total flags answer (suc m, zero, le, le2, e) = sym e
  none_left total flags answer (m, n, le, le2, e) = sym e

  change_follows : (m n total : ℕ) (flags : List Bool) (bytes : List ℕ) (answer : Result (Unit {0}) BlobFault) (read later : Result (X × List ℕ) BlobFault) → length bytes ≤ m → length bytes ≤ n → Stays Any bytes [] read later
      → ended ((read >>= (λ change. changes_at one_at m total flags change.1 >>= (λ others. Ok (change.0 ∷ others.0, others.1)))) >>= (λ (changes : List X × List ℕ). groups_at (entries_at one_at) kind n total changes.1)) ≡ answer → Follows total answer (read >>= (λ change. Ok (flags, change.1)))
  change_follows m n total flags bytes answer (Ok x) later le le2 stays e = let shorter = no_longer x.1 bytes stays.1 in (m, n, omega arith, omega arith, grind (arith, e))
  change_follows m n total flags bytes answer (Err f) later le le2 stays e = ap lasting (sym e)

  header_follows : (n total : ℕ) (bytes : List ℕ) (answer : Result (Unit {0}) BlobFault) (read later : Result (Header × List ℕ) BlobFault) → length bytes ≤ n → Stays Any bytes [] read later
      → ended ((read >>= (λ header. with_changes {X = X} (record { table = header.0.table; schema = header.0.flags; changes = [] }) (changes_at one_at (length header.1) total header.0.flags header.1)))
      >>= (λ group. groups_at (entries_at one_at) kind n total group.1 >>= (λ others. Ok (group.0 ∷ others)))) ≡ answer → Follows total answer (read >>= (λ header. Ok (header.0.flags, header.1)))
  header_follows n total bytes answer (Ok header) later le stays e = let shorter = no_longer header.1 bytes stays.1 in (length header.1, n, omega arith, omega arith, grind (arith, e))
  header_follows n total bytes answer (Err f) later le stays e = ap lasting (sym e)

module _ (A : Type 0) (kind : Kind) where
  -- a change, with more bytes behind
  pub change_stays : (P : Result (List ℕ) ℕ → Type 0) (total : ℕ) → ((bytes : List ℕ) → P (Ok bytes) → P (skip_at total bytes)) → (flags : List Bool) (op : ℕ) (bytes more : List ℕ) → P (skip_flag bytes)
      → Stays P bytes more (one_as A kind total flags op bytes >>= (λ change. Ok (flags, change.1))) (one_as A kind (total + length more) flags op (bytes ++ more) >>= (λ change. Ok (flags, change.1)))
  change_stays P total next flags op bytes more p = let one = one_stays A P total next kind flags op bytes more p in grind (arith, one)

  part_stays : (total : ℕ) (flags : List Bool) (first : ℕ) (bytes more : List ℕ) → Stays Any bytes more (part_as A kind total flags (first ∷ bytes)) (part_as A kind (total + length more) flags (first ∷ (bytes ++ more)))
  part_stays total flags first bytes more =
      let change = change_stays Any total (λ rest any. tt) flags first bytes more tt in
      let header = header_stays total bytes more in
      let at = same_place total (first ∷ bytes) more in
      grind (arith, change, header, at)

  part_follows : (total : ℕ) (flags : List Bool) (bytes : List ℕ) (answer : Result (Unit {0}) BlobFault) → GoesOn (one_as A kind) (kind_byte kind) total flags bytes answer → Follows (one_as A kind) (kind_byte kind) total answer (part_as A kind total flags bytes)
  unfolding changes_at groups_at
  part_follows total flags [] answer goes = ap lasting (none_left (one_as A kind) (kind_byte kind) total flags answer goes)
  part_follows total flags (first ∷ bytes) answer (suc m, suc n, le, le2, e) = elim (cases_Bool (is_operation first)) [
    | inl operation ↦ rw operation (change_follows (one_as A kind) (kind_byte kind) m (suc n) total flags bytes answer _ _ (omega arith) (omega arith) (one_stays A Any total (λ rest any. tt) kind flags first bytes [] tt) (rw operation at e))
    | inr none ↦ elim (cases_Bool (first == kind_byte kind)) [
      | inl same ↦ rw (none, same) (header_follows (one_as A kind) (kind_byte kind) n total bytes answer _ _ (omega arith) (header_stays total bytes []) (rw (none, same) at e))
      | inr other ↦ rw (none, other) (ap lasting (sym (rw (none, other) at e)))
    ]
  ]
  part_follows total flags (first ∷ bytes) answer (m, n, le, le2, e) = absurd (omega arith)

  -- the next part leads on, whatever follows it
  pub leads_on : (bytes rest after : List ℕ) (flags columns : List Bool) → Leads A kind bytes rest flags → ((more : List ℕ) → part_as A kind (length (bytes ++ more)) flags (rest ++ more) ≡ Ok (columns, after ++ more)) → Leads A kind bytes after columns
  unfolding Leads
  leads_on bytes rest after flags columns leads reads = λ more. rw (reads more) at (part_follows (length (bytes ++ more)) flags (rest ++ more) _ (leads more))

  pub ends : (bytes : List ℕ) (flags : List Bool) → Leads A kind bytes [] flags → ended (blob_at {A = A} bytes) ≡ Ok tt
  unfolding Leads
  ends bytes flags leads = none_left (one_as A kind) (kind_byte kind) _ flags _ (rw append-nil at (leads []))

  -- or its fault is that of the bytes
  pub stops : (bytes rest : List ℕ) (flags : List Bool) (f : BlobFault) → Leads A kind bytes rest flags → part_as A kind (length bytes) flags rest ≡ Err f → lasting (blob_at {A = A} bytes) ≡ lasting {X = Unit {0}} (Err f)
  unfolding Leads
  stops bytes rest flags f leads read = let follows = rw read at (part_follows (length bytes) flags rest _ (rw (append-nil bytes, append-nil rest) at (leads []))) in grind (arith, follows)

  pub leads_longer : (bytes rest piece : List ℕ) (flags : List Bool) → Leads A kind bytes rest flags → Leads A kind (bytes ++ piece) (rest ++ piece) flags
  unfolding Leads
  leads_longer bytes rest piece flags leads = λ more. rw (append_assoc bytes piece more, append_assoc rest piece more) (leads (piece ++ more))

  -- what was read of the next part
  pub passed : (bytes behind after : List ℕ) (first : ℕ) (flags columns : List Bool) → Leads A kind bytes (first ∷ behind) flags → part_as A kind (length bytes) flags (first ∷ behind) ≡ Ok (columns, after) → IsBehind after behind × Leads A kind bytes after columns
  passed bytes behind after first flags columns leads read =
      let stays = λ (more : List ℕ). part_stays (length bytes) flags first behind more in
      ((rw read at (stays [])).1, leads_on bytes (first ∷ behind) after flags columns leads (λ more. rw (length-append bytes more) ((rw read at (stays more)).0)))

  -- the same from an offset on
  pub passes : (bytes rest : List ℕ) (flags columns : List Bool) (at : ℕ) (after : List ℕ) → at ≤ length bytes → drop at bytes ≡ rest → Leads A kind bytes rest flags → part_as A kind (length bytes) flags rest ≡ Ok (columns, after)
      → ((place (length bytes) after ≤ length bytes) × Leads A kind bytes (drop (place (length bytes) after) bytes) columns) × (at < place (length bytes) after)
  passes bytes [] flags columns at after le parts leads read = absurd cc
  passes bytes (first ∷ behind) flags columns at after le parts leads read =
      let (is, on) = passed bytes behind after first flags columns leads read in
      let front : take at bytes ++ first ∷ behind ≡ bytes = subst (λ (r : List ℕ). take at bytes ++ r ≡ bytes) parts (take-append-drop at bytes) in
      let here = place_is bytes after (further after behind bytes is (further behind (first ∷ behind) bytes (first ∷ [], refl) (take at bytes, front))) in
      ((here.0, rw here.1 on), omega (arith, no_longer after behind is, ap length parts, length-drop at bytes))

  -- ---- a fault that lasts

  lasts : (most : ℕ) (bytes rest : List ℕ) (flags : List Bool) (f : BlobFault) → length rest ≤ most → Leads A kind bytes rest flags → lasting (blob_at {A = A} bytes) ≡ Err f → (more : List ℕ) → lasting (blob_at {A = A} (bytes ++ more)) ≡ Err f
  lasts most bytes [] flags f short leads fault more =
      let none = stops bytes [] flags (record { at = length bytes; kind = Truncated }) leads refl in absurd cc
  lasts zero bytes (first ∷ behind) flags f short leads fault more = absurd (omega arith)
  lasts (suc most) bytes (first ∷ behind) flags f short leads fault more = elim (either (part_as A kind (length bytes) flags (first ∷ behind))) [
    | inl (x, read) ↦
        let (is, on) = passed bytes behind x.1 first flags x.0 leads read in
        lasts most bytes x.1 x.0 f (omega (arith, no_longer x.1 behind is)) on fault more
    | inr (g, read) ↦
        let here : lasting {X = Unit {0}} (Err g) ≡ Err f = sym (stops bytes (first ∷ behind) flags g leads read) ∙ fault in
        let stays = rw read at (part_stays (length bytes) flags first behind more) in
        stops (bytes ++ more) (first ∷ (behind ++ more)) flags g (leads_longer bytes (first ∷ behind) more flags leads) (rw (length-append bytes more) (stays.0 (grind (arith, here)))) ∙ here
  ]

module _ (A : Type 0) where
  -- the first part begins a blob of its kind
  pub first_leads : (kind : Kind) (bytes : List ℕ) → 1 ≤ length bytes → get_or bytes 0 0 ≡ kind_byte kind → Leads A kind bytes bytes []
  unfolding Leads changes_at blob_at
  first_leads kind [] some first = absurd (omega arith)
  first_leads kinds.Changes (byte ∷ bytes) some first = λ more. let all = byte ∷ (bytes ++ more) in (length all, length all, omega arith, omega arith, grind (arith, first))
  first_leads kinds.Patches (byte ∷ bytes) some first = λ more. let all = byte ∷ (bytes ++ more) in (length all, length all, omega arith, omega arith, grind (arith, first))

  pub err_lasts : (bytes more : List ℕ) (f : BlobFault) → lasting (blob_at {A = A} bytes) ≡ Err f → lasting (blob_at {A = A} (bytes ++ more)) ≡ Err f
  unfolding blob_at
  err_lasts [] more f fault = absurd cc
  err_lasts (byte ∷ bytes) more f fault =
      let from = λ (kind : Kind) (is : (byte == kind_byte kind) ≡ true).
      lasts A kind (length (byte ∷ bytes)) (byte ∷ bytes) (byte ∷ bytes) [] f (omega arith) (first_leads kind (byte ∷ bytes) (omega arith) (eqb-true byte (kind_byte kind) is)) fault more in
      let changes = from kinds.Changes in
      let patches = from kinds.Patches in
      grind (arith, changes, patches, fault)

  -- ---- what a decoder knows of its bytes

  pub looked_place : (bytes piece all : List ℕ) (place taken : Option (ScanPosition A)) (fault : Option BlobFault) → fault ≡ None → taken ≡ place → all ≡ bytes ++ piece → IsLookedAt bytes place fault → IfSome taken (IsScanned all)
  unfolding IsQuiet
  looked_place bytes piece all place None fault none same parts looked = tt
  looked_place bytes piece all place (Some taken) None none same parts looked =
      let is : IsScanned bytes taken = rw (← same) at looked.1 in
      rw parts (
        (omega (arith, is.0.0, length-append bytes piece), rw (drop-append-le taken.at bytes piece is.0.0) (leads_longer A taken.kind bytes (drop taken.at bytes) piece taken.flags.items is.0.1)),
        λ more lt. rw (append_assoc bytes piece more) (is.1 (piece ++ more) (rw (append_assoc bytes piece more) at lt)),
      )
  looked_place bytes piece all place taken (Some f) none same parts looked = absurd cc

-- ---- a change that the bytes end in still ends there while fewer bytes follow than its field lacks

-- the field that so many bytes are lacking in, behind as many that are whole
abbrev LackBehind : ℕ → ℕ → ℕ → List ℕ → Type 0
LackBehind total zero n bytes = skip_at total bytes ≡ Err n
LackBehind total (suc k) n bytes = (rest : List ℕ) × (skip_at total bytes ≡ Ok rest) × LackBehind total k n rest

abbrev pub FieldsLack : ℕ → ℕ → List ℕ → Type 0
FieldsLack total n bytes = (k : ℕ) × LackBehind total k n bytes

-- the fields that are left lack so many bytes, or the one that was skipped does
abbrev Left : ℕ → ℕ → Result (List ℕ) ℕ → Type 0
Left total n (Ok rest) = FieldsLack total n rest
Left total n (Err lacks) = lacks ≡ n

next_left : (total n : ℕ) (bytes : List ℕ) → Left total n (Ok bytes) → Left total n (skip_at total bytes)
next_left total n bytes (zero, is) = subst (Left total n) (sym is) refl
next_left total n bytes (suc k, (rest, is, lack)) = subst (Left total n) (sym is) (k, lack)

module _ (A : Type 0) where
  pub change_lacks : (total n : ℕ) (bytes : List ℕ) → 2 ≤ length bytes → is_operation (get_or bytes 0 0) ≡ true → FieldsLack total n (drop 2 bytes) → Lacks A total bytes n
  unfolding Lacks
  change_lacks total n (first ∷ flag ∷ fields) some operation lack = λ kind flags more lt.
      let stays = change_stays A kind (Left total n) total (next_left total n) flags first (flag ∷ fields) more lack in rw operation (λ early. grind (arith, stays))
  change_lacks total n bytes some operation lack = absurd (omega arith)

  pub one_lacks : (total : ℕ) (bytes : List ℕ) → Lacks A total bytes 1
  unfolding Lacks
  one_lacks total bytes = λ kind flags more lt early. rw (again (λ n rest. part_as A kind n flags rest) total bytes more lt) early

  pub is_quiet : (kind : Kind) (bytes rest : List ℕ) (flags : List Bool) (missing due : ℕ) (f : BlobFault) → part_as A kind (length bytes) flags rest ≡ Err f → is_cut f.kind ≡ true → Leads A kind bytes rest flags
      → Lacks A (length bytes) rest missing → due ≤ length bytes + missing → IsQuiet A bytes due
  unfolding Lacks IsQuiet
  is_quiet kind bytes rest flags missing due f read cut leads lacks le = λ more lt.
      let early = lacks kind flags more (omega (arith, length-append bytes more)) (rw read cut) in
      let stop = λ (g : BlobFault). stops A kind (bytes ++ more) (rest ++ more) flags g (leads_longer A kind bytes rest more flags leads) in
      grind (arith, length-append bytes more, early, stop)

  pub quiet_now : (bytes : List ℕ) (due : ℕ) → length bytes < due → IsQuiet A bytes due → lasting (blob_at {A = A} bytes) ≡ Ok tt
  unfolding IsQuiet
  quiet_now bytes due lt quiet = subst (λ (all : List ℕ). lasting (blob_at {A = A} all) ≡ Ok tt) (append-nil bytes) (quiet [] (omega (arith, length-append bytes [])))
