-- The calls of a transaction, made on two databases that look the same at what they look at: they are answered alike.
use Rattle.std.proofs.Common.{arith, ◌≡◌, ℕ, ◌+◌, ◌≤◌, ◌<◌, Bool, true, false, cond, Option, Some, None, Result, Ok, Err, List, [], ◌∷◌, ◌++◌, length, take, refl, sym, ap, subst, ◌∙◌}
use Rattle.std.specs.Prelude.{IfOk, ⊤, ◌==◌, nat_lt}
use Rattle.std.specs.List.{AllByRecursion}
use Rattle.cap_value.specs.declared.refusal.Refusal.{Refusal}
use Rattle.cap_value.specs.declared.refusal.Refusal.TheVariants.{TooMany}
use Rattle.cap_table.specs.Sound.{IsRising}
use Rattle.cap_table.specs.Table.{TableState}
use Rattle.cap_database.specs.Snapshot.{SnapshotState}
use Rattle.cap_database.specs.Operation.{act, step}
use Rattle.cap_database.specs.Read.{read, rows_of}
use Rattle.cap_txn.specs.Sound.{IsSound, Leaves}
use Rattle.cap_database.specs.Tables.{EachRises, Tables}
use Rattle.cap_txn.specs.Workspace.{WorkspaceState, after_back, after_op, after_savepoint, back_at, begin, numbered, op_made, refused_savepoint, savepoint_unless, up_to}
use Rattle.cap_txn.specs.Footprint.{Unchanged, op_items, with_items}
use Rattle.cap_txn.specs.Calls.{GoesThrough, after_call, after_calls, answer_to, answers_from, done, footprint, items_from, items_of, left, mark_answer, row_answer, rows_answer, unless_refused, whole}
use Rattle.cap_txn.specs.declared.answered_call.Answer.{Answer}
use Rattle.cap_txn.specs.declared.answered_call.Answer.TheVariants as answer
use Rattle.cap_txn.specs.declared.answered_call.Asked.{Asked}
use Rattle.cap_txn.specs.declared.answered_call.Asked.TheVariants as asked
use Rattle.cap_txn.specs.declared.item.Item.{Item}
use Rattle.cap_database.specs.declared.op.Action.{Action}
use Rattle.cap_database.specs.declared.op.Op.{Op}
use Rattle.cap_txn.specs.declared.savepoint.Savepoint.{Savepoint}
use Rattle.cap_row.specs.Fields.{Fields}
use Rattle.cap_table.specs.declared.row_ref.RowRef.{RowRef}
use Rattle.cap_txn.specs.Transaction.{IsLower}
use Rattle.cap_txn.proofs.AlikeLemmas.{Alike, AreNear, LooksSame, read-same, scan-same, step-same}
use Rattle.cap_txn.proofs.ItemLemmas.{all-parts, all-with_items}
use Rattle.cap_txn.proofs.SoundLemmas.{back-IsSound, begin-IsSound, op-IsSound, savepoint-IsSound}

module _ {A : Type 0} where
  -- ---- two transactions that stand alike, and look alike at these items

  abbrev SavedAlike : List (Item A) → List (Savepoint A) → List (Savepoint A) → Type 0
  SavedAlike items [] [] = ⊤
  SavedAlike items [] (y ∷ ys) = ⊥
  SavedAlike items (x ∷ xs) [] = ⊥
  SavedAlike items (x ∷ xs) (y ∷ ys) = ((y.number ≡ x.number) × (y.ops ≡ x.ops) × AreNear items x.database y.database) × SavedAlike items xs ys

  pub record AreTwins (items : List (Item A)) (s t : WorkspaceState A) : Type 0 where
    pub ops : t.ops ≡ s.ops
    pub made : t.made ≡ s.made
    pub near : AreNear items s.database t.database
    pub saved : SavedAlike items s.savepoints t.savepoints

  -- ---- fewer items

  fewer : (items rest : List (Item A)) (d e : Tables A) → AreNear (items ++ rest) d e → AreNear rest d e
  fewer items rest d e near = record { first = near.first; second = near.second; looks = (all-parts (LooksSame d e) items rest near.looks).1 }

  fewer-saved : (items rest : List (Item A)) (xs ys : List (Savepoint A)) → SavedAlike (items ++ rest) xs ys → SavedAlike rest xs ys
  fewer-saved items rest [] [] saved = tt
  fewer-saved items rest [] (y ∷ ys) saved = absurd saved
  fewer-saved items rest (x ∷ xs) [] saved = absurd saved
  fewer-saved items rest (x ∷ xs) (y ∷ ys) saved = ((saved.0.0, saved.0.1, fewer items rest x.database y.database saved.0.2), fewer-saved items rest xs ys saved.1)

  fewer-twins : (items rest : List (Item A)) (s t : WorkspaceState A) → AreTwins (items ++ rest) s t → AreTwins rest s t
  fewer-twins items rest s t twins = record { ops = twins.ops; made = twins.made; near = fewer items rest s.database t.database twins.near; saved = fewer-saved items rest s.savepoints t.savepoints twins.saved }

  -- ---- savepoints

  saved-last : (items : List (Item A)) (xs ys : List (Savepoint A)) (x y : Savepoint A) → SavedAlike items xs ys → (y.number ≡ x.number) × (y.ops ≡ x.ops) × AreNear items x.database y.database → SavedAlike items (xs ++ x ∷ []) (ys ++ y ∷ [])
  saved-last items [] [] x y saved last = (last, tt)
  saved-last items [] (z ∷ zs) x y saved last = absurd saved
  saved-last items (z ∷ zs) [] x y saved last = absurd saved
  saved-last items (w ∷ ws) (z ∷ zs) x y saved last = (saved.0, saved-last items ws zs x y saved.1 last)

  -- both are there, and alike, or neither is
  abbrev FoundAlike : List (Item A) → Option (Savepoint A) → Option (Savepoint A) → Type 0
  FoundAlike items None None = ⊤
  FoundAlike items None (Some y) = ⊥
  FoundAlike items (Some x) None = ⊥
  FoundAlike items (Some x) (Some y) = (y.number ≡ x.number) × (y.ops ≡ x.ops) × AreNear items x.database y.database

  found-alike : (items : List (Item A)) (n : ℕ) (xs ys : List (Savepoint A)) → SavedAlike items xs ys → FoundAlike items (numbered n xs) (numbered n ys)
  found-alike items n [] [] saved = tt
  found-alike items n [] (y ∷ ys) saved = absurd saved
  found-alike items n (x ∷ xs) [] saved = absurd saved
  found-alike items n (x ∷ xs) (y ∷ ys) saved =
      subst (λ (b : Bool). FoundAlike items (cond (x.number == n) (Some x) (numbered n xs)) (cond b (Some y) (numbered n ys))) (ap (λ (m : ℕ). m == n) (sym saved.0.0))
      (inner (found-alike items n xs ys saved.1) (x.number == n))
    where
      inner : FoundAlike items (numbered n xs) (numbered n ys) → (b : Bool) → FoundAlike items (cond b (Some x) (numbered n xs)) (cond b (Some y) (numbered n ys))
      inner more true = saved.0
      inner more false = more

  up_to-alike : (items : List (Item A)) (n : ℕ) (xs ys : List (Savepoint A)) → SavedAlike items xs ys → SavedAlike items (up_to n xs) (up_to n ys)
  up_to-alike items n [] [] saved = tt
  up_to-alike items n [] (y ∷ ys) saved = absurd saved
  up_to-alike items n (x ∷ xs) [] saved = absurd saved
  up_to-alike items n (x ∷ xs) (y ∷ ys) saved =
      subst (λ (b : Bool). SavedAlike items (cond (x.number == n) (x ∷ []) (x ∷ up_to n xs)) (cond b (y ∷ []) (y ∷ up_to n ys))) (ap (λ (m : ℕ). m == n) (sym saved.0.0))
      (inner (up_to-alike items n xs ys saved.1) (x.number == n))
    where
      inner : SavedAlike items (up_to n xs) (up_to n ys) → (b : Bool) → SavedAlike items (cond b (x ∷ []) (x ∷ up_to n xs)) (cond b (y ∷ []) (y ∷ up_to n ys))
      inner more true = (saved.0, tt)
      inner more false = (saved.0, more)

  -- ---- one call

  module _ (acts : (table : TableState A) (action : Action A) → IsRising table → IfOk (act table action) IsRising) (rest : List (Item A)) (s t : WorkspaceState A) where
    -- the call is answered alike, and leaves twins
    abbrev GoesAlike : Answer A → Answer A → WorkspaceState A → WorkspaceState A → Type 0
    GoesAlike mine other left right = (other ≡ mine) × AreTwins rest left right

    made-alike : (op : Op A) → AreTwins rest s t → (r q : Result (Tables A) Refusal) → Alike (AreNear rest) r q
        → GoesAlike (done (op_made s op r)) (done (op_made t op q)) (unless_refused s (op_made s op r)) (unless_refused t (op_made t op q))
    made-alike op twins (Ok x) (Ok y) near = (refl, record { ops = ap (λ (l : List (Op A)). l ++ op ∷ []) twins.ops; made = twins.made; near = near; saved = twins.saved })
    made-alike op twins (Err a) (Err b) same = (ap answer.Refused same, twins)
    made-alike op twins (Ok x) (Err b) never = absurd never
    made-alike op twins (Err a) (Ok y) never = absurd never

    op-goes : (op : Op A) → AreTwins (items_of s (asked.Op op) ++ rest) s t → GoesAlike (answer_to s (asked.Op op)) (answer_to t (asked.Op op)) (after_call s (asked.Op op)) (after_call t (asked.Op op))
    op-goes op twins =
        let items = op_items s.database op in
        let less = fewer-twins items rest s t twins in
        made-alike op less (step s.database op) (step t.database op)
        (step-same acts s.database t.database op rest less.near (all-parts (LooksSame s.database t.database) items rest twins.near.looks).0)

    savepoint-alike : (refused : Option Refusal) → AreTwins rest s t
        → GoesAlike (mark_answer s.made (savepoint_unless refused s)) (mark_answer t.made (savepoint_unless refused t)) (unless_refused s (savepoint_unless refused s)) (unless_refused t (savepoint_unless refused t))
    savepoint-alike (Some why) twins = (refl, twins)
    savepoint-alike None twins = (
      ap (λ (n : ℕ). answer.Mark (record { number = n })) twins.made,
      record {
        ops = twins.ops;
        made = ap (λ (n : ℕ). n + 1) twins.made;
        near = twins.near;
        saved = saved-last rest s.savepoints t.savepoints (record { number = s.made; ops = length s.ops; database = s.database }) (record { number = t.made; ops = length t.ops; database = t.database }) twins.saved
            (twins.made, ap (λ (l : List (Op A)). length l) twins.ops, twins.near);
      },
    )

    savepoint-goes : AreTwins rest s t → GoesAlike (answer_to s asked.Savepoint) (answer_to t asked.Savepoint) (after_call s asked.Savepoint) (after_call t asked.Savepoint)
    savepoint-goes twins =
        subst (λ (refused : Option Refusal). GoesAlike (mark_answer s.made (savepoint_unless (refused_savepoint s) s)) (mark_answer t.made (savepoint_unless refused t)) (unless_refused s (savepoint_unless (refused_savepoint s) s)) (unless_refused t (savepoint_unless refused t)))
        (ap (λ (n : ℕ). cond (nat_lt n 10000) None (Some TooMany)) (sym twins.made))
        (savepoint-alike (refused_savepoint s) twins)

    back-alike : (n : ℕ) → AreTwins rest s t → (x y : Option (Savepoint A)) → FoundAlike rest x y
        → GoesAlike (done (back_at s n x)) (done (back_at t n y)) (unless_refused s (back_at s n x)) (unless_refused t (back_at t n y))
    back-alike n twins None None found = (refl, twins)
    back-alike n twins None (Some y) found = absurd found
    back-alike n twins (Some x) None found = absurd found
    back-alike n twins (Some x) (Some y) found = (
      refl,
      record {
        ops = ap (λ (m : ℕ). take m t.ops) found.1 ∙ ap (λ (l : List (Op A)). take x.ops l) twins.ops;
        made = twins.made;
        near = found.2;
        saved = up_to-alike rest n s.savepoints t.savepoints twins.saved;
      },
    )

    pub call-goes : (call : Asked A) → AreTwins (items_of s call ++ rest) s t → GoesAlike (answer_to s call) (answer_to t call) (after_call s call) (after_call t call)
    call-goes (asked.Op op) twins = op-goes op twins
    call-goes (asked.Get name row) twins =
        let items = items_of s (asked.Get name row) in
        (ap row_answer (read-same s.database t.database name row (all-parts (LooksSame s.database t.database) items rest twins.near.looks).0), fewer-twins items rest s t twins)
    call-goes (asked.Scan name) twins =
        let items = items_of s (asked.Scan name) in
        (ap rows_answer (scan-same s.database t.database name (all-parts (LooksSame s.database t.database) items rest twins.near.looks).0), fewer-twins items rest s t twins)
    call-goes asked.Savepoint twins = savepoint-goes twins
    call-goes (asked.BackTo mark) twins = back-alike mark.number twins (numbered mark.number s.savepoints) (numbered mark.number t.savepoints) (found-alike rest mark.number s.savepoints t.savepoints twins.saved)

  -- ---- what stands

  kept-IsSound : (txn : WorkspaceState A) (r : Result (WorkspaceState A) Refusal) → IsSound txn → IfOk r IsSound → IsSound (unless_refused txn r)
  kept-IsSound txn (Ok next) stands more = more
  kept-IsSound txn (Err why) stands more = stands

  pub call-IsSound : (txn : WorkspaceState A) (call : Asked A) → IsSound txn → IsSound (after_call txn call)
  call-IsSound txn (asked.Op op) h = kept-IsSound txn (after_op txn op) h (op-IsSound txn op h)
  call-IsSound txn (asked.Get name row) h = h
  call-IsSound txn (asked.Scan name) h = h
  call-IsSound txn asked.Savepoint h = kept-IsSound txn (after_savepoint txn) h (savepoint-IsSound txn h)
  call-IsSound txn (asked.BackTo mark) h = kept-IsSound txn (after_back txn mark.number) h (back-IsSound txn mark.number h)

  pub calls-IsSound : (calls : List (Asked A)) (txn : WorkspaceState A) → IsSound txn → IsSound (after_calls txn calls)
  calls-IsSound [] txn h = h
  calls-IsSound (call ∷ calls) txn h = calls-IsSound calls (after_call txn call) (call-IsSound txn call h)

  -- the base stays

  op-base : (txn : WorkspaceState A) (op : Op A) (r : Result (Tables A) Refusal) → (unless_refused txn (op_made txn op r)).base ≡ txn.base
  op-base txn op (Ok next) = refl
  op-base txn op (Err why) = refl

  savepoint-base : (txn : WorkspaceState A) (refused : Option Refusal) → (unless_refused txn (savepoint_unless refused txn)).base ≡ txn.base
  savepoint-base txn (Some why) = refl
  savepoint-base txn None = refl

  back-base : (txn : WorkspaceState A) (n : ℕ) (found : Option (Savepoint A)) → (unless_refused txn (back_at txn n found)).base ≡ txn.base
  back-base txn n None = refl
  back-base txn n (Some s) = refl

  pub call-base : (txn : WorkspaceState A) (call : Asked A) → (after_call txn call).base ≡ txn.base
  call-base txn (asked.Op op) = op-base txn op (step txn.database op)
  call-base txn (asked.Get name row) = refl
  call-base txn (asked.Scan name) = refl
  call-base txn asked.Savepoint = savepoint-base txn (refused_savepoint txn)
  call-base txn (asked.BackTo mark) = back-base txn mark.number (numbered mark.number txn.savepoints)

  pub calls-base : (calls : List (Asked A)) (txn : WorkspaceState A) → (after_calls txn calls).base ≡ txn.base
  calls-base [] txn = refl
  calls-base (call ∷ calls) txn = calls-base calls (after_call txn call) ∙ call-base txn call

  -- ---- all calls

  module _ (acts : (table : TableState A) (action : Action A) → IsRising table → IfOk (act table action) IsRising) where
    calls-go : (calls : List (Asked A)) (s t : WorkspaceState A) → AreTwins (items_from s calls) s t → (answers_from t calls ≡ answers_from s calls) × ((after_calls t calls).ops ≡ (after_calls s calls).ops)
    calls-go [] s t twins = (refl, twins.ops)
    calls-go (call ∷ calls) s t twins =
        let one = call-goes acts (items_from (after_call s call) calls) s t call twins in
        let more = calls-go calls (after_call s call) (after_call t call) one.1 in
        (ap (λ (a : Answer A). a ∷ answers_from (after_call t call) calls) one.0 ∙ ap (λ (l : List (Answer A)). answer_to s call ∷ l) more.0, more.1)

    -- where the footprint has not changed, the calls are answered as they were, and the operations that stand are accepted
    pub goes-through : (base now : SnapshotState A) (calls : List (Asked A)) → EachRises base.database → EachRises now.database → Unchanged base.database now.database (footprint calls base) → GoesThrough calls base now
    goes-through base now calls first second same =
        let looks = (all-with_items (LooksSame base.database now.database) [] (items_from (begin base) calls) same).1 in
        let made = calls-go calls (begin base) (begin now) (record { ops = refl; made = refl; near = record { first = first; second = second; looks = looks }; saved = tt }) in
        let stands = (calls-IsSound calls (begin now) (begin-IsSound now)).left in
        record {
          answers = made.0;
          accepted = subst (λ (d : SnapshotState A). Leaves d.database (left calls base).ops (left calls now).database) (calls-base calls (begin now))
              (subst (λ (ops : List (Op A)). Leaves (left calls now).base.database ops (left calls now).database) made.1 stands);
        }

  -- ---- marks

  result-made : (txn : WorkspaceState A) (r : Result (WorkspaceState A) Refusal) → IfOk r (λ next. txn.made ≤ next.made) → txn.made ≤ (unless_refused txn r).made
  result-made txn (Ok next) rises = rises
  result-made txn (Err why) rises = omega arith

  op-made : (txn : WorkspaceState A) (op : Op A) (r : Result (Tables A) Refusal) → IfOk (op_made txn op r) (λ next. txn.made ≤ next.made)
  op-made txn op (Ok next) = omega arith
  op-made txn op (Err why) = tt

  savepoint-made : (txn : WorkspaceState A) (refused : Option Refusal) → IfOk (savepoint_unless refused txn) (λ next. txn.made ≤ next.made)
  savepoint-made txn (Some why) = tt
  savepoint-made txn None = omega arith

  back-made : (txn : WorkspaceState A) (n : ℕ) (found : Option (Savepoint A)) → IfOk (back_at txn n found) (λ next. txn.made ≤ next.made)
  back-made txn n None = tt
  back-made txn n (Some s) = omega arith

  call-made : (txn : WorkspaceState A) (call : Asked A) → txn.made ≤ (after_call txn call).made
  call-made txn (asked.Op op) = result-made txn (after_op txn op) (op-made txn op (step txn.database op))
  call-made txn (asked.Get name row) = omega arith
  call-made txn (asked.Scan name) = omega arith
  call-made txn asked.Savepoint = result-made txn (after_savepoint txn) (savepoint-made txn (refused_savepoint txn))
  call-made txn (asked.BackTo mark) = result-made txn (after_back txn mark.number) (back-made txn mark.number (numbered mark.number txn.savepoints))

  calls-made : (calls : List (Asked A)) (txn : WorkspaceState A) → txn.made ≤ (after_calls txn calls).made
  calls-made [] txn = omega arith
  calls-made (call ∷ calls) txn = let one = call-made txn call in let more = calls-made calls (after_call txn call) in omega (arith, one, more)

  done-lower : (n : ℕ) (r : Result (WorkspaceState A) Refusal) → IsLower n (done r)
  done-lower n (Ok txn) = tt
  done-lower n (Err why) = tt

  row-lower : (n : ℕ) (r : Result (Option (Fields A)) Refusal) → IsLower n (row_answer r)
  row-lower n (Ok row) = tt
  row-lower n (Err why) = tt

  rows-lower : (n : ℕ) (r : Result (List (RowRef A × Fields A)) Refusal) → IsLower n (rows_answer r)
  rows-lower n (Ok rows) = tt
  rows-lower n (Err why) = tt

  mark-lower : (n : ℕ) (txn : WorkspaceState A) (refused : Option Refusal) → (unless_refused txn (savepoint_unless refused txn)).made ≤ n → IsLower n (mark_answer txn.made (savepoint_unless refused txn))
  mark-lower n txn (Some why) few = tt
  mark-lower n txn None few = omega (arith, few)

  call-lower : (n : ℕ) (txn : WorkspaceState A) (call : Asked A) → (after_call txn call).made ≤ n → IsLower n (answer_to txn call)
  call-lower n txn (asked.Op op) few = done-lower n (after_op txn op)
  call-lower n txn (asked.Get name row) few = row-lower n (read txn.database name row)
  call-lower n txn (asked.Scan name) few = rows-lower n (rows_of txn.database name)
  call-lower n txn asked.Savepoint few = mark-lower n txn (refused_savepoint txn) few
  call-lower n txn (asked.BackTo mark) few = done-lower n (after_back txn mark.number)

  -- each mark that was answered is below the number of the next
  pub marks-lower : (calls : List (Asked A)) (txn : WorkspaceState A) → AllByRecursion (IsLower (after_calls txn calls).made) (answers_from txn calls)
  marks-lower [] txn = tt
  marks-lower (call ∷ calls) txn = (call-lower (after_calls txn (call ∷ calls)).made txn call (calls-made calls (after_call txn call)), marks-lower calls (after_call txn call))
