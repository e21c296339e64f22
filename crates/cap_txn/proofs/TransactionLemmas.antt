-- A transaction's footprint and trace are those of its calls.
use Rattle.std.proofs.Common.{◌≡◌, ℕ, Option, Some, None, Result, Ok, Err, List, [], ◌∷◌, ◌++◌, refl, sym, ap, subst, ◌∙◌, append_assoc}
use Rattle.std.specs.Prelude.{IfOk, map}
use Rattle.std.specs.List.{AllByRecursion}
use Rattle.std.specs.Option.{option_map}
use Rattle.std.proofs.lemmas.List.{append-nil}
use Rattle.cap_value.specs.declared.refusal.Refusal.TheVariants.{Stale}
use Rattle.cap_txn.specs.ReadSet.{ReadSetState}
use Rattle.cap_txn.specs.Stale.{AreOpsOf, IsJudged, base_of, stale}
use Rattle.cap_table.specs.Sound.{IsRising}
use Rattle.cap_table.specs.Table.{TableState}
use Rattle.cap_database.specs.Snapshot.{SnapshotState}
use Rattle.cap_database.specs.Operation.{act}
use Rattle.cap_txn.specs.Sound.{IsSound, Leaves}
use Rattle.cap_txn.specs.declared.savepoint.Mark.{Mark}
use Rattle.cap_value.specs.Memory.{AnswersUnlessMemory}
use Rattle.cap_database.specs.Outcome.{OutcomeState}
use Rattle.cap_table.specs.declared.row_ref.RowRef.{RowRef}
use Rattle.cap_txn.proofs.SoundLemmas.{begin-IsSound}
use Rattle.cap_database.specs.Tables.{EachRises, Tables}
use Rattle.cap_txn.specs.Workspace.{WorkspaceState, begin}
use Rattle.cap_txn.specs.Footprint.{IsFirstChanged, Unchanged, first_changed, item_cmp, with_items}
use Rattle.cap_txn.specs.OrderedSet.{with_item}
use Rattle.cap_value.specs.declared.refusal.Refusal.{Refusal}
use Rattle.cap_row.specs.Fields.{Fields}
use Rattle.cap_txn.specs.declared.answered_call.Answer.TheVariants as answer
use Rattle.cap_txn.specs.Transaction.{IsAnswered, IsLower, IsNewMark, IsTraced, ReadsOwnWrites, TxnState, begin_traced, calls_of, answers_of, handed_on, reads_of, traced}
use Rattle.cap_txn.specs.Calls.{GoesThrough, after_call, after_calls, answer_to, answers_from, footprint, items_from, items_of, left, row_answer, rows_answer, whole}
use Rattle.cap_txn.specs.declared.answered_call.Answer.{Answer}
use Rattle.cap_txn.specs.declared.answered_call.Asked.{Asked}
use Rattle.cap_txn.specs.declared.item.Item.{Item}
use Rattle.cap_txn.specs.declared.answered_call.AnsweredCall.{AnsweredCall}
use Rattle.cap_database.specs.declared.op.Action.{Action}
use Rattle.cap_database.specs.declared.op.Op.{Op}
use Rattle.cap_txn.proofs.ChangedLemmas.{first-changed, none-changed, unchanged-none}
use Rattle.cap_txn.proofs.CallsLemmas.{call-base, calls-IsSound, calls-base, goes-through, marks-lower}

map-last : {X Y : Type 0} (f : X → Y) (xs : List X) (x : X) → map f (xs ++ x ∷ []) ≡ map f xs ++ f x ∷ []
map-last f [] x = refl
map-last f (y ∷ ys) x = ap (λ l. f y ∷ l) (map-last f ys x)

abbrev stale_at : ℕ → ℕ → ℕ → Refusal
stale_at base now item = Stale base now (Some item)

answers-itself : {X : Type 0} (r : Result X Refusal) → AnswersUnlessMemory (handed_on r) r
answers-itself (Ok x) = refl
answers-itself (Err why) = refl

all-map : {X Y : Type 0} (f : X → Y) (P : Y → Type 0) (xs : List X) → AllByRecursion P (map f xs) → AllByRecursion (λ x. P (f x)) xs
all-map f P [] all = tt
all-map f P (x ∷ xs) all = (all.0, all-map f P xs all.1)

module _ {A : Type 0} where
  -- ---- one call more

  after-last : (txn : WorkspaceState A) (calls : List (Asked A)) (call : Asked A) → after_calls txn (calls ++ call ∷ []) ≡ after_call (after_calls txn calls) call
  after-last txn [] call = refl
  after-last txn (c ∷ cs) call = after-last (after_call txn c) cs call

  answers-last : (txn : WorkspaceState A) (calls : List (Asked A)) (call : Asked A) → answers_from txn (calls ++ call ∷ []) ≡ answers_from txn calls ++ answer_to (after_calls txn calls) call ∷ []
  answers-last txn [] call = refl
  answers-last txn (c ∷ cs) call = ap (λ (l : List (Answer A)). answer_to txn c ∷ l) (answers-last (after_call txn c) cs call)

  items-last : (txn : WorkspaceState A) (calls : List (Asked A)) (call : Asked A) → items_from txn (calls ++ call ∷ []) ≡ items_from txn calls ++ items_of (after_calls txn calls) call
  items-last txn [] call = append-nil (items_of txn call)
  items-last txn (c ∷ cs) call =
      ap (λ (l : List (Item A)). items_of txn c ++ l) (items-last (after_call txn c) cs call)
      ∙ sym (append_assoc (items_of txn c) (items_from (after_call txn c) cs) (items_of (after_calls (after_call txn c) cs) call))

  with_items-more : (items xs ys : List (Item A)) → with_items items (xs ++ ys) ≡ with_items (with_items items xs) ys
  with_items-more items [] ys = refl
  with_items-more items (x ∷ xs) ys = with_items-more (with_item item_cmp items x) xs ys

  pub begin-traced : (snapshot : SnapshotState A) → IsTraced (begin_traced snapshot)
  begin-traced snapshot = record { workspace = refl; answers = refl; items = refl }

  pub call-traced : (txn : TxnState A) (call : Asked A) → IsTraced txn → IsTraced (traced txn call)
  call-traced txn call h =
      let base = txn.workspace.base in
      let calls = calls_of txn.trace in
      let last : AnsweredCall A = record { call = call; answer = answer_to txn.workspace call } in
      let all : calls_of (txn.trace ++ last ∷ []) ≡ calls ++ call ∷ [] = map-last (λ (entry : AnsweredCall A). entry.call) txn.trace last in
      let kept : (after_call txn.workspace call).base ≡ base = call-base txn.workspace call in
      record {
        workspace = ap (λ (s : WorkspaceState A). after_call s call) h.workspace ∙ sym (after-last (begin base) calls call)
            ∙ ap (λ (cs : List (Asked A)). left cs base) (sym all) ∙ ap (λ (b : SnapshotState A). left (calls_of (txn.trace ++ last ∷ [])) b) (sym kept);
        answers = map-last (λ (entry : AnsweredCall A). entry.answer) txn.trace last
            ∙ ap (λ (l : List (Answer A)). l ++ answer_to txn.workspace call ∷ []) h.answers
            ∙ ap (λ (s : WorkspaceState A). whole calls base ++ answer_to s call ∷ []) h.workspace
            ∙ sym (answers-last (begin base) calls call)
            ∙ ap (λ (cs : List (Asked A)). whole cs base) (sym all) ∙ ap (λ (b : SnapshotState A). whole (calls_of (txn.trace ++ last ∷ [])) b) (sym kept);
        items = ap (λ (l : List (Item A)). with_items l (items_of txn.workspace call)) h.items
            ∙ ap (λ (s : WorkspaceState A). with_items (footprint calls base) (items_of s call)) h.workspace
            ∙ sym (with_items-more [] (items_from (begin base) calls) (items_of (left calls base) call))
            ∙ ap (with_items []) (sym (items-last (begin base) calls call))
            ∙ ap (λ (cs : List (Asked A)). footprint cs base) (sym all) ∙ ap (λ (b : SnapshotState A). footprint (calls_of (txn.trace ++ last ∷ [])) b) (sym kept);
      }

  -- the same of a transaction by its parts
  pub traced-is : (txn : TxnState A) (call : Asked A) (workspace : WorkspaceState A) (items : List (Item A)) (trace : List (AnsweredCall A)) → after_call txn.workspace call ≡ workspace → with_items txn.footprint (items_of txn.workspace call) ≡ items
      → txn.trace ++ record { call = call; answer = answer_to txn.workspace call } ∷ [] ≡ trace → IsTraced txn → IsTraced (record { workspace = workspace; footprint = items; trace = trace })
  traced-is txn call workspace items trace s f t h =
      subst (λ (x : WorkspaceState A). IsTraced (record { workspace = x; footprint = items; trace = trace })) s
      (subst (λ (x : List (Item A)). IsTraced (record { workspace = after_call txn.workspace call; footprint = x; trace = trace })) f
      (subst (λ (x : List (AnsweredCall A)). IsTraced (record { workspace = after_call txn.workspace call; footprint = with_items txn.footprint (items_of txn.workspace call); trace = x })) t (call-traced txn call h)))

  abbrev state_of : WorkspaceState A → List (Item A) → List (AnsweredCall A) → TxnState A
  state_of workspace items trace = record { workspace = workspace; footprint = items; trace = trace }

  pub parts-same : (a b : WorkspaceState A) (x y : List (Item A)) (t u : List (AnsweredCall A)) → a ≡ b → x ≡ y → t ≡ u → state_of a x t ≡ state_of b y u
  parts-same a b x y t u s f l = ap (λ (z : WorkspaceState A). state_of z x t) s ∙ ap (λ (z : List (Item A)). state_of b z t) f ∙ ap (λ (z : List (AnsweredCall A)). state_of b y z) l

  pub traced-same : (txn : TxnState A) (call : Asked A) (workspace : WorkspaceState A) (items : List (Item A)) (trace : List (AnsweredCall A)) → after_call txn.workspace call ≡ workspace → with_items txn.footprint (items_of txn.workspace call) ≡ items
      → txn.trace ++ record { call = call; answer = answer_to txn.workspace call } ∷ [] ≡ trace → state_of workspace items trace ≡ traced txn call
  traced-same txn call workspace items trace s f t = parts-same workspace (after_call txn.workspace call) items (with_items txn.footprint (items_of txn.workspace call)) trace (traced txn call).trace (sym s) (sym f) (sym t)

  -- a row that was read is answered so
  pub row-answered : (found : Result (Option (Fields A)) Refusal) (call : Asked A) (old new : TxnState A) → row_answer found ≡ answer_to old.workspace call → new ≡ traced old call → IsAnswered answer.Row (handed_on found) call old new
  row-answered (Ok row) call old new told is = (told, is)
  row-answered (Err why) call old new told is = (told, is)

  pub rows-answered : (found : Result (List (RowRef A × Fields A)) Refusal) (call : Asked A) (old new : TxnState A) → rows_answer found ≡ answer_to old.workspace call → new ≡ traced old call → IsAnswered answer.Rows (handed_on found) call old new
  rows-answered (Ok rows) call old new told is = (told, is)
  rows-answered (Err why) call old new told is = (told, is)

  -- ---- what stands

  pub traced-IsSound : (txn : TxnState A) → IsTraced txn → IsSound txn.workspace
  traced-IsSound txn h = subst (λ (s : WorkspaceState A). IsSound s) (sym h.workspace) (calls-IsSound (calls_of txn.trace) (begin txn.workspace.base) (begin-IsSound txn.workspace.base))

  leaves-one : (base : Tables A) (ops : List (Op A)) (d e : Tables A) → Leaves base ops d → Leaves base ops e → d ≡ e
  leaves-one base ops d e h k =
      let both : Ok h.outcome ≡ Ok k.outcome = sym h.runs ∙ k.runs in
      let same : h.outcome ≡ k.outcome = cc in
      sym h.leaves ∙ ap (λ (o : OutcomeState A). o.database) same ∙ k.leaves

  -- a read answers from the base followed by the operations that stand
  pub reads-own_writes : {X : Type 0} (txn : TxnState A) (reading : Tables A → Result X Refusal) (found : Result X Refusal) → IsTraced txn → found ≡ reading txn.workspace.database → ReadsOwnWrites txn reading (handed_on found)
  reads-own_writes txn reading found h is tables leaves =
      let same = leaves-one txn.workspace.base.database txn.workspace.ops txn.workspace.database tables (traced-IsSound txn h).left leaves in
      subst (λ r. AnswersUnlessMemory (handed_on found) r) (is ∙ ap reading same) (answers-itself found)

  -- the number of the next savepoint is above that of each mark that was answered
  pub new-mark : (txn : TxnState A) (mark : Mark) → IsTraced txn → mark.number ≡ txn.workspace.made → IsNewMark txn mark
  new-mark txn mark h is =
      let calls = calls_of txn.trace in
      let base = txn.workspace.base in
      let below : AllByRecursion (IsLower (left calls base).made) (whole calls base) = marks-lower calls (begin base) in
      let next : (left calls base).made ≡ mark.number = ap (λ (s : WorkspaceState A). s.made) (sym h.workspace) ∙ sym is in
      all-map (λ (entry : AnsweredCall A). entry.answer) (IsLower mark.number) txn.trace
      (subst (λ (l : List (Answer A)). AllByRecursion (IsLower mark.number) l) (sym h.answers) (subst (λ (n : ℕ). AllByRecursion (IsLower n) (whole calls base)) next below))

  -- ---- what is committed

  pub txn-AreOpsOf : (txn : TxnState A) → IsTraced txn → EachRises txn.workspace.base.database → AreOpsOf txn.workspace.ops txn.workspace.base.version (reads_of txn)
  txn-AreOpsOf txn h rise = record {
    rises = rise;
    ops = ap (λ (s : WorkspaceState A). s.ops) h.workspace;
    answers = h.answers;
    items = h.items;
  }

  module _ (acts : (table : TableState A) (action : Action A) → IsRising table → IfOk (act table action) IsRising) where
    -- where the batch is not refused its operations are accepted, and its calls are answered as its trace says
    pub accepted-goes : (base : ℕ) (ops : List (Op A)) (reads : ReadSetState A) (now : SnapshotState A) → AreOpsOf ops base reads → EachRises now.database → stale (Some base) (Some reads) now ≡ None
        → Unchanged reads.database now.database reads.footprint × (map (λ entry. entry.answer) reads.trace ≡ whole (calls_of reads.trace) now) × Leaves now.database ops (left (calls_of reads.trace) now).database
    accepted-goes base ops reads now h rise fresh =
        let none = inner (first_changed reads.database now.database reads.footprint) fresh in
        let unchanged = none-changed reads.database now.database reads.footprint none in
        let same : Unchanged reads.database now.database (footprint (calls_of reads.trace) (base_of base reads)) = subst (λ (l : List (Item A)). Unchanged reads.database now.database l) h.items unchanged in
        let made = goes-through acts (base_of base reads) now (calls_of reads.trace) h.rises rise same in
        (unchanged, h.answers ∙ sym made.answers, subst (λ (l : List (Op A)). Leaves now.database l (left (calls_of reads.trace) now).database) (sym h.ops) made.accepted)
      where
        inner : (o : Option ℕ) → option_map (λ item. stale_at base now.version item) o ≡ None → o ≡ None
        inner None e = refl
        inner (Some n) e = absurd (cc)

    -- where it is refused, an item has changed, and the first one is told
    pub refused-changed : (base : ℕ) (reads : ReadSetState A) (now : SnapshotState A) (why : Refusal) → stale (Some base) (Some reads) now ≡ Some why
        → (n : ℕ) × (why ≡ stale_at base now.version n) × IsFirstChanged reads.database now.database reads.footprint n
    refused-changed base reads now why is = inner (first_changed reads.database now.database reads.footprint) refl is
      where
        inner : (o : Option ℕ) → first_changed reads.database now.database reads.footprint ≡ o → option_map (λ item. stale_at base now.version item) o ≡ Some why
            → (n : ℕ) × (why ≡ stale_at base now.version n) × IsFirstChanged reads.database now.database reads.footprint n
        inner None found e = absurd (cc)
        inner (Some n) found e = let told : stale_at base now.version n ≡ why = cc in (n, sym told, first-changed reads.database now.database reads.footprint n found)

    pub judged : (made : List (Op A)) (base : ℕ) (reads : ReadSetState A) (now : SnapshotState A) → AreOpsOf made base reads → EachRises now.database → IsJudged made now base reads
    judged made base reads now h rise = record {
      fresh = λ same. ap (option_map (λ item. stale_at base now.version item)) (unchanged-none reads.database now.database reads.footprint same);
      accepted = accepted-goes base made reads now h rise;
      refused = refused-changed base reads now;
    }
