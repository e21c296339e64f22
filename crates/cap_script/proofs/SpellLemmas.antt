-- Lists and batches that grow by one.
use Rattle.std.proofs.Common.{◌≡◌, List, [], ◌∷◌, ◌++◌, Option, None, Some, Result, Ok, Err, sym, ap, subst, ◌∙◌, append_assoc, append-nil}
use Rattle.cap_value.specs.declared.refusal.Refusal.{Refusal}
use Rattle.cap_txn.specs.Batch.{BatchState, push, pushed, refused_push}
use Rattle.cap_database.specs.declared.op.Op.{Op}

-- one more at the end of what was read
pub one_more : {X : Type 0} (P : List X → Type 0) (items new tail : List X) (x : X) → new ≡ items ++ x ∷ [] → P (items ++ x ∷ tail) → P (new ++ tail)
one_more {X} P items new tail x e h = subst P (sym (ap (λ (xs : List X). xs ++ tail) e ∙ append_assoc items (x ∷ []) tail)) h

-- nothing more
pub no_more : {X : Type 0} (P : List X → Type 0) (items : List X) → P (items ++ []) → P items
no_more P items h = subst P (append-nil items) h

module _ {A : Type 0} where
  -- ---- batches

  abbrev ok_or : BatchState A → Result (BatchState A) Refusal → BatchState A
  ok_or batch (Ok new) = new
  ok_or batch (Err why) = batch

  pushed_is : (refused : Option Refusal) (batch new : BatchState A) (op : Op A) → pushed refused batch op ≡ Ok new → (new.base ≡ batch.base) × (new.ops ≡ batch.ops ++ op ∷ []) × (new.reads ≡ None)
  pushed_is None batch new op e = let same = ap (ok_or batch) e in (sym (ap (λ (b : BatchState A). b.base) same), sym (ap (λ (b : BatchState A). b.ops) same), sym (ap (λ (b : BatchState A). b.reads) same))
  pushed_is (Some why) batch new op e = absurd cc

  pub push_is : (batch new : BatchState A) (op : Op A) → push batch op ≡ Ok new → (new.base ≡ batch.base) × (new.ops ≡ batch.ops ++ op ∷ []) × (new.reads ≡ None)
  push_is batch new op e = pushed_is (refused_push batch.ops) batch new op e
