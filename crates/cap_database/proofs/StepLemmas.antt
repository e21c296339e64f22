-- An operation on the table at its place, and what it does to the database.
use Rattle.std.proofs.Common.{Bool, false, ◌≡◌, ℕ, zero, suc, ◌+◌, ◌<◌, Some, None, Result, Ok, Err, List, [], ◌∷◌, ◌++◌, length, take, get_or, set, sym, ap, ◌∙◌, arith, Ordering, Equal, Greater}
use Rattle.std.specs.Prelude.{OnOk, is_some}
use Rattle.std.proofs.lemmas.Bool.Decides.{nat_tests}
use Rattle.std.proofs.lemmas.Cmp.{nat_list_cmp_total}
use Rattle.cap_value.specs.Bytes.{bytes_cmp}
use Rattle.cap_value.specs.declared.memory.Fault.{Fault}
use Rattle.cap_value.specs.declared.memory.Fault.TheVariants.{Refused}
use Rattle.cap_value.specs.declared.refusal.Refusal.{Refusal}
use Rattle.cap_tree.specs.Tree.{put_entry}
use Rattle.cap_value.specs.Memory.{RefusesFirst}
use Rattle.cap_table.specs.Operation.{empty_table}
use Rattle.cap_database.specs.declared.op.Action.{Action}
use Rattle.cap_database.specs.declared.op.Action.TheVariants.{Insert, Update, Delete}
use Rattle.cap_table.specs.Sound.{IsRising}
use Rattle.std.proofs.lemmas.List.{take_more}
use Rattle.cap_table.specs.Table.{TableState}
use Rattle.cap_table.specs.WithHook.{LeavesIfAllowed}
use Rattle.cap_table.specs.declared.change_fault.ChangeFault.{ChangeFault}
use Rattle.cap_database.specs.declared.op.Op.{Op}
use Rattle.cap_database.specs.Operation.{act, in_place, refused_act, step, stepped}
use Rattle.cap_database.specs.Tables.{AreTables, Tables, create, refused_create, table_of}
use Rattle.cap_database.proofs.KeptLemmas.{put-tables}
use Rattle.cap_tree.proofs.EntryLemmas.{Each, length-put_entry}

-- what an operation on its table leaves of the database
pub act_step : {A : Type 0} (ts : Tables A) (op : Op A) (t after : TableState A) → table_of ts op.table ≡ Some t → act t op.action ≡ Ok after → step ts op ≡ Ok (put_entry bytes_cmp ts op.table after)
act_step ts op t after there is = ap (λ found. stepped ts found op) there ∙ ap (in_place ts op.table) is

-- what a hook allowed was made
pub agreed : {S E : Type 0} (r : Result (Unit {0}) (ChangeFault E)) (answer : Result S Refusal) (left : S) (unasked : Type 0) (gives : Result (Unit {0}) E → Type 0) → LeavesIfAllowed r answer left unasked gives → OnOk r (answer ≡ Ok left)
agreed (Ok done) answer left unasked gives is = is.0
agreed (Err e) answer left unasked gives is = tt

pub after_create : {A : Type 0} (ts new : Tables A) (name : List ℕ) (t : TableState A) → AreTables ts → IsRising t → new ≡ put_entry bytes_cmp ts name t → length ts < 64 → AreTables new
after_create ts new name t h rises is few =
    let longer = length-put_entry bytes_cmp nat_list_cmp_total name t ts h.ordered in
    rw is (put-tables ts name t h rises (grind (arith, longer)))

module _ {A : Type 0} (ts : Tables A) (name : List ℕ) where
  pub is_free : is_some (table_of ts name) ≡ false → length ts < 64 → refused_create ts name ≡ None
  is_free there few = grind (arith, nat_tests)

  pub created_is : (u new : Tables A) (schema : List Bool) (t : TableState A) → ts ≡ u → is_some (table_of ts name) ≡ false → length ts < 64 → t ≡ empty_table schema → new ≡ put_entry bytes_cmp ts name t → create u name schema ≡ Ok new
  created_is u new schema t is there few e n = let free = is_free there few in rw (← is, free) cc

  pub created_first : {X : Type 0} (u : Tables A) (r : Result X (Fault Refusal)) → ts ≡ u → is_some (table_of ts name) ≡ false → length ts < 64 → RefusesFirst (refused_create u name) r
  created_first u r is there few = let free = is_free there few in rw (← is, free) tt

pub take_item : {X : Type 0} (xs : List X) (i : ℕ) (x : X) → i < length xs → x ≡ get_or xs i x → take (i + 1) xs ≡ take i xs ++ x ∷ []
take_item xs i x within is = take_more xs i x within ∙ ap (λ y. take i xs ++ y ∷ []) (sym is)

module _ {A : Type 0} (t : TableState A) where
  -- what is refused before memory is needed is refused
  pub refused_act_is : (action : Action A) (why : Refusal) → refused_act t action ≡ Some why → act t action ≡ Err why
  refused_act_is (Insert row) why is = grind (arith, nat_tests)
  refused_act_is (Update name fields) why is = grind arith
  refused_act_is (Delete name) why is = grind arith

  pub refused_act_first : (X : Type 0) (action : Action A) (why : Refusal) → act t action ≡ Err why → RefusesFirst {X = X} (refused_act t action) (Err (Refused why))
  refused_act_first X action why is = grind (arith, refused_act_is action)

-- a put among entries in order at an equal key, which is the same
module _ {K V : Type 0} (cmp : K → K → Ordering) where
  pub put_named : ((x y : K) → cmp x y ≡ Equal → x ≡ y) → (k : K) (v : V) (es : List (K × V)) (i : ℕ) (d x : K × V) → i < length es → Each cmp Greater k (take i es) → cmp k (get_or es i x).0 ≡ Equal → put_entry cmp es k v ≡ set es i ((get_or es i d).0, v)
  put_named same k v [] i d x within h here = absurd (omega arith)
  put_named same k v (e ∷ es) zero d x within h here = rw here (ap (λ key. (key, v) ∷ es) (same k e.0 here))
  put_named same k v (e ∷ es) (suc i) d x within h here = rw h.0 (ap (λ t. e ∷ t) (put_named same k v es i d x (omega arith) h.1 here))
