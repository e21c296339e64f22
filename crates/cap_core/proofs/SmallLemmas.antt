-- Truth values, lists, and what a write adds to the sessions.
pub use Rattle.cap_table.proofs.TableLemmas.{first, second}
pub use Rattle.cap_database.proofs.StayLemmas.{either_false, other_false}
use Rattle.std.proofs.Common.{◌≡◌, Option, Some, None, Result, Ok, Err, IfOk, List, [], ◌∷◌, ◌++◌, append_assoc, arith, ◌<◌, ◌+◌, ℕ, map, length, get_or, take, inl, inr, sym, ap, ◌∙◌}
use Rattle.std.specs.List.{cons_option, filter_map}
use Rattle.std.proofs.lemmas.List.{map-append}
use Rattle.std.proofs.Math.Seq.{take-suc}
use Rattle.cap_database.specs.Write.{AreShown}
use Rattle.cap_database.specs.declared.change.Change.{Change}
use Rattle.cap_session.specs.Sessions.{NumberedSessions, record_commit_each}
use Rattle.cap_session.proofs.KeyLemmas.{again-each}

-- one item more of a loop over the items that a function makes something of
pub filter_map-more : {X Y : Type 0} (f : Y → Option X) (list made : List X) (rest : List Y) (y : Y) (found : Option X) → made ≡ list ++ cons_option found [] → found ≡ f y → made ++ filter_map f rest ≡ list ++ filter_map f (y ∷ rest)
filter_map-more f list made rest y None is same = grind (arith, append_assoc)
filter_map-more f list made rest y (Some x) is same = grind (arith, append_assoc)

-- one more that is listed
pub list-each : {X Z : Type 0} (list : X → Z) (listed : List Z) (xs : List X) (i : ℕ) (item : X) (one : Z) → i < length xs → item ≡ get_or xs i item → one ≡ list item → listed ≡ map list (take i xs)
    → listed ++ one ∷ [] ≡ map list (take (i + 1) xs)
list-each list listed xs i item one lt same is sofar = grind (arith, take-suc xs i item lt, map-append list (take i xs) (item ∷ []))

-- what the hook is not shown of an update adds nothing to the sessions
pub shown-recorded : {A : Type 0} (shown changes : List (Change A)) (sessions : NumberedSessions A) → AreShown shown changes → record_commit_each shown [] sessions ≡ record_commit_each changes [] sessions
shown-recorded shown changes sessions (inl is) = ap (λ cs. record_commit_each cs [] sessions) is
shown-recorded shown changes sessions (inr (change, first, both)) =
    ap (λ cs. record_commit_each cs [] sessions) first ∙ sym (again-each change None [] sessions) ∙ ap (λ cs. record_commit_each cs [] sessions) (sym both)

-- what holds of anything holds of an answer
pub each-ok : {X E : Type 0} {P : X → Type 0} (r : Result X E) → ((x : X) → P x) → IfOk r P
each-ok (Ok x) says = says x
each-ok (Err why) says = tt
