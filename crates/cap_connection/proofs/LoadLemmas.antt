-- Tables that are created one after the other.
use Rattle.std.proofs.Common.{◌≡◌, ℕ, ◌≤◌, ◌-◌, List, [], ◌∷◌, length, drop, take, map, get_or, refl, sym, ap, subst, arith}
use Rattle.std.specs.Prelude.{Result, Ok, Err}
use Rattle.std.proofs.lemmas.List.{take_all}
use Rattle.cap_value.specs.declared.memory.Fault.{Fault}
use Rattle.cap_changes.specs.Entries.{TableEntries}
use Rattle.cap_core.specs.declared.command.Command.TheVariants as command
use Rattle.cap_dump.specs.Load.{named_in}
use Rattle.cap_connection.specs.Calls.{Done}
use Rattle.cap_connection.specs.Connection.{ConnectionState}
use Rattle.cap_connection.specs.Loads.{CreatesEach, Follows}
use Rattle.cap_connection.specs.Replies.{number_in}
use Rattle.cap_connection.specs.Runs.{RunsMade}
use Rattle.cap_connection.specs.declared.fault.ConnectionFault.{ConnectionFault}

first_and_others : {X : Type 0} (xs : List X) (x : X) → 1 ≤ length xs → x ≡ get_or xs 0 x → xs ≡ x ∷ drop 1 xs
first_and_others [] x some is = absurd (omega (arith, some))
first_and_others {X = X} (y ∷ ys) x some is = ap (λ (z : X). z ∷ ys) (sym is)

short : {X : Type 0} (xs : List X) → length (drop 1 xs) ≤ length xs - 1
short [] = omega arith
short (y ∷ ys) = omega arith

others_are : {X : Type 0} (xs : List X) → take (length xs - 1) (drop 1 xs) ≡ drop 1 xs
others_are xs = take_all (length xs - 1) (drop 1 xs) (short xs)

module _ {X : Type 0} (groups : List (TableEntries X)) (group : TableEntries X) (old mid : ConnectionState) (first : Result ℕ (Fault ConnectionFault)) (some : 1 ≤ length groups) (is : group ≡ get_or groups 0 group)
    (runs : RunsMade number_in (command.CreateTable group.table group.schema) old mid first) where
  -- the first is created, and the others are
  pub creates_more : (new : ConnectionState) (number : ℕ) (result : Done) → first ≡ Ok number → CreatesEach (map named_in (take (length groups - 1) (drop 1 groups))) mid new result
      → CreatesEach (map named_in groups) old new result
  creates_more new number result made later =
      let more = subst (λ (gs : List (TableEntries X)). CreatesEach (map named_in gs) mid new result) (others_are groups) later in
      subst (λ (gs : List (TableEntries X)). CreatesEach (map named_in gs) old new result) (sym (first_and_others groups group some is))
      (mid, first, runs, subst (λ (f : Result ℕ (Fault ConnectionFault)). Follows f (CreatesEach (map named_in (drop 1 groups)) mid new result) (λ why. (new ≡ mid) × (result ≡ Err why))) (sym made) more)

  -- the first is not
  pub creates_none : (why : Fault ConnectionFault) → first ≡ Err why → CreatesEach (map named_in groups) old mid (Err why)
  creates_none why made =
      subst (λ (gs : List (TableEntries X)). CreatesEach (map named_in gs) old mid (Err why)) (sym (first_and_others groups group some is))
      (mid, first, runs, subst (λ (f : Result ℕ (Fault ConnectionFault)). Follows f (CreatesEach (map named_in (drop 1 groups)) mid mid (Err why)) (λ told. (mid ≡ mid) × (◌≡◌ {A = Done} (Err why) (Err told)))) (sym made) (refl, refl))
