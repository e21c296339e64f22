-- In every saved database names, keys and ids rise.
use Rattle.std.proofs.Common.{◌≡◌, ℕ, Some, List, [], ◌∷◌, arith}
use Rattle.std.specs.List.{AllByRecursion}
use Rattle.std.proofs.lemmas.Bool.{cond_both}
use Rattle.cap_value.specs.Bytes.{bytes_cmp}
use Rattle.cap_tree.specs.Tree.{get, take_entry}
use Rattle.cap_database.specs.Tables.{AreRising, Tables}
use Rattle.cap_database.proofs.KeptLemmas.{each-found, each-put}
use Rattle.cap_core.specs.declared.command.Command.{Command}
use Rattle.cap_core.specs.declared.command.Command.TheVariants.{DropDatabase, SaveAs}
use Rattle.cap_core.specs.History.{Databases, main, saved, saved_after}
use Rattle.cap_core.specs.Past.{Past, is_accepted}
use Rattle.cap_core.specs.Table.{BlobsFitPast}

each-left : {X : Type 0} (P : X → Type 0) (es : List (List ℕ × X)) (name : List ℕ) → AllByRecursion (λ e. P e.1) es → AllByRecursion (λ e. P e.1) (take_entry bytes_cmp es name)
each-left P [] name all = tt
each-left P (e ∷ es) name all = grind (arith, all.0, all.1, each-left P es name all.1)

module _ {A : Type 0} (rises : (past : Past A) → BlobsFitPast past → AreRising (main past)) where
  abbrev EachRising : Databases A → Type 0
  EachRising databases = AllByRecursion (λ e. AreRising e.1) databases

  after-rises : (c : Command A) (tables : Tables A) (databases : Databases A) → AreRising tables → EachRising databases → EachRising (saved_after c tables databases)
  after-rises (SaveAs name) tables databases rise all = each-put AreRising databases name tables all rise
  after-rises (DropDatabase name) tables databases rise all = each-left AreRising databases name all
  after-rises _ tables databases rise all = all

  saved-rise : (past : Past A) → BlobsFitPast past → EachRising (saved past)
  saved-rise [] fits = tt
  saved-rise (event ∷ past) fits = cond_both (is_accepted event.reply) _ _ EachRising (λ _. after-rises event.command (main past) (saved past) (rises past fits.1) (saved-rise past fits.1)) (λ _. saved-rise past fits.1)

  pub found-rises : (past : Past A) → BlobsFitPast past → (name : List ℕ) (database : Tables A) → get bytes_cmp (saved past) name ≡ Some database → AreRising database
  found-rises past fits name database is = each-found AreRising (saved past) name database (saved-rise past fits) is
