-- Lines that begin with the word `commit`.
use Rattle.std.proofs.Common.{◌≡◌, ℕ, List, Option, Some, true, codes, ap, ◌∙◌}
use Rattle.std.proofs.lemmas.Slice.Eq.{bytes_eq-Decides}
use Rattle.cap_value.specs.Bytes.{bytes_eq}
use Rattle.cap_language.specs.Forms.{a_word, one_of}
use Rattle.cap_language.specs.Grammar.{next_at, read, read_at, token_then}
use Rattle.cap_language.specs.Tokens.{behind_blanks}
use Rattle.cap_script.specs.Language.{command, commands, commit}

module _ {A : Type 0} where
  -- behind `commit` a commit is read
  pub commit_read : (line word rest : List ℕ) → bytes_eq word (codes "commit") ≡ true → next_at a_word line ≡ Some (word, rest)
      → read (command {A = A}) line ≡ read commit rest
  unfolding command
  commit_read line word rest is found =
      let same : word ≡ codes "commit" = (bytes_eq-Decides word (codes "commit")).0 is in
      ap (λ o. token_then (behind_blanks line) o (λ w rest. read_at true (one_of commands w) (behind_blanks line) rest)) found
      ∙ ap (λ w. read_at true (one_of commands w) (behind_blanks line) rest) same
