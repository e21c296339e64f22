use Rattle.std.proofs.Common.{◌≡◌, length}
use Rattle.cap_language.specs.Grammar.{read}
use Rattle.cap_language.specs.Forms.{natural}
use Rattle.cap_language.specs.Forms.{separated}
use Rattle.cap_language.proofs.GrammarLaws.{so_far}
use Rattle.cap_script.proofs.command.numbers.Given as goal

abbrev pub invariant-loop-numbers : goal.invariant-loop-numbers
invariant-loop-numbers g l =
    read (separated 44 (λ _. natural)) l.fn.cursor.rest.now ≡ so_far 44 (λ _. natural) l.numbers.items l.cursor.rest.now

abbrev pub decreases-loop-numbers : goal.decreases-loop-numbers
decreases-loop-numbers g l = length l.cursor.rest.now
