use Rattle.std.proofs.Common.{◌≡◌, length}
use Rattle.cap_language.specs.Grammar.{read}
use Rattle.cap_language.specs.Forms.{separated, value}
use Rattle.cap_language.proofs.GrammarLaws.{so_far}
use Rattle.cap_language.proofs.literals.row_items.Given as goal

abbrev pub invariant-loop-alloc : goal.invariant-loop-alloc
invariant-loop-alloc g l =
    read (separated 44 (λ _. value)) l.fn.cursor.rest.now ≡ so_far 44 (λ _. value) l.builder l.cursor.rest.now

abbrev pub decreases-loop-alloc : goal.decreases-loop-alloc
decreases-loop-alloc g l = length l.cursor.rest.now
