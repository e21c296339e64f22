use Rattle.std.proofs.Common.{◌≡◌, None, length}
use Rattle.cap_language.specs.Grammar.{read}
use Rattle.cap_script.specs.Language.{batch}
use Rattle.cap_script.proofs.BatchLaws.{batch_so_far}
use Rattle.cap_script.proofs.operation.batch.Given as goal

abbrev pub invariant-loop-alloc : goal.invariant-loop-alloc
invariant-loop-alloc g l =
    (read (batch l.fn.empty.base) l.fn.cursor.rest.now ≡ batch_so_far l.made l.cursor.rest.now)
    × (l.made.reads ≡ None) × (l.made.base ≡ l.fn.empty.base)

abbrev pub decreases-loop-alloc : goal.decreases-loop-alloc
decreases-loop-alloc g l = length l.cursor.rest.now
