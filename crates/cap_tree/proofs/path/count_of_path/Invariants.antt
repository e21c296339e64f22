use Rattle.std.proofs.Common.{◌≡◌, ◌+◌, length, drop}
use Rattle.cap_tree.specs.Path.{pending}
use Rattle.cap_tree.proofs.path.count_of_path.Given as goal

abbrev pub invariant-loop-children : goal.invariant-loop-children
invariant-loop-children g l = l.count + length (pending (drop l.children-index l.path)) ≡ length (pending l.path)
