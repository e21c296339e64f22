use Rattle.std.proofs.Common.{◌+◌, ◌*◌}
use Rattle.std.specs.Arc.{arc_value}
use Rattle.cap_tree.proofs.change.+change.Given as goal

abbrev pub decreases-change_in_node : goal.decreases-change_in_node
decreases-change_in_node g l = 2 * l.node.now.height

abbrev pub decreases-change_in_child : goal.decreases-change_in_child
decreases-change_in_child g l = 2 * (arc_value l.child.now.node).height + 1
