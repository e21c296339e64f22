-- Trees go from one thread to another where their keys, values and allocator do.
use denote.RattleType.{RattleType}
use denote.Param.Send.{IsSend, IsSync, Frees, sendable}
use Rattle.std.proofs.CrossingOver.{crosses}
use Rattle.std.specs.declared.cmp.Ord as ord
use Rattle.std.specs.declared.cmp.PartialEq as equality
use Rattle.std.specs.declared.cmp.PartialOrd as comparison
use Rattle.std.specs.declared.alloc.Allocator as allocator
use Rattle.cap_tree.proofs.node.Node.TheLaws.TheKnot.{both_send-Node, both_sync-Node}
use Rattle.cap_tree.specs.contracts.node.Node as Node
use Rattle.cap_tree.specs.contracts.tree.Tree as Tree

module _ (K V A : RattleType) (o : ord.Ghosts K.Denot) (e : equality.Ghosts K.Denot) (p : comparison.Ghosts K.Denot)
    (a : allocator.Ghosts A.Denot) where
  module _ (ks : IsSend K) (ky : IsSync K) (vs : IsSend V) (vy : IsSync V) (al : IsSend A) (ay : IsSync A)
      (frees : Frees a a.dealloc_token) where
    pub node_send : IsSend (Node.the_row K V A o e p a)
    node_send = search (both_send-Node, sendable, crosses) depth 20

    pub node_sync : IsSync (Node.the_row K V A o e p a)
    node_sync = search (both_sync-Node, sendable, crosses) depth 20

    pub tree_send : IsSend (Tree.the_row K V A o e p a)
    tree_send = search (node_send, node_sync, sendable, crosses) depth 20

    pub tree_sync : IsSync (Tree.the_row K V A o e p a)
    tree_sync = search (node_send, node_sync, sendable, crosses) depth 20
