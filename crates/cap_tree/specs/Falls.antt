-- Each child of a node is lower than the node.
use Rattle.std.specs.Prelude.{ℕ, ◌≤◌, max, List, [], ◌∷◌}
use Rattle.std.proofs.Common.{arith}
use Rattle.std.specs.declared.cmp.Ord.{Ghosts as OrdGhosts}
use Rattle.std.specs.declared.cmp.PartialEq.{Ghosts as PartialEqGhosts}
use Rattle.std.specs.declared.cmp.PartialOrd.{Ghosts as PartialOrdGhosts}
use Rattle.std.specs.declared.alloc.Allocator.{Ghosts as AllocatorGhosts}
use Rattle.cap_tree.specs.declared.node.Child.{Child}
use Rattle.cap_tree.specs.declared.node.Link.{Link}
use Rattle.cap_tree.specs.declared.node.Link.TheVariants.{Leaf, Inner}
use Rattle.cap_tree.specs.declared.node.Node.TheDeep.{deep-Link, deep-Child}
use Rattle.cap_tree.specs.Shape.{IsNode, AreChildren, branches, shape}
use denote.Param.Weighed.{most}

module _ (K V Z : Type 0) (o : OrdGhosts K) (e : PartialEqGhosts K) (p : PartialOrdGhosts K)
    (a : AllocatorGhosts Z) where
  most_le-height : (height : ℕ) (children : List (Child K V Z)) → AreChildren o.cmp height (branches children)
      → most (λ x. deep-Child K V Z o e p a x) children ≤ height
  most_le-height height [] h = omega arith
  most_le-height height (x ∷ xs) h = omega (arith, most_le-height height xs h.3, h.0.0)

  pub depth_le-height : (l : Link K V Z) → IsNode o.cmp l → max (deep-Link K V Z o e p a l) 0 ≤ (shape l).height
  depth_le-height (Leaf entries) h = omega arith
  depth_le-height (Inner height count children) h =
      omega (arith, most_le-height height children.items h.children)
