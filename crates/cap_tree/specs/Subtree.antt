-- What a node is seen as.
use Rattle.std.specs.Prelude.{ℕ, List}

-- the entries in order, the height, which is 0 for a leaf, and how many items the node holds itself
pub record Subtree (K V : Type 0) : Type 0 where
  pub entries : List (K × V)
  pub height : ℕ
  pub items : ℕ

-- a child as its parent sees it: a key that parts it from the children in front of it, and what is below it
abbrev pub Branch : Type 0 → Type 0 → Type 0
Branch K V = K × Subtree K V
