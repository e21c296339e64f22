-- Two neighbours whose items are divided anew, each as it is seen.
use Rattle.std.specs.Prelude.{◌≡◌, ℕ, Option, MatchOption, ◌+◌, ◌^◌, ◌<◌, ◌≤◌, ◌++◌, length}
use Rattle.std.specs.declared.cmp.Ordering.{Ordering}
use Rattle.cap_tree.specs.Subtree.{Subtree}
use Rattle.cap_tree.specs.Tree.{IsOrdered}
use Rattle.cap_tree.specs.Shape.{EachBelow, NoneBelow}

module _ {K V : Type 0} where
  -- two nodes of one height as one, the items of the second behind those of the first
  abbrev pub merged : Subtree K V → Subtree K V → Subtree K V
  merged c d = record { entries = c.entries ++ d.entries; height = c.height; items = c.items + d.items }

  -- the first items of a whole node, so many of them, are in front, and the others behind, from the key k on;
  -- or there are no others
  pub record IsCut (cmp : K → K → Ordering) (at : ℕ) (whole front back : Subtree K V)
      (k : Option K) : Type 0 where
    pub entries : whole.entries ≡ front.entries ++ back.entries
    pub height : front.height ≡ whole.height
    pub back_height : back.height ≡ whole.height
    pub len : front.items ≡ at
    pub back_len : back.items + at ≡ whole.items
    pub parted : MatchOption k (back.items ≡ 0)
        (λ l. (0 < back.items) × EachBelow cmp l front.entries × NoneBelow cmp l back.entries)

  -- two nodes of one height, the second from the key k on, which the first is below where the second has any
  pub record AreNeighbours (cmp : K → K → Ordering) (front back : Subtree K V) (k : K) : Type 0 where
    pub level : front.height ≡ back.height
    pub fits : length front.entries + length back.entries < 2 ^ 64
    pub ordered : IsOrdered cmp (front.entries ++ back.entries)
    pub below : 0 < back.items → EachBelow cmp k front.entries
    pub not_below : NoneBelow cmp k back.entries

-- so many items for the first of two nodes, and none too many for either
pub record IsShare (at total : ℕ) : Type 0 where
  pub most : at ≤ 16
  pub within : at ≤ total
  pub back_most : total ≤ at + 16
