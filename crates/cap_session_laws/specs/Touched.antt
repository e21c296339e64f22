-- The records of a table after touches, key by key.
use Rattle.std.specs.Prelude.{◌≡◌, Bool, Some, None, List, [], ◌∷◌, filter, ◌&&◌}
use Rattle.std.specs.List.{list_all}
use Rattle.cap_row.specs.Fields.{Fields}
use Rattle.cap_row.specs.Key.{fields_cmp, fields_eq}
use Rattle.cap_tree.specs.Tree.{get}
use Rattle.cap_session.specs.declared.record.Record.{Record}
use Rattle.cap_session.specs.Records.{Records, Touch}

module _ {A : Type 0} where
  -- the touches of a key
  abbrev pub touches_at : Fields A → List (Touch A) → List (Touch A)
  touches_at key touches = filter (λ t. fields_eq key t.key) touches

  abbrev pub are_indirect : List (Touch A) → Bool
  are_indirect touches = list_all (λ t. t.indirect) touches

  -- The records after touches, key by key: a record keeps its image; a new record has the image of the first
  -- touch of its key; a record is indirect where it was and every touch of its key is; and no other key has a
  -- record.
  pub record AreTouched (before : Records A) (touches : List (Touch A)) (after : Records A) : Type 0 where
    pub kept : (key : Fields A) (r : Record A) → get fields_cmp before key ≡ Some r
        → get fields_cmp after key
        ≡ Some (record { image = r.image; indirect = r.indirect && are_indirect (touches_at key touches) })
    pub gained : (key : Fields A) (first : Touch A) (others : List (Touch A))
        → get fields_cmp before key ≡ None → touches_at key touches ≡ first ∷ others
        → get fields_cmp after key
        ≡ Some (record { image = first.image; indirect = are_indirect (first ∷ others) })
    pub untouched : (key : Fields A) → get fields_cmp before key ≡ None → touches_at key touches ≡ []
        → get fields_cmp after key ≡ None
