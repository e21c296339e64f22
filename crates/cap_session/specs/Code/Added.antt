-- What is added to one session, behind what is added to others.
use Rattle.std.specs.Prelude.{◌≡◌, ℕ, List, [], ◌∷◌, ◌++◌, length, map}
use Rattle.cap_session.specs.declared.delta.Delta.{Delta}
use Rattle.cap_session.specs.Delta.{renewed, with_parts, with_records}
use Rattle.cap_session.specs.Records.{Records}
use Rattle.cap_session.specs.Session.{AttachedTables, SessionState}

-- these parts, all of the item at the index, behind those of others
abbrev pub appended : {P : Type 0} → ℕ → List (ℕ × P) → List P → List (ℕ × P)
appended place others own = others ++ map (λ part. (place, part)) own

module _ {A : Type 0} where
  -- The records behind the others are of tables of the session at the index. With them its tables are these.
  pub record AreReserved (session : ℕ) (tables after : AttachedTables A)
      (others touched : List (ℕ × (ℕ × Records A))) : Type 0 where
    pub own : List (ℕ × Records A)
    pub items : touched ≡ appended session others own
    pub made : with_parts with_records tables own ≡ after

  -- The records of the session that begin at the index then give what is made of its tables.
  abbrev pub Makes : ℕ → ℕ → AttachedTables A → (AttachedTables A → AttachedTables A)
      → List (ℕ × (ℕ × Records A)) → List (ℕ × (ℕ × Records A)) → Type 0
  Makes start session tables make old new = (others : List (ℕ × (ℕ × Records A))) (before : AttachedTables A)
      → length others ≡ start → AreReserved session tables before others old
      → AreReserved session tables (make before) others new

  -- the tables that are given, or else the session's own
  abbrev pub first_or : List (AttachedTables A) → AttachedTables A → AttachedTables A
  first_or [] tables = tables
  first_or (all ∷ others) tables = all

  -- What is added to the session at the index, behind what is added to others, makes the second of the first.
  pub record Adds (session : ℕ) (before after : SessionState A) (old new : Delta A) : Type 0 where
    pub all : List (AttachedTables A)
    pub own : List (ℕ × Records A)
    pub renewed_is : renewed new ≡ appended session (renewed old) all
    pub touched_is : new.touched.items ≡ appended session old.touched.items own
    pub made : record before { tables = with_parts with_records (first_or all before.tables) own } ≡ after
