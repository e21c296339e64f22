-- What is added to sessions before it is published, and the sessions with it.
use Rattle.std.specs.Prelude.{ℕ, zero, suc, List, [], ◌∷◌, map}
use Rattle.cap_session.specs.declared.delta.Delta.{Delta}
use Rattle.cap_session.specs.Records.{Records}
use Rattle.cap_session.specs.Session.{AttachedTables, SessionState}
use Rattle.cap_session.specs.Sessions.{NumberedSessions}

-- the list, with this made of the item at the index
abbrev pub changed_at : {X : Type 0} → ℕ → (X → X) → List X → List X
changed_at place make [] = []
changed_at zero make (x ∷ xs) = make x ∷ xs
changed_at (suc place) make (x ∷ xs) = x ∷ changed_at place make xs

-- the list, with what each part makes of the item at its index
abbrev pub with_parts : {X P : Type 0} → (P → X → X) → List X → List (ℕ × P) → List X
with_parts make xs [] = xs
with_parts make xs (part ∷ parts) = changed_at part.0 (make part.1) (with_parts make xs parts)

module _ {A : Type 0} where
  -- a table with these records in place of its own
  abbrev pub with_records : Records A → List ℕ × Records A → List ℕ × Records A
  with_records records table = (table.0, records)

  -- a session with these tables in place of its own
  abbrev pub with_tables : AttachedTables A → ℕ × SessionState A → ℕ × SessionState A
  with_tables tables session = (session.0, record session.1 { tables = tables })

  -- a session with these records in place of those of the table at the index
  abbrev pub with_touched : ℕ × Records A → ℕ × SessionState A → ℕ × SessionState A
  with_touched touched session =
      with_tables (changed_at touched.0 (with_records touched.1) session.1.tables) session

  -- the tables of each session that gets all anew
  abbrev pub renewed : Delta A → List (ℕ × AttachedTables A)
  renewed delta = map (λ own. (own.0, own.1.entries)) delta.renewed.items

  -- the sessions once what is added is published
  abbrev pub published : Delta A → NumberedSessions A → NumberedSessions A
  published delta sessions =
      with_parts with_touched (with_parts with_tables sessions (renewed delta)) delta.touched.items
