-- The sessions of a server can be captured against its tables, and stay so.
use Rattle.std.specs.Prelude.{◌≡◌, ℕ, Bool, Option, Some, List}
use Rattle.std.specs.List.{list_all}
use Rattle.cap_compare.specs.declared.difference.Difference.{Difference}
use Rattle.cap_database.specs.Tables.{Tables, schema_of}
use Rattle.cap_session.specs.Sessions.{NumberedSessions}
use Rattle.cap_core.specs.CanCapture.{is_own_image, is_own_session}

module _ {A : Type 0} where
  abbrev pub are_own_sessions : Tables A → NumberedSessions A → Bool
  are_own_sessions tables sessions = list_all (λ session. is_own_session tables session.1) sessions

  -- the differences of a diff have rows of the table with these columns
  abbrev pub are_own_differences : Option (List Bool) → List (Difference A) → Bool
  are_own_differences schema differences =
      list_all (λ difference. is_own_image schema difference.key difference.image) differences

  -- each table that was there is there, with the same columns
  pub record KeepsColumns (before after : Tables A) : Type 0 where
    pub each : (name : List ℕ) (columns : List Bool) → schema_of before name ≡ Some columns
        → schema_of after name ≡ Some columns
