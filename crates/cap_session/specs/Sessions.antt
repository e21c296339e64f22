-- Sessions by number.
use Rattle.std.specs.Prelude.{ℕ, Bool, Option, Some, None, List, [], ◌∷◌, map, nat_eq, if◌then◌else◌}
use Rattle.std.specs.List.{list_any}
use Rattle.std.specs.Map.{lookup}
use Rattle.cap_database.specs.declared.change.Change.{Change}
use Rattle.cap_session.specs.Recording.{record_commit}
use Rattle.cap_session.specs.Session.{SessionState}

-- the number is one of these
abbrev pub is_one_of : List ℕ → ℕ → Bool
is_one_of numbers number = list_any (nat_eq number) numbers

-- the sessions in the order in which they were created, each with its number
abbrev pub NumberedSessions : Type 0 → Type 0
NumberedSessions A = List (ℕ × SessionState A)

module _ {A : Type 0} where
  abbrev pub session_numbered : NumberedSessions A → ℕ → Option (SessionState A)
  session_numbered sessions number = lookup (nat_eq number) sessions

  -- the sessions with this one in place of the one with the number
  abbrev pub with_session : NumberedSessions A → ℕ → SessionState A → NumberedSessions A
  with_session [] number new = []
  with_session (session ∷ sessions) number new =
      if nat_eq number session.0 then (session.0, new) ∷ sessions
      else session ∷ with_session sessions number new

  -- the same, where there is such a session
  abbrev pub with_session_if : NumberedSessions A → ℕ → Option (SessionState A) → NumberedSessions A
  with_session_if sessions number None = sessions
  with_session_if sessions number (Some new) = with_session sessions number new

  -- the sessions but the one with the number
  abbrev pub without_session : NumberedSessions A → ℕ → NumberedSessions A
  without_session [] number = []
  without_session (session ∷ sessions) number =
      if nat_eq number session.0 then sessions else session ∷ without_session sessions number

  -- each session after the changes of a commit; the quiet ones stay as they are
  abbrev pub record_commit_each : List (Change A) → List ℕ → NumberedSessions A → NumberedSessions A
  record_commit_each changes quiet sessions =
      map (λ session.
      (session.0, if is_one_of quiet session.0 then session.1 else record_commit changes session.1)) sessions
