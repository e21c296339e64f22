-- Captures in a row, each by a restart of the session, and the touches over all of them.
use Rattle.std.specs.Prelude.{◌≡◌, ℕ, Bool, true, false, Option, Some, None, Ok, List, [], ◌∷◌, ◌++◌, ◌&&◌}
use Rattle.std.specs.Prelude.{if◌then◌else◌}
use Rattle.std.specs.Option.{option_map}
use Rattle.cap_row.specs.Fields.{Fields}
use Rattle.cap_row.specs.Key.{fields_cmp}
use Rattle.cap_tree.specs.Tree.{get}
use Rattle.cap_changes.specs.Group.{TableChanges}
use Rattle.cap_changes.specs.Patch.{patch_list_of}
use Rattle.cap_codec.specs.declared.read.Contents.{Contents}
use Rattle.cap_codec.specs.declared.read.Contents.TheVariants.{Changes, Patches}
use Rattle.cap_database.specs.Read.{row_at}
use Rattle.cap_database.specs.Tables.{Tables, schema_of}
use Rattle.cap_apply.specs.Applied.{AppliedState}
use Rattle.cap_apply.specs.Apply.{apply}
use Rattle.cap_apply.specs.declared.policy.Policy.{Policy}
use Rattle.cap_core.specs.declared.event.Event.{Event}
use Rattle.cap_core.specs.Capture.{session_changes}
use Rattle.cap_core.specs.Flags.{command_to, is_enabled, is_quiet}
use Rattle.cap_core.specs.History.{main}
use Rattle.cap_core.specs.Past.{Past, is_accepted}
use Rattle.cap_core.specs.Session.{session_of}
use Rattle.cap_core.specs.Touch.{Touch, event_diff, event_touches, restarts, touches_of}

module _ {A : Type 0} where
  -- the touches of a session by the later events, whatever restarts are among them
  abbrev pub touches_over : ℕ → List (Event A) → Past A → List (Touch A)
  touches_over session [] start = []
  touches_over session (event ∷ later) start =
      touches_over session later start ++ event_touches session event (later ++ start)

  -- the image of the first touch of a key, where it was touched
  abbrev pub first_touched : List (Touch A) → List ℕ → Fields A → Option (Option (Fields A))
  first_touched touches name key =
      option_map (λ touch. touch.image) (get fields_cmp (touches_of name touches) key)

  -- the captures of the accepted restarts of the session, in order
  abbrev pub captures : ℕ → List (Event A) → Past A → List (List (TableChanges A))
  captures session [] start = []
  captures session (event ∷ later) start =
      captures session later start
      ++ (if is_accepted event.reply && restarts (command_to session event.command)
      then session_changes (main (later ++ start)) (session_of (later ++ start) session) ∷ []
      else [])

  -- The session is enabled before each of the later events, none of which leaves it as it is or is a diff of
  -- it.
  abbrev pub IsSteady : ℕ → List (Event A) → Past A → Type 0
  IsSteady session [] start = Unit {0}
  IsSteady session (event ∷ later) start =
      ((is_enabled session (later ++ start) ≡ true) × (is_quiet session event.command ≡ false))
      × (event_diff session event (later ++ start) ≡ None)
      × IsSteady session later start

  -- The database has for each key that was touched over all its table, with main's columns, and in it the
  -- first image over all.
  pub record HoldsFirst (database : Tables A) (session : ℕ) (later : List (Event A))
      (start : Past A) : Type 0 where
    pub columns : (name : List ℕ) (key : Fields A) (image : Option (Fields A))
        → first_touched (touches_over session later start) name key ≡ Some image
        → (columns : List Bool) × (schema_of database name ≡ Some columns)
        × (schema_of (main (later ++ start)) name ≡ Some columns)
    pub images : (name : List ℕ) (key : Fields A) (image : Option (Fields A))
        → first_touched (touches_over session later start) name key ≡ Some image
        → row_at database name key ≡ image

  -- the blobs of these changes are applied one after the other, and leave this
  abbrev pub AppliesEach : (List (TableChanges A) → Contents A) → Policy → List (List (TableChanges A))
      → Tables A → Tables A → Type 0
  AppliesEach blob_of policy [] database left = left ≡ database
  AppliesEach blob_of policy (list ∷ lists) database left =
      (next : AppliedState A) × (apply database (blob_of list) policy ≡ Ok next)
      × AppliesEach blob_of policy lists next.database left

  -- their changesets
  abbrev pub AppliesAll : Policy → List (List (TableChanges A)) → Tables A → Tables A → Type 0
  AppliesAll policy lists database left = AppliesEach Changes policy lists database left

  -- their patchsets
  abbrev pub AppliesAllPatches : Policy → List (List (TableChanges A)) → Tables A → Tables A → Type 0
  AppliesAllPatches policy lists database left =
      AppliesEach (λ list. Patches (patch_list_of list)) policy lists database left

  -- at each key that was touched over all, the result has main's row
  abbrev pub HasRowsNow : Tables A → ℕ → List (Event A) → Past A → Type 0
  HasRowsNow left session later start =
      (name : List ℕ) (key : Fields A) (image : Option (Fields A))
      → first_touched (touches_over session later start) name key ≡ Some image
      → row_at left name key ≡ row_at (main (later ++ start)) name key
