-- One row of a base, of a client that has made a local change of it, and of a hub that has made a remote one.
use Rattle.std.specs.Prelude.{◌≡◌, ℕ, Bool, true, List, [], ◌∷◌, Option, Some, None, Ok, length, filter_map}
use Rattle.std.specs.Prelude.{if◌then◌else◌}
use Rattle.cap_row.specs.Fields.{Fields}
use Rattle.cap_changes.specs.Change.{change_of}
use Rattle.cap_changes.specs.Patch.{patch_of}
use Rattle.cap_changes.specs.declared.row_change.RowChange.{RowChange}
use Rattle.cap_group.specs.Rows.{is_indirect}
use Rattle.cap_apply.specs.Difference.{IsUnder}
use Rattle.cap_apply.specs.Policy.{made_anyway}
use Rattle.cap_apply.specs.Requested.{old_record}
use Rattle.cap_apply.specs.Row.{conflict_of, row_after}
use Rattle.cap_apply.specs.declared.conflict.ConflictKind.{ConflictKind}
use Rattle.cap_apply.specs.declared.policy.Answer.{Answer}
use Rattle.cap_rebase.specs.Buffer.{answered}

-- A remote change of the row, the hub's row after it, and what the buffer of its application has of it.
pub record Remote (A : Type 0) : Type 0 where
  pub change : RowChange A
  pub hub : Option (Fields A)
  pub buffered : Option (RowChange A)

module _ {A : Type 0} where
  -- The rows are under one key, or there is none. Each change is the one that a capture has of its side.
  pub record HaveOneBase (flags : List Bool) (key : Fields A) (base client hub : Option (Fields A))
      (local remote : RowChange A) : Type 0 where
    pub base_under : IsUnder flags key base
    pub client_under : IsUnder flags key client
    pub hub_under : IsUnder flags key hub
    pub local_is : change_of flags (is_indirect local) base client ≡ Some local
    pub remote_is : change_of flags (is_indirect remote) base hub ≡ Some remote

  -- the conflict that the remote change meets at the client
  abbrev pub conflict_at : List Bool → RowChange A → Option (Fields A) → Option ConflictKind
  conflict_at flags remote client = conflict_of flags (old_record remote) (patch_of flags remote) client

  -- the client's row after the remote change, by whether it is made
  abbrev pub client_after : List Bool → Bool → RowChange A → Option (Fields A) → Option (Fields A)
  client_after flags made remote client =
      if made then row_after (length flags) (patch_of flags remote) client else client

  -- The change, or none, leads from a row to another one: it meets no conflict there, so that no answer of a
  -- policy is asked for, and leaves the other row.
  abbrev pub Leads : List Bool → Option (Fields A) → Option (RowChange A) → Option (Fields A) → Type 0
  Leads flags before None after = before ≡ after
  Leads flags before (Some change) after =
      (conflict_at flags change before ≡ None) × (client_after flags true change before ≡ after)

  -- By the conflict that a remote change meets at the client: whether it is made, and what is in the buffer.
  abbrev pub IsApplied : Option ConflictKind → Remote A → Bool → Type 0
  IsApplied None remote made = (remote.buffered ≡ None) × (made ≡ true)
  IsApplied (Some kind) remote made = (number : ℕ) × (answer : Answer)
      × (made_anyway number kind answer ≡ Ok made) × (remote.buffered ≡ answered answer remote.change)

  -- The hub's changes of the row are applied to the client's row, one after the other, with success: from the
  -- rows of client and hub at first to those at last.
  abbrev pub AreApplied : List Bool → Fields A → Option (Fields A) → Option (Fields A) → List (Remote A) →
      Option (Fields A) → Option (Fields A) → Type 0
  AreApplied flags key client hub [] last_client last_hub = (client ≡ last_client) × (hub ≡ last_hub)
  AreApplied flags key client hub (remote ∷ remotes) last_client last_hub =
      IsUnder flags key remote.hub
      × (change_of flags (is_indirect remote.change) hub remote.hub ≡ Some remote.change)
      × ((made : Bool) × IsApplied (conflict_at flags remote.change client) remote made
      × AreApplied flags key (client_after flags made remote.change client) remote.hub remotes last_client
      last_hub)

  -- what the buffers have of them, in order
  abbrev pub all_buffered : List (Remote A) → List (RowChange A)
  all_buffered remotes = filter_map (λ remote. remote.buffered) remotes
