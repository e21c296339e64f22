-- The first byte of a group (The Session Extension, "Changeset Format").
use Rattle.std.specs.Prelude.{ℕ}

-- of a changeset
abbrev pub changeset_kind : ℕ
changeset_kind = 0x54

-- of a patchset
abbrev pub patchset_kind : ℕ
patchset_kind = 0x50
