use Rattle.std.proofs.Common.{◌≡◌, drop}
use Rattle.cap_row.specs.Key.{fields_eq, key_fields}
use Rattle.cap_core.proofs.session_changes.has_key_fields.Given as goal

-- the key fields of what is left are what is left of the key
abbrev pub invariant-loop-flag : goal.invariant-loop-flag
invariant-loop-flag g l =
    fields_eq (key_fields (drop l.flag-index l.flags) l.fields) l.rest ≡ fields_eq (key_fields l.flags l.fn.row) l.key
