use Rattle.std.proofs.Common.{◌≡◌, ◌++◌, drop}
use Rattle.cap_apply.proofs.Common.{update_record, set_fields}
use Rattle.cap_apply.proofs.fields.set_fields.Given as goal

-- what was put, and the fields of the columns that are left
abbrev pub invariant-loop-flag : goal.invariant-loop-flag
invariant-loop-flag g l =
    l.builder ++ set_fields (update_record (drop l.flag-index l.flags) l.key l.new) l.rest
    ≡ l.fn.builder ++ set_fields (update_record l.flags l.fn.key l.fn.new) l.fn.row
