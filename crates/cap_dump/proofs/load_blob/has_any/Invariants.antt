use Rattle.std.proofs.Common.{◌≡◌, drop, map}
use Rattle.std.specs.Prelude.{is_some}
use Rattle.std.specs.List.{list_any}
use Rattle.cap_database.specs.Tables.{table_of}
use Rattle.cap_dump.specs.Load.{named_in}
use Rattle.cap_dump.proofs.load_blob.has_any.Given as goal

-- what those that are left answer is the answer
abbrev pub invariant-loop-group : goal.invariant-loop-group
invariant-loop-group g l =
    list_any (λ named. is_some (table_of l.database named.0)) (map named_in (drop l.group-index l.groups))
    ≡ list_any (λ named. is_some (table_of l.database named.0)) (map named_in l.groups)
