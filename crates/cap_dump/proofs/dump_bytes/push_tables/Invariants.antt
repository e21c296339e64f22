use Rattle.std.proofs.Common.{◌≡◌, ◌++◌, drop}
use Rattle.cap_dump.specs.Dump.{dump_bytes}
use Rattle.cap_dump.proofs.dump_bytes.push_tables.Given as goal

abbrev pub invariant-loop-named : goal.invariant-loop-named
invariant-loop-named g l =
    l.out.items ++ dump_bytes l.key_flags (drop l.named-index l.tables) ≡ l.fn.out.items ++ dump_bytes l.key_flags l.tables
