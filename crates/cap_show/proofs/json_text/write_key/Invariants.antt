use Rattle.std.proofs.Common.{◌≡◌, ◌++◌, drop}
use Rattle.cap_show.specs.Json.{key_names}
use Rattle.cap_show.proofs.json_text.write_key.Given as goal

-- what was written, and the key columns that are left
abbrev pub invariant-loop-column : goal.invariant-loop-column
invariant-loop-column g l = record {
  written : l.writer.tokens ++ key_names l.column (drop l.column l.flags) ≡ l.fn.writer.tokens ++ key_names 0 l.flags;
  behind : l.writer.before ≡ l.fn.writer.before;
}
