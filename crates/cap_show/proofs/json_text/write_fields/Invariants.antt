use Rattle.std.proofs.Common.{◌≡◌, ◌+◌, ◌++◌, length}
use Rattle.cap_show.specs.Json.{fields}
use Rattle.cap_show.proofs.json_text.write_fields.Given as goal

-- what was written, and the fields that are left
abbrev pub invariant-loop-column : goal.invariant-loop-column
invariant-loop-column g l = record {
  written : l.writer.tokens ++ fields l.column l.rest ≡ l.fn.writer.tokens ++ fields 0 l.fields;
  behind : l.writer.before ≡ l.fn.writer.before;
  left : l.column + length l.rest ≡ length l.fields;
}
