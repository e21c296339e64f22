use mathlib.Core.List.{IsPrefix}
use Rattle.std.proofs.Common.{◌≡◌, ◌++◌, drop}
use Rattle.cap_changes.specs.Field.{key_bytes}
use Rattle.cap_changes.specs.Patch.{key_record}
use Rattle.std.proofs.Common.{IsTrue}
use Rattle.cap_changes.specs.Requirements.{requirements, satisfy}
use Rattle.cap_changes.specs.declared.record_kind.RecordKind.TheVariants.{Full}
use Rattle.cap_changes.proofs.patches.push_key_fields.Given as goal

abbrev pub invariant-loop-key : goal.invariant-loop-key
invariant-loop-key g l = record {
  put : l.out.items ++ key_bytes (key_record (drop l.key-index l.flags) l.old) ≡ l.fn.out.items ++ key_bytes (key_record l.flags l.fn.old);
  left : IsTrue (satisfy (requirements Full (drop l.key-index l.flags)) l.old);
  begins : IsPrefix l.fn.out.items l.out.items;
}
