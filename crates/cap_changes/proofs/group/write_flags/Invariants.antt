use Rattle.std.proofs.Common.{◌≡◌, length, drop}
use Rattle.cap_changes.specs.Judged.{HaveFlags, with_flags}
use Rattle.cap_changes.proofs.group.write_flags.Given as goal

-- the flags that are not written yet
abbrev pub invariant-loop-end : goal.invariant-loop-end
invariant-loop-end l = record {
  within : HaveFlags (length l.bytes) l.begin (drop l.end-index l.ends);
  left : with_flags l.bytes l.begin (drop l.end-index l.ends) ≡ with_flags l.fn.bytes l.start l.ends;
}
