use Rattle.std.proofs.Common.{map, string_bytes, take}
use Rattle.cap_run.proofs.GatherLemmas.{IsGatheredSo}
use Rattle.cap_run.proofs.workload.gather.Given as goal

abbrev pub invariant-loop-line : goal.invariant-loop-line
invariant-loop-line g l =
    IsGatheredSo l.threads (take l.line-index l.block) (map (λ w. map string_bytes w.texts.items) l.workers) l.taken (string_bytes l.fn.pending) (string_bytes l.pending)
