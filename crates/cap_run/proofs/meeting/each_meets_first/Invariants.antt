use Rattle.std.proofs.Common.{◌≡◌, length, map}
use Rattle.cap_run.specs.Code.Calls.{first_seen}
use Rattle.cap_run.proofs.MeetingLemmas.{MetSoFar}
use Rattle.cap_run.proofs.meeting.each_meets_first.Given as goal

abbrev pub invariant-loop-place : goal.invariant-loop-place
invariant-loop-place g l = record {
  met : MetSoFar (first_seen (map (λ w. w.seat) l.initial.workers.items)) l.place (map (λ w. w.seat) l.initial.workers.items) (map (λ w. w.seat) l.workers.items);
  len : length l.workers.items ≡ length l.initial.workers.items;
}
