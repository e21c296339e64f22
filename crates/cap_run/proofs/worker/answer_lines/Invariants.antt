use Rattle.std.proofs.Common.{Ok, map, string_bytes, take}
use Rattle.cap_run.specs.Code.Calls.{HasCalledLines, seat_lines}
use Rattle.cap_run.proofs.worker.answer_lines.Given as goal

abbrev pub invariant-loop-line : goal.invariant-loop-line
invariant-loop-line g l =
    HasCalledLines l.shared.threads (seat_lines l.shared.threads l.fn.worker.seat.number (take l.line-index l.block)) (Ok tt) (map string_bytes l.worker.texts.items) l.fn.worker.seat l.worker.seat
