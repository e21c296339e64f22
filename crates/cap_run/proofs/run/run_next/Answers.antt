use Rattle.std.proofs.Common.{Option, refl, subst}
use Rattle.cap_replies.specs.Lines.{TakesFirst}
use Rattle.cap_replies.specs.declared.run_line.RunLine.{RunLine}
use Rattle.cap_run.proofs.RunLemmas.{may_end-line, may_end-unread}
use Rattle.cap_run.proofs.run.run_next.Goals as goal

-- behind the last line
pub returns-in-Ok-None-clause-next : goal.returns-in-Ok-None-clause-next
returns-in-Ok-None-clause-next g c = λ spelled is.
    let none = subst (λ (found : Option (RunLine g.row.A.Denot)). TakesFirst found spelled c.next_line.new.self) c.in-Ok-None.field-0-is (c.in-Ok-None.ensures.next spelled is) in
    (none, refl)

-- out of memory for the line
pub returns-in-Err-clause-next : goal.returns-in-Err-clause-next
returns-in-Err-clause-next g c = λ spelled is.
    may_end-unread c.line_fault.result spelled c.args.interpreter.now (c.in-Err.ensures.next spelled is).0 c.line_fault.ensures

-- the line has its reply
pub returns-in-Ok-clause-next : goal.returns-in-Ok-clause-next
returns-in-Ok-clause-next g c = λ spelled is.
    let taken = subst (λ (found : Option (RunLine g.row.A.Denot)). TakesFirst found spelled c.next_line.new.self) c.in-Ok-Some.field-0-is (c.in-Ok-Some.ensures.next spelled is) in
    (c.in-Ok-Some.line, taken.0, taken.1, taken.2, c.in-Ok.ensures.ran)

-- it has none
pub returns-clause-next : goal.returns-clause-next
returns-clause-next g c = λ spelled is.
    let taken = subst (λ (found : Option (RunLine g.row.A.Denot)). TakesFirst found spelled c.next_line.new.self) c.in-Ok-Some.field-0-is (c.in-Ok-Some.ensures.next spelled is) in
    may_end-line c.in-Err-run.fault spelled taken.0 c.in-Ok-Some.line c.args.interpreter.now taken.1 c.in-Err-run.ensures.fault c.in-Err-run.ensures.full
