use Rattle.std.proofs.Common.{◌++◌, List, Ok, Result, sym, ap, ◌∙◌, arith}
use Rattle.cap_database.specs.declared.change.Change.{Change}
use Rattle.cap_database.specs.declared.refused_at.RefusedAt.{RefusedAt}
use Rattle.cap_database.specs.Outcome.{OutcomeState}
use Rattle.cap_database.specs.Tables.{Tables}
use Rattle.cap_database.proofs.RunLemmas.{run-more, run-ends}
use Rattle.cap_database.proofs.run.run_ops.Goals as goal

pub returns-in-Err-Refused : goal.returns-in-Err-Refused
returns-in-Err-Refused g c =
    let refused = rw c.in-Err-Refused.field-0-is at c.in-Err-Refused.ensures.tables in
    let e = run-ends c.args.database.now c.args.ops.now c.loop-at.at c.index-ops-at.result (omega arith) c.index-ops-at.is (record { database = c.loop-at.next; changes = c.loop-at.changes.items }) c.loop-at.invariant c.in-Err-Refused.why refused in
    let w = c.in-Err-Refused.why-is in
    cc

-- an outcome with these changes
abbrev left : {A : Type 0} → Tables A → List (Change A) → Result (OutcomeState A) RefusedAt
left tables changes = Ok (record { database = tables; changes = changes })

pub loop-at-preserved : goal.loop-at-preserved
loop-at-preserved g c =
    run-more c.args.database.now c.args.ops.now c.loop-at.at c.index-ops-at.result (omega arith) c.index-ops-at.is (record { database = c.loop-at.next; changes = c.loop-at.changes.items }) c.loop-at.invariant c.step.new.self c.in-Ok.ensures.tables
    ∙ ap (left c.step.new.self) (sym (c.in_ok-push_changes-in-Ok.ensures ∙ ap (λ (l : List (Change g.row.A.Denot)). c.loop-at.changes.items ++ l) c.in-Ok.ensures.changes))
