use Rattle.std.proofs.Common.{◌≤◌, length, sym, ap, ◌∙◌}
use Rattle.std.proofs.lemmas.List.{drop_all}
use Rattle.std.proofs.lemmas.Result.{err_from_is_err_and}
use Rattle.cap_txn.specs.Transaction.{begin_traced}
use Rattle.cap_applier.specs.Transaction.{rows_led}
use Rattle.cap_applier.proofs.LedLemmas.{led-faulted, led-more}
use Rattle.cap_applier.proofs.LoopLemmas.{drop_here}
use Rattle.cap_applier.proofs.transaction.leading_to.Goals as goal

pub returns-in_err-lead : goal.returns-in_err-lead
returns-in_err-lead g c =
    let left = c.args.left.now in
    let rows = c.args.rows.now in
    let i = c.loop-row.row-index in
    let front = drop_here rows i c.row-item.result c.loop-row-test.true c.row-item.is in
    let p = err_from_is_err_and c.from_residual-in_err-lead.result c.from_residual-in_err-lead.ensures.1 in
    rw (p.1, p.2) (led-faulted left rows i c.row-item.result front c.loop-row.txn (Unit {0}) c.in_err-lead.field-0.0 c.lead.new.txn
    (rows_led left rows (begin_traced c.args.snapshot.now)) c.loop-row.invariant c.in_err-lead.ensures)

pub loop-row-preserved : goal.loop-row-preserved
loop-row-preserved g c =
    let left = c.args.left.now in
    let rows = c.args.rows.now in
    let i = c.loop-row.row-index in
    let front = drop_here rows i c.row-item.result c.loop-row-test.true c.row-item.is in
    led-more left rows i c.row-item.result front c.loop-row.txn c.lead.new.txn c.in_ok-lead.ensures ∙ c.loop-row.invariant

pub returns : goal.returns
returns g c =
    let left = c.args.left.now in
    let rows = c.args.rows.now in
    let end : length rows ≤ c.loop-row.row-index = c.loop-row-test.false in
    sym c.loop-row.invariant ∙ ap (λ rest. rows_led left rest c.loop-row.txn) (drop_all c.loop-row.row-index rows end)
