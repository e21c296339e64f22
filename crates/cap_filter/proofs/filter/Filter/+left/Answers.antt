use Rattle.std.proofs.Common.{inl, inr, ap, arith}
use Rattle.cap_filter.specs.Limits.{depth_of_all, nodes_of_all}
use Rattle.cap_filter.proofs.LevelLemmas.{rules_at}
use Rattle.cap_filter.proofs.filter.Filter.+left.Goals as goal

pub room_left_by_all-returns-in_err-left : goal.room_left_by_all-returns-in_err-left
room_left_by_all-returns-in_err-left g t c =
    let fs = c.args.filters.now in
    let f = c.filter-item.result in
    let here = rules_at g.row.A.Denot fs c.loop-filter.filter-index f c.loop-filter-test.true c.filter-item.is in
    let deep = ap depth_of_all here in
    let many = ap nodes_of_all here in
    rw c.from_residual.ensures (elim c.in_err-left.ensures [ inl below ↦ inl (omega arith) | inr below ↦ inr (omega arith) ])

pub room_left_by_all-loop-filter-preserved : goal.room_left_by_all-loop-filter-preserved
room_left_by_all-loop-filter-preserved g t c =
    let fs = c.args.filters.now in
    let f = c.filter-item.result in
    let here = rules_at g.row.A.Denot fs c.loop-filter.filter-index f c.loop-filter-test.true c.filter-item.is in
    let deep = ap depth_of_all here in
    let many = ap nodes_of_all here in
    let fits = c.in_ok-left.ensures in
    record { no_deeper = omega arith; shallow = omega arith; counted = omega arith }
