use Rattle.std.proofs.lemmas.Grind.{common_steps}
use Rattle.std.proofs.Common.{arith, get_or, ◌≡◌, false}
use Rattle.std.proofs.lemmas.Result.{err_from_is_err_and}
use Rattle.cap_changes.specs.Operation.{is_operation}
use Rattle.cap_changes.specs.Judged.{group_of, joined, front_of}
use Rattle.cap_changes.proofs.ChangeLoops.{goes_first, goes_on, changes_fail, changes_stop, no_operation}
use Rattle.cap_changes.proofs.group.judge.Goals as goal
use Rattle.cap_changes.proofs.group.judge.Goals.{in_default, in-len1-up+in_default-of}

pub loop-rest-init : goal.loop-rest-init
loop-rest-init g c = goes_first g.C.Entry.one_at c.args.total c.args.bytes.now c.requires

pub returns-in_err-after-clause-gives : goal.returns-in_err-after-clause-gives
returns-in_err-after-clause-gives g c =
    let p = err_from_is_err_and c.from_residual.result c.from_residual.ensures.1 in
    λ table. rw (p.1, p.2) (changes_fail g.C.Entry.one_at (group_of g.C.Entry.stored table c.args.flags.now (joined c.args.held.now c.args.ends.now.items (front_of c.args.bytes.now c.loop-rest.rest.now) c.loop-rest.ends.items) c.loop-rest.ends.items)
    c.args.total c.loop-rest.rest.now c.in_err-after.field-0.0 _ c.in-len1-up.len_at_least c.in-Some.ensures.some (grind (arith, common_steps)) (c.loop-rest.invariant.left table))

pub loop-rest-preserved : goal.loop-rest-preserved
loop-rest-preserved g c =
    goes_on g.C.Entry.one_at c.args.total c.args.bytes.now c.loop-rest.invariant c.in-len1-up.len_at_least c.in-Some.ensures.byte c.in-Some.ensures.some c.in_ok-after.ensures.entry
    (grind (arith, common_steps))

pub returns-clause-gives : goal.returns-clause-gives
returns-clause-gives g c =
    let none : is_operation (get_or c.loop-rest.rest.now 0 0) ≡ false = elim c.if-rest-lt1.branch [ in_default w ↦ no_operation c.loop-rest.rest.now (omega arith) | in-len1-up+in_default-of w ↦ w.in_default-of.ensures.none ] in
    λ table. changes_stop g.C.Entry.one_at (group_of g.C.Entry.stored table c.args.flags.now (joined c.args.held.now c.args.ends.now.items (front_of c.args.bytes.now c.loop-rest.rest.now) c.loop-rest.ends.items) c.loop-rest.ends.items)
    c.args.total c.loop-rest.rest.now _ none (c.loop-rest.invariant.left table)
