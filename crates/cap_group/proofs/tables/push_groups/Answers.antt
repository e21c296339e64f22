use Rattle.std.proofs.Common.{sym, ◌∙◌}
use Rattle.std.proofs.lemmas.Result.{err_from_is_err_and}
use Rattle.cap_changes.proofs.LeftLemmas.{drop_here}
use Rattle.cap_group.proofs.GroupLemmas.{leaves_whole}
use Rattle.cap_group.proofs.tables.push_groups.Goals as goal
use Rattle.cap_group.proofs.tables.push_groups.Goals.{then-has_change+in_ok-push_group, else-has_change}

pub returns-in_err-push_group-clause-content : goal.returns-in_err-push_group-clause-content
returns-in_err-push_group-clause-content g c =
    let here = drop_here c.args.groups.now c.loop-place.place c.index-groups-place.result c.loop-place-test.true c.index-groups-place.is in
    let p = err_from_is_err_and c.from_residual.result c.from_residual.ensures.1 in
    rw (p.1, p.2)
    (leaves_whole c.in_err-push_group.field-0.0 _ _ _ _ c.in_err-push_group.ensures.content (λ why made. rw (sym c.has_change.ensures ∙ c.if-has_change.true, made) at (rw here at (sym c.loop-place.invariant.content))))

pub loop-place-preserved : goal.loop-place-preserved
loop-place-preserved g c =
    let left = rw (drop_here c.args.groups.now c.loop-place.place c.index-groups-place.result c.loop-place-test.true c.index-groups-place.is) at c.loop-place.invariant.content in
    elim c.if-has_change.branch [
      | then-has_change+in_ok-push_group w ↦ rw w.tables-is (record { content = rw (sym c.has_change.ensures ∙ w.if-has_change.true, w.in_ok-push_group.ensures.content) at left; steps = cc })
      | else-has_change w ↦ rw w.tables-is (record { content = rw (sym c.has_change.ensures ∙ w.if-has_change.false) at left; steps = cc })
    ]
