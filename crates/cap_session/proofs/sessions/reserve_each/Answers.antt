use Rattle.std.proofs.Common.{◌<◌, arith, get_or, length, ap, ◌∙◌}
use Rattle.cap_session.proofs.PlaceLemmas.{changed-not, set-changed}
use Rattle.cap_session.proofs.AddedLemmas.{all-added, one-added}
use Rattle.cap_session.proofs.sessions.reserve_each.Goals as goal

pub loop-place-preserved : goal.loop-place-preserved
loop-place-preserved g c =
    let start = c.args.sessions.now.items in
    let items = c.loop-place.sessions.items in
    let i = c.loop-place.place in
    let d = c.index_mut-session.result.now in
    let same = c.loop-place.invariant.0 in
    let lt : i < length start = omega (arith, c.loop-place-test.true, c.len-count.ensures, c.args.sessions.now.ok.0) in (
      set-changed (λ x. x) items i c.reserve_unless.new.numbered d (c.reserve_unless.ensures.kept ∙ c.index_mut-session.ensures.value) ∙ changed-not items i ∙ same,
      one-added c.args.changes.now c.args.quiet.now start i d c.loop-place.delta c.reserve_unless.new.delta lt (c.index_mut-session.ensures.value ∙ ap (λ (xs : _). get_or xs i d) same) c.in_ok-reserve_unless.ensures.added c.loop-place.invariant.1,
    )

pub returns-clause-added : goal.returns-clause-added
returns-clause-added g c =
    all-added c.args.changes.now c.args.quiet.now c.args.sessions.now.items c.loop-place.place c.loop-place.delta (omega (arith, c.loop-place-test.false, c.len-count.ensures)) c.loop-place.invariant.1
