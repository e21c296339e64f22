use Rattle.std.proofs.Common.{arith, sym, ap, subst, ◌∙◌}
use Rattle.cap_database.specs.Carried.{CarryFirstRows}
use Rattle.cap_session.specs.Delta.{published}
use Rattle.cap_core.specs.Answer.{State}
use Rattle.cap_core.specs.Code.Sound.{KeepsColumns, are_own_sessions}
use Rattle.cap_core.proofs.SoundLemmas.{record_commit_each-stand}
use Rattle.cap_core.proofs.server.Core.reserve_and_publish.Goals as goal

pub invariant_of-self-2 : goal.invariant_of-self-2
invariant_of-self-2 g c =
    let inside = c.self.inside in
    let tables = c.args.tables in
    let kept : KeepsColumns inside.main tables = subst (λ (s : State g.row.A.Denot). KeepsColumns s.main tables) (sym c.self.view_is) c.requires.kept in
    let carried : CarryFirstRows inside.main c.args.changes.now = subst (λ (s : State g.row.A.Denot). CarryFirstRows s.main c.args.changes.now) (sym c.self.view_is) c.requires.carried in
    let all = record_commit_each-stand inside.main tables c.sound_rows_law.ensures kept c.args.changes.now carried c.args.quiet.now inside.sessions c.self.invariant.2 in (
      omega (arith, c.self.invariant.0),
      omega (arith, c.self.invariant.1),
      ap (are_own_sessions tables) (c.publish.ensures ∙ ap (published c.in_ok-delta.delta) c.reserve.ensures.kept ∙ c.in_ok-delta.ensures.added) ∙ all,
    )
