use Rattle.std.proofs.Common.{arith, ℕ, Some, sym, ap, ◌∙◌}
use Rattle.cap_session.specs.Session.{SessionState}
use Rattle.cap_session.proofs.PlaceLemmas.{found-first, found-none, has_number, is-first, is-none, place_within}
use Rattle.cap_session.proofs.sessions.Sessions.get.Goals as goal

pub index-requires : goal.index-requires
index-requires g c =
    let lt = place_within (has_number c.args.number) c.self.inside.sessions.items c.in_ok-place.place (rw c.deref.ensures.value at (sym c.place_of.ensures ∙ c.in_ok-place.was)) in
    omega (arith, lt, c.self.inside.sessions.ok)

pub returns-in_err-place : goal.returns-in_err-place
returns-in_err-place g c =
    let items = c.self.inside.sessions.items in
    rw (← c.self.view_is) (rw c.from_residual.ensures (sym (found-none c.args.number items (is-none (has_number c.args.number) items (rw c.deref.ensures.value at (sym c.place_of.ensures ∙ c.in_err-place.was))))))

pub returns : goal.returns
returns g c =
    let items = c.self.inside.sessions.items in
    let first = is-first (has_number c.args.number) items c.in_ok-place.place c.index.result.now (rw c.deref.ensures.value at (sym c.place_of.ensures ∙ c.in_ok-place.was)) in
    rw (← c.self.view_is) (ap (λ (s : ℕ × SessionState g.row.A.Denot). Some s.1) c.index.ensures ∙ sym (found-first c.args.number items c.in_ok-place.place c.index.result.now first))
