use Rattle.std.proofs.Common.{arith, ℕ, sym, ap, ◌∙◌}
use Rattle.cap_session.specs.Session.{SessionState, changed_by}
use Rattle.cap_session.proofs.PlaceLemmas.{has_number, is-first, is-none, made-first, made-none, set-changed, place_within}
use Rattle.cap_session.proofs.sessions.Sessions.change.Goals as goal

pub index_mut-requires : goal.index_mut-requires
index_mut-requires g c =
    let lt = place_within (has_number c.args.number) c.self.inside.sessions.items c.in-Some.place (rw c.deref.ensures.value at (sym c.place_of.ensures ∙ c.in-Some.is)) in
    omega (arith, lt, c.self.inside.sessions.ok)

pub returns-in-Some : goal.returns-in-Some
returns-in-Some g c =
    let number = c.args.number in
    let items = c.self.inside.sessions.items in
    let make = changed_by c.args.with in
    let d = c.index_mut.result.now in
    let first = is-first (has_number number) items c.in-Some.place d (rw c.deref.ensures.value at (sym c.place_of.ensures ∙ c.in-Some.is)) in
    let made = ap (λ s. (d.0, s)) c.change.ensures ∙ ap (λ (s : ℕ × SessionState g.row.A.Denot). (s.0, make s.1)) c.index_mut.ensures.value in
    rw (← c.self.view_is) (set-changed (λ s. (s.0, make s.1)) items c.in-Some.place (d.0, c.change.new.self) d made ∙ made-first number make items c.in-Some.place d first)

pub returns-in_default : goal.returns-in_default
returns-in_default g c =
    let number = c.args.number in
    let items = c.self.inside.sessions.items in
    rw (← c.self.view_is) (made-none number (changed_by c.args.with) items (is-none (has_number number) items (rw c.deref.ensures.value at (sym c.place_of.ensures ∙ c.in_default.is))))
