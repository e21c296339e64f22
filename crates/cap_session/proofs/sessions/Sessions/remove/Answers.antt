use Rattle.std.proofs.Common.{arith, sym, ◌∙◌}
use Rattle.cap_session.proofs.PlaceLemmas.{has_number, is-first, is-none, without-first, without-none, place_within}
use Rattle.cap_session.proofs.sessions.Sessions.remove.Goals as goal

pub remove-requires : goal.remove-requires
remove-requires g c =
    let lt = place_within (has_number c.args.number) c.self.inside.sessions.items c.in-Some.place (rw c.deref.ensures.value at (sym c.place_of.ensures ∙ c.in-Some.is)) in
    omega (arith, lt, c.self.inside.sessions.ok)

pub returns-in-Some : goal.returns-in-Some
returns-in-Some g c =
    let items = c.self.inside.sessions.items in
    let first = is-first (has_number c.args.number) items c.in-Some.place c.remove.result (rw c.deref.ensures.value at (sym c.place_of.ensures ∙ c.in-Some.is)) in
    rw (← c.self.view_is) (c.remove.ensures.items ∙ without-first c.args.number items c.in-Some.place first)

pub returns-in_default : goal.returns-in_default
returns-in_default g c =
    let items = c.self.inside.sessions.items in
    rw (← c.self.view_is) (sym (without-none c.args.number items (is-none (has_number c.args.number) items (rw c.deref.ensures.value at (sym c.place_of.ensures ∙ c.in_default.is)))))
