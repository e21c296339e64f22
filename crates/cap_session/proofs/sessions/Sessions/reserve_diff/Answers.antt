use Rattle.std.proofs.Common.{arith, [], ◌∷◌, ◌++◌, map, sym, ap, ◌∙◌}
use Rattle.cap_session.specs.declared.delta.Delta.{Delta}
use Rattle.cap_session.specs.Delta.{renewed, with_tables}
use Rattle.cap_session.specs.Recording.{record_diff}
use Rattle.cap_session.proofs.PlaceLemmas.{changed-same, has_number, is-first, is-none, made-first, made-none, mapped-push, place_within}
use Rattle.cap_session.proofs.AddedLemmas.{published-all}
use Rattle.cap_session.proofs.sessions.Sessions.reserve_diff.Goals as goal
use Rattle.cap_session.proofs.sessions.Sessions.reserve_diff.Goals.{in-Some+in_ok-compared+in_ok-push, in_default}

pub index-requires : goal.index-requires
index-requires g c =
    let lt = place_within (has_number c.args.number) c.self.inside.sessions.items c.in-Some.place (rw c.deref.ensures.value at (sym c.place_of.ensures ∙ c.in-Some.is)) in
    omega (arith, lt, c.self.inside.sessions.ok)

pub returns-clause-added : goal.returns-clause-added
returns-clause-added g c =
    let number = c.args.number in
    let items = c.self.inside.sessions.items in
    let make = record_diff c.args.name.now c.args.differences.now in
    let delta = c.match-place_of.delta in
    rw (← c.self.view_is) (elim c.match-place_of.branch [
      | in-Some+in_ok-compared+in_ok-push w ↦
          let place = w.in-Some.place in
          let tables = w.in_ok-compared.field-0 in
          let d = w.index.result.now in
          published-all delta items (ap (λ (own : Delta g.row.A.Denot). own.touched.items) w.delta-is ∙ c.nothing-delta.ensures.1) ((place, tables.entries) ∷ [])
          (ap renewed w.delta-is ∙ mapped-push _ c.nothing-delta.result.renewed.items w.push.new.self.items (place, tables) w.in_ok-push.ensures.items
          ∙ ap (λ others. others ++ (place, tables.entries) ∷ []) (ap (map _) c.nothing-delta.ensures.0))
          ∙ changed-same (with_tables tables.entries) (λ s. (s.0, make s.1)) items place d w.index.ensures (ap (λ s. (d.0, s)) w.in_ok-compared.ensures)
          ∙ made-first number make items place d (is-first (has_number number) items place d (rw c.deref.ensures.value at (sym c.place_of.ensures ∙ w.in-Some.is)))
      | in_default w ↦
          published-all delta items (ap (λ (own : Delta g.row.A.Denot). own.touched.items) w.delta-is ∙ c.nothing-delta.ensures.1) [] (ap renewed w.delta-is ∙ ap (map _) c.nothing-delta.ensures.0)
          ∙ made-none number make items (is-none (has_number number) items (rw c.deref.ensures.value at (sym c.place_of.ensures ∙ w.in_default.is)))
    ])
