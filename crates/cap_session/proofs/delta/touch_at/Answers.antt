use Rattle.std.proofs.Common.{sym, refl, ◌∙◌}
use Rattle.std.proofs.lemmas.Result.{on_ok_weaker}
use Rattle.std.specs.Option.{option_copied}
use Rattle.cap_session.specs.Records.{Records, Touch, touch}
use Rattle.cap_session.proofs.AddedLemmas.{makes-set}
use Rattle.cap_session.proofs.delta.touch_at.Goals as goal

pub returns-in-Some-clause-touched : goal.returns-in-Some-clause-touched
returns-in-Some-clause-touched g c =
    let place = c.args.place.now in
    let d = c.index_mut.result.now in
    let t : Touch g.row.A.Denot = record { key = c.args.key.now; image = option_copied c.args.image; indirect = c.args.indirect } in
    let make = λ (records : Records g.row.A.Denot). touch records t in
    on_ok_weaker c.touch.result
    (makes-set place.session c.args.tables.now.entries place.start c.args.table make c.args.touched.now.items c.in-Some.index d (d.0, (d.1.0, c.touch.new.records)) (rw c.deref.ensures.value at (sym c.index_of.ensures ∙ c.in-Some.is)) c.index_mut.ensures.value refl refl) c.touch.ensures
