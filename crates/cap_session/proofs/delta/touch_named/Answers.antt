use Rattle.std.proofs.Common.{[], ◌∷◌, sym, ◌∙◌}
use Rattle.std.proofs.lemmas.Result.{on_ok_weaker}
use Rattle.std.specs.Option.{option_copied}
use Rattle.cap_session.specs.Records.{Touch}
use Rattle.cap_session.proofs.AddedLemmas.{makes-named, makes-unnamed}
use Rattle.cap_session.proofs.delta.touch_named.Goals as goal

pub returns-in-Some-clause-touched : goal.returns-in-Some-clause-touched
returns-in-Some-clause-touched g c =
    let place = c.args.place.now in
    let t : Touch g.row.A.Denot = record { key = c.args.key.now; image = option_copied c.args.image; indirect = c.args.indirect } in
    on_ok_weaker c.touch_at.result
    (makes-named place.session c.args.tables.now.entries place.start c.args.name.now (t ∷ []) c.args.touched.now.items c.touch_at.new.touched.items c.in-Some.table (sym c.get_index_of.ensures.index ∙ c.in-Some.is) c.get_index_of.ensures.unique)
    c.touch_at.ensures.touched

pub returns-in-None-clause-touched : goal.returns-in-None-clause-touched
returns-in-None-clause-touched g c =
    let place = c.args.place.now in
    let t : Touch g.row.A.Denot = record { key = c.args.key.now; image = option_copied c.args.image; indirect = c.args.indirect } in
    makes-unnamed place.session c.args.tables.now.entries place.start c.args.name.now (t ∷ []) c.args.touched.now.items (sym c.get_index_of.ensures.index ∙ c.in-None.is)
