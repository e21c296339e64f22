use Rattle.std.proofs.Common.{Bool, Option, [], ◌∷◌, sym, ap, ap₂, subst, ◌∙◌}
use Rattle.std.proofs.lemmas.Result.{on_ok_weaker}
use Rattle.cap_row.specs.Fields.{Fields}
use Rattle.cap_session.specs.Code.Added.{Makes}
use Rattle.cap_session.specs.Recording.{touch_table, touches_of}
use Rattle.cap_session.specs.Records.{Touch}
use Rattle.cap_session.proofs.AddedLemmas.{makes-none}
use Rattle.cap_session.proofs.TableLemmas.{told-none, told-one, touch-no}
use Rattle.cap_session.proofs.delta.touch_by.Goals as goal

pub returns-in-Some-clause-touched : goal.returns-in-Some-clause-touched
returns-in-Some-clause-touched g c =
    let place = c.args.place.now in
    let change = c.args.change.now in
    let touch_with : Option (Fields g.row.A.Denot) → Bool → Touch g.row.A.Denot = λ image indirect. record { key = c.in-Some.key; image = image; indirect = indirect } in
    let touches = ap₂ (λ image indirect. touch_with image indirect ∷ []) c.as_ref-image.ensures.value c.is_indirect-indirect.ensures ∙ sym (told-one c.args.indirect change c.in-Some.key c.in-Some.is) in
    on_ok_weaker c.touch_named.result
    (subst (λ touches. Makes place.start place.session c.args.tables.now.entries (touch_table change.table touches) c.args.touched.now.items c.touch_named.new.touched.items) touches) c.touch_named.ensures.touched

pub returns-in-None-clause-touched : goal.returns-in-None-clause-touched
returns-in-None-clause-touched g c =
    let place = c.args.place.now in
    let change = c.args.change.now in
    makes-none place.session c.args.tables.now.entries place.start (touch_table change.table (touches_of c.args.indirect change.table (change ∷ []))) c.args.touched.now.items
    (λ before. sym (ap (λ touches. touch_table change.table touches before) (told-none c.args.indirect change c.in-None.is) ∙ touch-no change.table before))
