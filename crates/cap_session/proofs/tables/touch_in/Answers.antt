use Rattle.std.proofs.Common.{[], ◌∷◌, refl, sym, ◌∙◌}
use Rattle.std.proofs.lemmas.Result.{on_ok_weaker}
use Rattle.std.specs.Map.{keys_of}
use Rattle.std.specs.Option.{option_copied}
use Rattle.cap_session.specs.Records.{Touch, touch}
use Rattle.cap_session.proofs.PlaceLemmas.{set-value, value-same}
use Rattle.cap_session.proofs.TableLemmas.{noted}
use Rattle.cap_session.proofs.tables.touch_in.Goals as goal

pub returns-in-Some : goal.returns-in-Some
returns-in-Some g c =
    let ts = c.args.tables.now.entries in
    let name = c.args.name.now in
    let place = c.in-Some.place in
    let t : Touch g.row.A.Denot = record { key = c.args.key.now; image = option_copied c.args.image; indirect = c.args.indirect } in
    on_ok_weaker c.touch.result
    (λ made. set-value ts place c.touch.new.records ∙ value-same (λ _. c.touch.new.records) (λ records. touch records t) ts place c.index_mut.result.now c.index_mut.ensures.value made
    ∙ noted name (t ∷ []) ts (keys_of ts) place refl (sym c.get_index_of.ensures.index ∙ c.in-Some.is) c.get_index_of.ensures.unique) c.touch.ensures
