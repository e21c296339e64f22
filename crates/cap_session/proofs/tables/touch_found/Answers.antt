use Rattle.std.proofs.Common.{Option, [], ◌∷◌, ap₂, ◌∙◌}
use Rattle.cap_row.specs.Fields.{Fields}
use Rattle.cap_session.specs.Recording.{touch_table}
use Rattle.cap_session.specs.Records.{Touch}
use Rattle.cap_session.proofs.TableLemmas.{found_more}
use Rattle.cap_session.proofs.tables.touch_found.Goals as goal

pub loop-difference-preserved : goal.loop-difference-preserved
loop-difference-preserved g c =
    let name = c.args.name.now in
    let d = c.difference-item.result in
    let touch_with : Option (Fields g.row.A.Denot) → Touch g.row.A.Denot = λ image. record { key = d.key; image = image; indirect = c.args.indirect } in
    c.in_ok-touch_in.ensures ∙ ap₂ (λ image now. touch_table name (touch_with image ∷ []) now) c.as_ref-image.ensures.value c.loop-difference.invariant
    ∙ found_more name c.args.indirect c.args.differences.now c.loop-difference.difference-index d c.args.tables.now.entries c.loop-difference-test.true c.difference-item.is
