use Rattle.std.proofs.Common.{◌≡◌, [], ◌++◌, ◌∷◌, refl, ap, ◌∙◌}
use Rattle.cap_changes.proofs.LeftLemmas.{first_fits, image_made, others_fit}
use Rattle.cap_apply.specs.Requested.{Requested}
use Rattle.cap_apply.specs.Row.{key_record_of, key_values}
use Rattle.cap_applier.specs.Looked.{row_named}
use Rattle.cap_applier.proofs.looked.push_rows.Goals as goal

pub request-request-requires : goal.request-request-requires
request-request-requires g c =
    first_fits g.C.Entry.fits_in c.args.group.now.schema c.schema-columns.result.now c.loop-change.change-iterator c.next.new.self c.in-Some.change c.schema-columns.ensures.schema c.in-Some.ensures.steps c.loop-change.invariant.fit

pub loop-change-preserved : goal.loop-change-preserved
loop-change-preserved g c =
    let group = c.args.group.now in
    let f = row_named g.C.BlobChange.requested group in
    let pair : (c.in_ok-copy.field-0, c.in_ok-key.key) ≡ f c.in-Some.change =
    (λ k. (
      (c.in_ok-copy.ensures ∙ c.table-table.ensures) k,
      (c.in_ok-key.ensures ∙ ap (λ (r : Requested g.row.A.Denot). key_values c.schema-columns.result.now (key_record_of r.patch)) c.request-request.ensures.is ∙ ap (λ s. (row_named g.C.BlobChange.requested (record group { schema = s }) c.in-Some.change).1) c.schema-columns.ensures.schema) k,
    )) in
    record {
      put = image_made f f c.loop-change.change-iterator c.next.new.self c.in-Some.change c.loop-change.rows.items c.push.new.self.items _ c.in-Some.ensures.steps refl
          (c.in_ok-push.ensures.items ∙ ap (λ row. c.loop-change.rows.items ++ row ∷ []) pair) c.loop-change.invariant.put;
      fit = others_fit g.C.Entry.fits_in group.schema c.loop-change.change-iterator c.next.new.self c.in-Some.change c.in-Some.ensures.steps c.loop-change.invariant.fit;
    }
