use Rattle.std.proofs.Common.{◌≡◌, ◌++◌, ◌∷◌, [], refl, sym, ap, ◌∙◌}
use Rattle.std.specs.Option.{option_copied, option_map, unwrap_or}
use Rattle.cap_row.specs.Key.{fields_cmp}
use Rattle.cap_tree.specs.Tree.{put_entry}
use Rattle.cap_session.specs.Records.{Records, Touch, touch}
use Rattle.cap_session.proofs.AddedLemmas.{makes-push, makes-stay}
use Rattle.cap_session.proofs.PlaceLemmas.{changed-not, value-same}
use Rattle.cap_session.proofs.delta.reserve_record.Goals as goal

pub returns-in_ok-push-clause-touched : goal.returns-in_ok-push-clause-touched
returns-in_ok-push-clause-touched g c = λ tables at.
    let place = c.args.place.now in
    let table = c.args.table in
    let now = c.args.records.now in
    let after = c.in_ok-with.field-0 in
    let t : Touch g.row.A.Denot = record { key = c.args.key.now; image = option_copied c.args.image; indirect = c.args.indirect } in
    let make = λ (records : Records g.row.A.Denot). touch records t in
    let made : after ≡ make now =
    c.in_ok-with.ensures.put ∙ ap (λ key. put_entry fields_cmp now key c.in-Some.record) c.in_ok-copy.ensures
    ∙ sym (ap (λ new. unwrap_or (option_map (put_entry fields_cmp now c.args.key.now) new) now) c.in-Some.is) ∙ c.in_ok-record.ensures in
    makes-push place.session tables place.start table make c.args.touched.now.items c.requires.none after c.push.new.self.items
    (c.in_ok-push.ensures.items ∙ ap (λ xs. xs ++ (place.session, (table, after)) ∷ []) c.reserve.ensures.items) (value-same (λ _. after) make tables table now at made)

pub returns-in_default-clause-touched : goal.returns-in_default-clause-touched
returns-in_default-clause-touched g c = λ tables at.
    let place = c.args.place.now in
    let table = c.args.table in
    let now = c.args.records.now in
    let old = c.args.touched.now.items in
    let t : Touch g.row.A.Denot = record { key = c.args.key.now; image = option_copied c.args.image; indirect = c.args.indirect } in
    let make = λ (records : Records g.row.A.Denot). touch records t in
    let made : now ≡ make now = sym (ap (λ new. unwrap_or (option_map (put_entry fields_cmp now c.args.key.now) new) now) c.in_default.is) ∙ c.in_ok-record.ensures in
    makes-stay place.session tables place.start table make old c.requires.none old refl (sym (changed-not tables table) ∙ value-same (λ records. records) make tables table now at made)
