use Rattle.std.proofs.Common.{◌≡◌, ◌+◌, ◌++◌, ◌∷◌, [], map, take, refl, sym, ap, ◌∙◌}
use Rattle.std.proofs.lemmas.List.{map_push, take_more}
use Rattle.cap_filter.specs.Plain.{rule_of}
use Rattle.cap_filter.proofs.filter.Filter.+copy.Goals as goal

pub copy_all-loop-filter-preserved : goal.copy_all-loop-filter-preserved
copy_all-loop-filter-preserved g t c =
    let fs = c.args.filters.now in
    let f = c.filter-item.result in
    let copied = c.in_ok-copy.field-0 in
    let here : take (c.loop-filter.filter-index + 1) fs ≡ take c.loop-filter.filter-index fs ++ f ∷ [] =
    take_more fs c.loop-filter.filter-index f c.loop-filter-test.true ∙ ap (λ x. take c.loop-filter.filter-index fs ++ x ∷ []) (sym c.filter-item.is)
    in
    let pushed : map rule_of c.push.new.self.items ≡ map rule_of c.loop-filter.copies.items ++ rule_of copied ∷ [] = rw c.in_ok-push.ensures.items (map_push rule_of c.loop-filter.copies.items copied) in
    let taken : map rule_of (take (c.loop-filter.filter-index + 1) fs) ≡ map rule_of (take c.loop-filter.filter-index fs) ++ rule_of f ∷ [] = rw here (map_push rule_of (take c.loop-filter.filter-index fs) f) in
    pushed ∙ rw (c.loop-filter.invariant, c.in_ok-copy.ensures) refl ∙ sym taken
