use Rattle.std.proofs.Common.{◌∙◌, sym, refl, arith, length-append}
use Rattle.cap_row.proofs.EncodingLemmas.{first, before_rest}
use Rattle.cap_row.proofs.row_fields.RowFields.next_both.Goals as goal

pub stored_value-requires : goal.stored_value-requires
stored_value-requires g c = (first _ _ refl c.self.invariant.each c.self.invariant.spelled (sym c.is_empty.ensures ∙ c.if-is_empty.false)).0

pub slice_bounds-result-count : goal.slice_bounds-result-count
slice_bounds-result-count g c =
    let is = (first _ _ refl c.self.invariant.each c.self.invariant.spelled (sym c.is_empty.ensures ∙ c.if-is_empty.false)).1 _ _ c.stored_value.ensures in
    grind (arith, length-append)

pub invariant_of-self : goal.invariant_of-self
invariant_of-self g c = ((first _ _ refl c.self.invariant.each c.self.invariant.spelled (sym c.is_empty.ensures ∙ c.if-is_empty.false)).1 _ _ c.stored_value.ensures).encodes

pub returns : goal.returns
returns g c =
    let is = (first _ _ refl c.self.invariant.each c.self.invariant.spelled (sym c.is_empty.ensures ∙ c.if-is_empty.false)).1 _ _ c.stored_value.ensures in
    (sym c.self.view_is ∙ is.values, (before_rest _ _ _ is.parts, is.fits))
