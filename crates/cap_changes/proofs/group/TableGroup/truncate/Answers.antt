use Rattle.std.proofs.Common.{◌∙◌, ℕ, List, arith, ap}
use Rattle.cap_changes.specs.Stored.{start_of}
use Rattle.cap_changes.proofs.StoredEntries.{all_kept, first_kept}
use Rattle.cap_changes.proofs.group.TableGroup.truncate.Goals as goal

pub invariant_of-self : goal.invariant_of-self
invariant_of-self g c = (first_kept g.C.Entry.fits_in g.C.Entry.has_values g.C.Entry.bytes_of g.C.Entry.stored c.self.inside.table c.self.inside.schema c.self.inside.bytes.items c.self.inside.ends.items c.args.self.now c.args.count c.self.view_is c.start_at-end.result c.truncate-2.new.self.items c.truncate.new.self.items c.self.invariant (omega (arith, c.if-count-len.false, c.len.ensures)) (c.start_at-end.ensures ∙ ap (λ (ends : List ℕ). start_of 0 ends c.args.count) c.as_slice.ensures.value) c.truncate.ensures.items c.truncate-2.ensures.items).keeps

pub returns : goal.returns
returns g c = (first_kept g.C.Entry.fits_in g.C.Entry.has_values g.C.Entry.bytes_of g.C.Entry.stored c.self.inside.table c.self.inside.schema c.self.inside.bytes.items c.self.inside.ends.items c.args.self.now c.args.count c.self.view_is c.start_at-end.result c.truncate-2.new.self.items c.truncate.new.self.items c.self.invariant (omega (arith, c.if-count-len.false, c.len.ensures)) (c.start_at-end.ensures ∙ ap (λ (ends : List ℕ). start_of 0 ends c.args.count) c.as_slice.ensures.value) c.truncate.ensures.items c.truncate-2.ensures.items).is

pub returns-then-count-len : goal.returns-then-count-len
returns-then-count-len g c = all_kept g.C.Entry.fits_in g.C.Entry.has_values g.C.Entry.bytes_of g.C.Entry.stored c.self.inside.table c.self.inside.schema c.self.inside.bytes.items c.self.inside.ends.items c.args.self.now c.args.count c.self.view_is (omega (arith, c.if-count-len.true, c.len.ensures))
