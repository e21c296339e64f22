use Rattle.std.proofs.Common.{arith}
use Rattle.cap_changes.proofs.StoredEntries.{lent_at}
use Rattle.cap_changes.proofs.entries.Entries.get.Goals as goal

pub slice_bounds-of-count : goal.slice_bounds-of-count
slice_bounds-of-count g c = let l = lent_at g.C.Entry.fits_in g.C.Entry.has_values g.C.Entry.bytes_of g.C.Entry.stored c.self.inside.flags.now c.self.inside.bytes.now c.self.inside.start c.self.inside.ends.now c.args.place c.self.invariant (omega (arith, c.if-place-self.false)) in omega (arith, c.start_at-start.ensures, l.before)

pub slice_bounds-of-start : goal.slice_bounds-of-start
slice_bounds-of-start g c = let l = lent_at g.C.Entry.fits_in g.C.Entry.has_values g.C.Entry.bytes_of g.C.Entry.stored c.self.inside.flags.now c.self.inside.bytes.now c.self.inside.start c.self.inside.ends.now c.args.place c.self.invariant (omega (arith, c.if-place-self.false)) in omega (arith, c.start_at-start.ensures, l.before)

pub slice_bounds-of-end : goal.slice_bounds-of-end
slice_bounds-of-end g c = let l = lent_at g.C.Entry.fits_in g.C.Entry.has_values g.C.Entry.bytes_of g.C.Entry.stored c.self.inside.flags.now c.self.inside.bytes.now c.self.inside.start c.self.inside.ends.now c.args.place c.self.invariant (omega (arith, c.if-place-self.false)) in omega (arith, c.start_at-start.ensures, l.before, l.within)

pub of-requires : goal.of-requires
of-requires g c = let l = lent_at g.C.Entry.fits_in g.C.Entry.has_values g.C.Entry.bytes_of g.C.Entry.stored c.self.inside.flags.now c.self.inside.bytes.now c.self.inside.start c.self.inside.ends.now c.args.place c.self.invariant (omega (arith, c.if-place-self.false)) in
    rw c.start_at-start.ensures l.is
