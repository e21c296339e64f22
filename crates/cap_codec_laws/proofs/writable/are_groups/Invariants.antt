use Rattle.cap_codec.proofs.Common.{ℕ, ◌<◌, IsGroupOf}
use Rattle.std.specs.Prelude.{slice_index_or}
use Rattle.cap_codec_laws.proofs.writable.are_groups.Given as goal

abbrev pub invariant-loop-group : goal.invariant-loop-group
invariant-loop-group g l = (k : ℕ) (d : _) → k < l.group-index → IsGroupOf g.C.Entry.fits_in g.C.Entry.has_values (slice_index_or l.group-items k d)
