use Rattle.std.proofs.Common.{◌≡◌, rules}
use Rattle.std.specs.Arc.{arc_value}
use Rattle.cap_row.proofs.EncodingLemmas.{same_by_bytes}
use Rattle.cap_row.proofs.row.RowPartialEq.eq.Goals as goal

pub returns : goal.returns
returns g c =
    let ours : c.as_slice.result.now ≡ (arc_value c.self.inside.bytes).items = search rules in
    let theirs : c.as_slice-2.result.now ≡ (arc_value c.other.inside.bytes).items = search rules in
    same_by_bytes (arc_value c.self.inside.bytes).items (arc_value c.other.inside.bytes).items c.args.self.now c.args.other.now _ c.self.invariant c.other.invariant c.self.view_is c.other.view_is
    (rw (ours, theirs) at c.eq.ensures)
