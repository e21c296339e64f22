use Rattle.std.proofs.Common.{arith, refl}
use Rattle.cap_changes.proofs.StoredEntries.{extended, leaves}
use Rattle.cap_changes.proofs.group.TableGroup.push.Goals as goal

pub invariant_of-self : goal.invariant_of-self
invariant_of-self g c = (leaves c.end.result c.extend_from_slice-pushed.result c.extend_from_slice-pushed.new.self.items c.end.new.bytes.items c.end.new.ends.items c.self.invariant c.self.view_is c.requires refl (omega (arith, c.len-before.ensures, c.self.inside.bytes.ok.0)) (extended c.extend_from_slice-pushed.result c.self.inside.bytes.items c.args.change.now c.extend_from_slice-pushed.new.self.items c.extend_from_slice-pushed.ensures.items).0 (extended c.extend_from_slice-pushed.result c.self.inside.bytes.items c.args.change.now c.extend_from_slice-pushed.new.self.items c.extend_from_slice-pushed.ensures.items).1 c.end.ensures.ok c.end.ensures.err).keeps

pub returns : goal.returns
returns g c =
    let left = leaves c.end.result c.extend_from_slice-pushed.result c.extend_from_slice-pushed.new.self.items c.end.new.bytes.items c.end.new.ends.items c.self.invariant c.self.view_is c.requires refl (omega (arith, c.len-before.ensures, c.self.inside.bytes.ok.0)) (extended c.extend_from_slice-pushed.result c.self.inside.bytes.items c.args.change.now c.extend_from_slice-pushed.new.self.items c.extend_from_slice-pushed.ensures.items).0 (extended c.extend_from_slice-pushed.result c.self.inside.bytes.items c.args.change.now c.extend_from_slice-pushed.new.self.items c.extend_from_slice-pushed.ensures.items).1 c.end.ensures.ok c.end.ensures.err in
    record { ok = left.ok; err = left.err }
