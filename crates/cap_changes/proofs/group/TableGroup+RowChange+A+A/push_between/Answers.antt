use Rattle.std.proofs.Common.{arith, ap, append-nil, refl}
use Rattle.std.specs.Option.{option_copied}
use Rattle.cap_changes.specs.ChangeBytes.{change_bytes}
use Rattle.cap_changes.specs.Entries.{TableEntries}
use Rattle.cap_changes.specs.declared.row_change.RowChange.{RowChange}
use Rattle.cap_changes.proofs.GroupLemmas.{recorded}
use Rattle.cap_changes.proofs.StoredChange.{change_entry}
use Rattle.cap_changes.proofs.StoredEntries.{leaves}
use Rattle.cap_changes.proofs.group.TableGroup+RowChange+A+A.push_between.Goals as goal

pub invariant_of-self : goal.invariant_of-self
invariant_of-self g c =
    let t = recorded c.args.self.now.schema c.args.indirect (option_copied c.args.image) (option_copied c.args.now) c.requires.image_keyed c.requires.now_keyed c.requires.changed c.are_values.ensures c.are_values-2.ensures in
    let e = change_entry c.args.self.now.schema t.change (change_bytes t.change) t.fits t.values refl in
    (leaves c.end.result c.push_change-pushed.result c.push_change-pushed.new.out.items c.end.new.bytes.items c.end.new.ends.items c.self.invariant c.self.view_is e.1 e.0 (omega (arith, c.len-before.ensures, c.self.inside.bytes.ok.0)) (rw (ap (λ (t : TableEntries (RowChange g.row.A.Denot)). t.schema) c.self.view_is, t.is, append-nil (change_bytes t.change)) at c.push_change-pushed.ensures.bytes) c.push_change-pushed.ensures.begins c.end.ensures.ok c.end.ensures.err).keeps

pub returns : goal.returns
returns g c =
    let t = recorded c.args.self.now.schema c.args.indirect (option_copied c.args.image) (option_copied c.args.now) c.requires.image_keyed c.requires.now_keyed c.requires.changed c.are_values.ensures c.are_values-2.ensures in
    let e = change_entry c.args.self.now.schema t.change (change_bytes t.change) t.fits t.values refl in
    let left = leaves c.end.result c.push_change-pushed.result c.push_change-pushed.new.out.items c.end.new.bytes.items c.end.new.ends.items c.self.invariant c.self.view_is e.1 e.0 (omega (arith, c.len-before.ensures, c.self.inside.bytes.ok.0)) (rw (ap (λ (t : TableEntries (RowChange g.row.A.Denot)). t.schema) c.self.view_is, t.is, append-nil (change_bytes t.change)) at c.push_change-pushed.ensures.bytes) c.push_change-pushed.ensures.begins c.end.ensures.ok c.end.ensures.err in
    record { ok = rw t.is left.ok; err = left.err }
