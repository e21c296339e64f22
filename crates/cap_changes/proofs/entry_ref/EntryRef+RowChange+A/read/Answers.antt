use Rattle.std.proofs.Common.{◌∙◌}
use Rattle.cap_changes.proofs.Grammar.{change_insert, change_update, change_delete}
use Rattle.cap_changes.proofs.entry_ref.EntryRef+RowChange+A.read.Goals as goal

pub of-requires : goal.of-requires
of-requires g c = (change_insert c.self.inside.flags.now c.parts-operation.result.0 c.parts-operation.result.1 c.parts-operation.result.2.now c.self.inside.bytes.now c.parts-operation.ensures _ c.self.invariant c.in-Insert.is).0

pub split_record-old-requires : goal.split_record-old-requires
split_record-old-requires g c =
    let u = change_update c.self.inside.flags.now c.parts-operation.result.0 c.parts-operation.result.1 c.parts-operation.result.2.now c.self.inside.bytes.now c.parts-operation.ensures _ c.self.invariant c.in-Update.is in
    record { is = u.0; wide = u.1 }

pub of-requires-in-Delete : goal.of-requires-in-Delete
of-requires-in-Delete g c = (change_delete c.self.inside.flags.now c.parts-operation.result.0 c.parts-operation.result.1 c.parts-operation.result.2.now c.self.inside.bytes.now c.parts-operation.ensures _ c.self.invariant c.in-Delete.is).0

pub returns-in-Insert : goal.returns-in-Insert
returns-in-Insert g c = rw c.of.ensures ((change_insert c.self.inside.flags.now c.parts-operation.result.0 c.parts-operation.result.1 c.parts-operation.result.2.now c.self.inside.bytes.now c.parts-operation.ensures _ c.self.invariant c.in-Insert.is).1 ∙ c.self.view_is)

pub returns-in-Update : goal.returns-in-Update
returns-in-Update g c = rw (c.split_record-old.ensures.first, c.split_record-old.ensures.others) ((change_update c.self.inside.flags.now c.parts-operation.result.0 c.parts-operation.result.1 c.parts-operation.result.2.now c.self.inside.bytes.now c.parts-operation.ensures _ c.self.invariant c.in-Update.is).2 ∙ c.self.view_is)

pub returns-in-Delete : goal.returns-in-Delete
returns-in-Delete g c = rw c.of-in-Delete.ensures ((change_delete c.self.inside.flags.now c.parts-operation.result.0 c.parts-operation.result.1 c.parts-operation.result.2.now c.self.inside.bytes.now c.parts-operation.ensures _ c.self.invariant c.in-Delete.is).1 ∙ c.self.view_is)
