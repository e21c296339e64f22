use Rattle.std.proofs.Common.{◌∙◌}
use Rattle.cap_changes.proofs.Grammar.{patch_insert, patch_update, patch_delete}
use Rattle.cap_changes.proofs.entry_ref.EntryRef+Patch+A.read.Goals as goal

pub of-requires : goal.of-requires
of-requires g c = (patch_insert c.self.inside.flags.now c.parts-operation.result.0 c.parts-operation.result.1 c.parts-operation.result.2.now c.self.inside.bytes.now c.parts-operation.ensures _ c.self.invariant c.in-Insert.is).0

pub of-requires-in-Update : goal.of-requires-in-Update
of-requires-in-Update g c = (patch_update c.self.inside.flags.now c.parts-operation.result.0 c.parts-operation.result.1 c.parts-operation.result.2.now c.self.inside.bytes.now c.parts-operation.ensures _ c.self.invariant c.in-Update.is).0

pub of_key-requires : goal.of_key-requires
of_key-requires g c = (patch_delete c.self.inside.flags.now c.parts-operation.result.0 c.parts-operation.result.1 c.parts-operation.result.2.now c.self.inside.bytes.now c.parts-operation.ensures _ c.self.invariant c.in-Delete.is).0

pub returns-in-Insert : goal.returns-in-Insert
returns-in-Insert g c = rw c.of.ensures ((patch_insert c.self.inside.flags.now c.parts-operation.result.0 c.parts-operation.result.1 c.parts-operation.result.2.now c.self.inside.bytes.now c.parts-operation.ensures _ c.self.invariant c.in-Insert.is).1 ∙ c.self.view_is)

pub returns-in-Update : goal.returns-in-Update
returns-in-Update g c = rw c.of-in-Update.ensures ((patch_update c.self.inside.flags.now c.parts-operation.result.0 c.parts-operation.result.1 c.parts-operation.result.2.now c.self.inside.bytes.now c.parts-operation.ensures _ c.self.invariant c.in-Update.is).1 ∙ c.self.view_is)

pub returns-in-Delete : goal.returns-in-Delete
returns-in-Delete g c = rw c.of_key.ensures ((patch_delete c.self.inside.flags.now c.parts-operation.result.0 c.parts-operation.result.1 c.parts-operation.result.2.now c.self.inside.bytes.now c.parts-operation.ensures _ c.self.invariant c.in-Delete.is).1 ∙ c.self.view_is)
