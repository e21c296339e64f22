use Rattle.std.proofs.Common.{rules}
use Rattle.cap_database.proofs.WriteLemmas.{one_allowed, one_run, one_vetoed}
use Rattle.cap_database.proofs.database.Database.write_one.Goals as goal

pub step_keyed-requires-clause-can_ask : goal.step_keyed-requires-clause-can_ask
step_keyed-requires-clause-can_ask g c = λ after is. c.requires.can_ask _ (one_run c.args.self.now c.args.op.now after is)

pub returns-in-Ok : goal.returns-in-Ok
returns-in-Ok g c =
    let told = c.in-Ok.ensures in
    let all = one_allowed g.W.WriteHook.gives c.args.self.now c.step_keyed.new.self c.args.op.now c.args.key.now c.args.hook.now c.step_keyed.new.hook.hook.now told.changes told.tables.0 told.tables.1.1 in
    search rules

pub returns-in-Err-Vetoed : goal.returns-in-Err-Vetoed
returns-in-Err-Vetoed g c =
    let told = rw c.in-Err-Vetoed.field-0-is at c.in-Err-Vetoed.ensures in
    let all = one_vetoed g.W.WriteHook.gives c.args.self.now c.step_keyed.new.self c.args.op.now c.args.key.now c.args.hook.now c.step_keyed.new.hook.hook.now told.changes c.in-Err-Vetoed.fault told.kept told.tables.0 told.tables.1.1 in
    search rules
