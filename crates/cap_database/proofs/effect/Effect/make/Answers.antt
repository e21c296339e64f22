use Rattle.std.proofs.Common.{sym}
use Rattle.cap_database.proofs.StepLemmas.{refused_act_is}
use Rattle.cap_database.proofs.effect.Effect.make.Goals as goal

pub returns-in-Some-clause-table : goal.returns-in-Some-clause-table
returns-in-Some-clause-table g c =
    let known = rw c.in-Err-OutOfMemory.ensures.kept at c.in-Some.ensures in
    refused_act_is c.args.table.now c.args.op.now.action c.in-Some.why (sym known)
