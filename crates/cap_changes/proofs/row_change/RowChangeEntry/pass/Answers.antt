use Rattle.std.proofs.Common.{arith, rules}
use Rattle.std.proofs.lemmas.Grind.{common_steps}
use Rattle.cap_field.proofs.Spelled.{are_low}
use Rattle.cap_field.specs.Reading.{Reads}
use Rattle.cap_changes.specs.ChangeReading.{behind, change_at}
use Rattle.cap_changes.specs.Operation.{operation_byte}
use Rattle.cap_changes.proofs.Grammar.{changes, passes}
use Rattle.cap_changes.proofs.row_change.RowChangeEntry.pass.Goals as goal

pub returns-in-Insert-clause-entry : goal.returns-in-Insert-clause-entry
unfolding change_at
returns-in-Insert-clause-entry g c =
    let reads : Reads (λ rest. rest.now) c.pass_record.result (behind (change_at {A = g.row.A.Denot} c.args.total c.args.flags.now (operation_byte c.args.operation) c.args.given.now)) = search rules in
    passes changes (λ rest. rest.now) c.pass_record.result c.args.total c.args.flags.now c.args.operation c.args.given.now (are_low c.args.given.now (λ i. omega (arith, c.type_inv.given i))) reads

pub returns-in_ok-new-in-Update-clause-entry : goal.returns-in_ok-new-in-Update-clause-entry
unfolding change_at
returns-in_ok-new-in-Update-clause-entry g c =
    let reads : Reads (λ rest. rest.now) c.pass_new_record.result (behind (change_at {A = g.row.A.Denot} c.args.total c.args.flags.now (operation_byte c.args.operation) c.args.given.now)) = grind (arith, common_steps) in
    passes changes (λ rest. rest.now) c.pass_new_record.result c.args.total c.args.flags.now c.args.operation c.args.given.now (are_low c.args.given.now (λ i. omega (arith, c.type_inv.given i))) reads
