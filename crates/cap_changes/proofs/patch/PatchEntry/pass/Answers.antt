use Rattle.std.proofs.Common.{arith, subst, sym}
use Rattle.cap_field.proofs.Spelled.{are_low}
use Rattle.cap_field.specs.Reading.{Reads}
use Rattle.cap_changes.specs.ChangeReading.{behind, patch_at, is_set, patch_kind}
use Rattle.cap_changes.specs.Operation.{operation_byte}
use Rattle.cap_changes.specs.RecordReading.{record_at}
use Rattle.cap_changes.specs.Requirements.{requirements}
use Rattle.cap_changes.proofs.Grammar.{patches, patch_of, patch_read, passes}
use Rattle.cap_changes.proofs.PassLemmas.{behind_made}
use Rattle.cap_changes.proofs.patch.PatchEntry.pass.Goals as goal

pub returns : goal.returns
returns g c =
    let reads : Reads (λ rest. rest.now) c.pass_record.result (behind (patch_at {A = g.row.A.Denot} c.args.total c.args.flags.now (operation_byte c.args.operation) c.args.given.now)) =
    rw (patch_read c.args.total c.args.flags.now c.args.operation c.args.given.now, c.in_ok-first.ensures.reads)
    (subst (Reads (λ rest. rest.now) c.pass_record.result) (sym (behind_made (patch_of c.args.operation (is_set _)) (record_at c.args.total (requirements (patch_kind c.args.operation) c.args.flags.now) c.in_ok-first.first.now))) (rw c.patch_kind.ensures at c.pass_record.ensures.reads)) in
    record { reads = reads; entry = passes patches (λ rest. rest.now) c.pass_record.result c.args.total c.args.flags.now c.args.operation c.args.given.now (are_low c.args.given.now (λ i. omega (arith, c.type_inv.given i))) reads }
