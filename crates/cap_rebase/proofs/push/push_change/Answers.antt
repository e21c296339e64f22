use Rattle.std.proofs.Common.{sym, subst, Option}
use Rattle.std.specs.Prelude.{IfSome, IsTrue}
use Rattle.cap_changes.specs.Fits.{change_fits}
use Rattle.cap_changes.specs.declared.row_change.RowChange.{RowChange}
use Rattle.cap_changes.proofs.StoredChange.{change_entry}
use Rattle.cap_rebase.proofs.push.push_change.Goals as goal

pub push-requires : goal.push-requires
push-requires g c =
    (change_entry c.args.group.now.schema c.in-Some.change c.as_bytes.result.now
    (subst (λ (o : Option (RowChange g.row.A.Denot)). IfSome o (λ one. IsTrue (change_fits c.args.group.now.schema one))) (sym c.in-Some.ensures) c.requires)
    c.as_bytes.ensures.values c.as_bytes.ensures.bytes).1

pub returns-in-Some : goal.returns-in-Some
returns-in-Some g c =
    let is = (change_entry c.args.group.now.schema c.in-Some.change c.as_bytes.result.now
    (subst (λ (o : Option (RowChange g.row.A.Denot)). IfSome o (λ one. IsTrue (change_fits c.args.group.now.schema one))) (sym c.in-Some.ensures) c.requires)
    c.as_bytes.ensures.values c.as_bytes.ensures.bytes).0 in
    rw (← c.in-Some.ensures) (rw is at c.push.ensures.ok)
