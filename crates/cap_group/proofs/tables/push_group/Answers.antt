use Rattle.std.proofs.Common.{sym}
use Rattle.cap_group.proofs.GroupLemmas.{group_copied}
use Rattle.cap_group.proofs.tables.push_group.Goals as goal

pub returns-in_ok-push_copy-in-None-clause-content : goal.returns-in_ok-push_copy-in-None-clause-content
returns-in_ok-push_copy-in-None-clause-content g c =
    rw c.in_ok-push_copy-in-None.ensures.ok
    (group_copied g.C.Combine.key g.C.Combine.combined c.args.place c.args.tables.now.items c.args.group.now (rw (c.deref.ensures.value, c.table.ensures) at (sym c.in-None.ensures)))
