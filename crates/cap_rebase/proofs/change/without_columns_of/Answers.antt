use Rattle.std.proofs.Common.{append-nil, refl, sym}
use Rattle.cap_rebase.proofs.change.without_columns_of.Goals as goal

pub returns-in-Insert : goal.returns-in-Insert
returns-in-Insert g c answer old = rw c.in-Insert.is (sym (append-nil c.args.out.now.items), refl)

pub returns-in-Delete : goal.returns-in-Delete
returns-in-Delete g c answer old = rw c.in-Delete.is (sym (append-nil c.args.out.now.items), refl)
