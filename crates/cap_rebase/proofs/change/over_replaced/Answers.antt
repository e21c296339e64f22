use Rattle.cap_rebase.proofs.change.over_replaced.Goals as goal

pub returns-in-Update : goal.returns-in-Update
returns-in-Update g c = rw (← c.in-Update.ensures, ← c.read-in-Update.ensures) (c.without_columns_of.ensures c.in-Update.indirect c.in-Update.old)
