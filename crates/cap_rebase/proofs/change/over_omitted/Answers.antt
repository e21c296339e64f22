use Rattle.cap_rebase.proofs.change.over_omitted.Goals as goal

pub returns-in-Insert : goal.returns-in-Insert
returns-in-Insert g c = rw (← c.in-Insert.ensures, ← c.read-in-Insert.ensures) (c.after_deleted.ensures c.in-Insert.indirect)

pub returns-in_ok-after-in-Update : goal.returns-in_ok-after-in-Update
returns-in_ok-after-in-Update g c =
    rw (← c.in-Update.ensures, ← c.read-in-Update.ensures)
    (rw (c.fields.ensures, c.fields-in-Update.ensures, c.in_ok-before-in-Update.ensures, c.in_ok-after-in-Update.ensures, c.copy.ensures, c.copy-in-Update.ensures) at
    (c.after_updated.ensures c.in-Update.indirect))

pub returns-in-Delete : goal.returns-in-Delete
returns-in-Delete g c = rw (← c.in-Delete.ensures, ← c.read-in-Delete.ensures) (c.after_inserted.ensures c.in-Delete.indirect c.args.flags.now)
