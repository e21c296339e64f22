use Rattle.std.proofs.lemmas.Cmp.{nat_list_cmp_total}
use Rattle.cap_value.specs.Bytes.{bytes_cmp}
use Rattle.cap_tree.proofs.EntryLemmas.{ordered_put}
use Rattle.cap_database.proofs.KeptKeyLemmas.{key-found, row-found}
use Rattle.cap_database.proofs.StepLemmas.{act_step}
use Rattle.cap_database.proofs.place.step_keyed_at.Goals as goal

pub act_keyed-requires-clause-key : goal.act_keyed-requires-clause-key
act_keyed-requires-clause-key g c = key-found c.args.tables.now c.args.op.now _ c.args.key.now (c.requires.get c.index-tables-place.result) c.requires.key

pub act_keyed-requires-clause-can_ask : goal.act_keyed-requires-clause-can_ask
act_keyed-requires-clause-can_ask g c = λ after is.
    rw (← row-found c.args.tables.now c.args.op.now.table _ c.args.key.now (c.requires.get c.index-tables-place.result))
    (c.requires.can_ask _ (act_step c.args.tables.now c.args.op.now _ after (c.requires.get c.index-tables-place.result) is))

pub returns-clause-ordered : goal.returns-clause-ordered
returns-clause-ordered g c = λ s.
    rw (← c.requires.put c.index-tables-place.result c.act_keyed.new.table) (ordered_put bytes_cmp nat_list_cmp_total c.args.op.now.table c.act_keyed.new.table c.args.tables.now s)
