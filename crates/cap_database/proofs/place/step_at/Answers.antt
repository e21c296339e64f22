use Rattle.std.proofs.lemmas.Cmp.{nat_list_cmp_total}
use Rattle.cap_value.specs.Bytes.{bytes_cmp}
use Rattle.cap_tree.proofs.EntryLemmas.{ordered_put}
use Rattle.cap_database.proofs.place.step_at.Goals as goal

pub returns-clause-ordered : goal.returns-clause-ordered
returns-clause-ordered g c = λ s.
    rw (← c.requires.put c.index-tables-place.result c.make.new.table) (ordered_put bytes_cmp nat_list_cmp_total c.args.op.now.table c.make.new.table c.args.tables.now s)
