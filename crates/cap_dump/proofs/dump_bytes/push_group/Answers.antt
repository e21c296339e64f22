use Rattle.cap_dump.proofs.SpelledLemmas.{group_written}
use Rattle.cap_dump.proofs.dump_bytes.push_group.Goals as goal

pub returns : goal.returns
returns g c =
    group_written c.push_rows.result c.args.key_flags c.args.out.now.items c.push_group_header.new.out.items c.push_rows.new.out.items (c.args.name.now, c.args.table.now)
    (rw c.schema.ensures at c.in_ok-push_group_header.ensures.bytes) c.push_rows.ensures
