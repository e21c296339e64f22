use Rattle.std.proofs.Common.{◌≡◌, ap, append_assoc, ◌∙◌}
use Rattle.cap_changes.specs.Entries.{TableEntries}
use Rattle.cap_changes.proofs.LeftLemmas.{first_fits, others_fit}
use Rattle.cap_group.proofs.GroupLemmas.{flags_same}
use Rattle.cap_group.proofs.GrownLemmas.{grown_more}
use Rattle.cap_group.proofs.tables.push_changes.Goals as goal

pub push-requires : goal.push-requires
push-requires g c =
    let flags : c.loop-change.table.schema ≡ c.args.group.now.schema =
    ap (λ (t : TableEntries g.row.C.Denot). t.schema) c.loop-change.invariant.put ∙ flags_same c.args.table.now.schema c.args.group.now.schema c.requires in
    (g.met.C.Combine.stored_again c.loop-change.table.schema c.in-Some.change c.as_bytes.result.now
    (first_fits g.C.Entry.fits_in c.args.group.now.schema c.loop-change.table.schema c.loop-change.change-iterator c.next.new.self c.in-Some.change flags c.in-Some.ensures.steps c.loop-change.invariant.fit)
    c.as_bytes.ensures.values c.as_bytes.ensures.bytes).1

pub loop-change-preserved : goal.loop-change-preserved
loop-change-preserved g c =
    let flags : c.loop-change.table.schema ≡ c.args.group.now.schema =
    ap (λ (t : TableEntries g.row.C.Denot). t.schema) c.loop-change.invariant.put ∙ flags_same c.args.table.now.schema c.args.group.now.schema c.requires in
    let again = g.met.C.Combine.stored_again c.loop-change.table.schema c.in-Some.change c.as_bytes.result.now
    (first_fits g.C.Entry.fits_in c.args.group.now.schema c.loop-change.table.schema c.loop-change.change-iterator c.next.new.self c.in-Some.change flags c.in-Some.ensures.steps c.loop-change.invariant.fit)
    c.as_bytes.ensures.values c.as_bytes.ensures.bytes in
    record {
      put = rw (c.in_ok-push.ensures.ok, again.0, append_assoc) (rw c.in-Some.ensures.steps at c.loop-change.invariant.put);
      grown = rw c.in_ok-push.ensures.ok (grown_more c.args.table.now c.loop-change.table _ c.loop-change.invariant.grown);
      fit = others_fit g.C.Entry.fits_in c.args.group.now.schema c.loop-change.change-iterator c.next.new.self c.in-Some.change c.in-Some.ensures.steps c.loop-change.invariant.fit;
    }
