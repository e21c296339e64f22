use Rattle.std.proofs.Common.{[], ◌∷◌, refl, sym}
use Rattle.std.proofs.lemmas.List.{drop_all, drop_more}
use Rattle.cap_group.proofs.bytes.add_all_bytes.Goals as goal

pub loop-blob-init : goal.loop-blob-init
loop-blob-init g c = record { content = refl; spelled = λ made lists spelled is. (lists, spelled, is) }

pub loop-blob-preserved : goal.loop-blob-preserved
loop-blob-preserved g c =
    let one = c.in-Ok.ensures in
    let rest = drop_more c.args.blobs.now c.loop-blob.blob (record { ref_ptr = (0, 0); now = [] }) c.loop-blob-test.true in
    record {
      content = rw one.content at (rw rest at c.loop-blob.invariant.content);
      spelled = λ made later spelled is. c.loop-blob.invariant.spelled made (one.spelled.0 ∷ later) (rw rest (one.spelled.1, spelled)) (rw one.spelled.2 is);
    }

pub returns : goal.returns
returns g c =
    let none = drop_all c.loop-blob.blob c.args.blobs.now c.loop-blob-test.false in
    record { content = sym (rw none at c.loop-blob.invariant.content); spelled = c.loop-blob.invariant.spelled c.loop-blob.group [] (rw none tt) refl }
