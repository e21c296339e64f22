use Rattle.std.proofs.Common.{◌≡◌, ◌+◌, ◌≤◌, length}
use Rattle.cap_run.specs.BlobList.{texts_in}
use Rattle.cap_run.specs.Combination.{texts_added}
use Rattle.cap_run.proofs.blob_list.add_blobs.Given as goal

-- the blobs that are left give what all of them give
abbrev pub invariant-loop-rest : goal.invariant-loop-rest
invariant-loop-rest g l = record {
  content : texts_added g.B.AddBlob.added l.encoding l.number l.to (texts_in l.encoding l.rest) ≡ texts_added g.B.AddBlob.added l.encoding l.first l.fn.to (texts_in l.encoding l.given);
  few : l.number + length l.rest ≤ length l.given + 2;
}

abbrev pub decreases-loop-rest : goal.decreases-loop-rest
decreases-loop-rest g l = length l.rest
