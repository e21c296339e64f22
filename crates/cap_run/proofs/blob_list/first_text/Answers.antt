use Rattle.std.proofs.Common.{sym}
use Rattle.cap_run.proofs.BlobListLemmas.{frame_first}
use Rattle.cap_run.proofs.blob_list.first_text.Goals as goal

pub returns-in-Some-clause-first : goal.returns-in-Some-clause-first
returns-in-Some-clause-first c =
    rw c.in-Binary.is (frame_first c.args.given.now (c.in-Some.blob.now, c.in-Some.behind.now) c.requires.some (sym c.in-Some.ensures))
