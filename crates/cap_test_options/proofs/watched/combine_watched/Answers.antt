use Rattle.cap_test_options.proofs.WatchLemmas.{read_reported, write_reported}
use Rattle.cap_test_options.proofs.watched.combine_watched.Goals as goal

pub returns-clause-read : goal.returns-clause-read
returns-clause-read g c = λ failed.
    read_reported (λ watched. watched.has_failed) c.combine_blobs.result c.args.reader.now c.combine_blobs.new.reader c.combine_blobs.ensures.read_reported c.requires.reader failed

pub returns-clause-write : goal.returns-clause-write
returns-clause-write g c = λ failed.
    write_reported (λ watched. watched.has_failed) c.combine_blobs.result c.args.writer.now c.combine_blobs.new.writer c.combine_blobs.ensures.write_reported c.requires.writer failed
