use Rattle.std.proofs.Crossing.{frees}
use Rattle.cap_test_options.proofs.WatchLemmas.{read_reported, write_reported}
use Rattle.cap_test_options.proofs.watched.serve_watched.Goals as goal

-- any thread may give memory of the heap back
pub run_workload-requires-clause-frees : goal.run_workload-requires-clause-frees
run_workload-requires-clause-frees g c κs within = frees

pub returns-clause-read : goal.returns-clause-read
returns-clause-read g c = λ failed.
    read_reported (λ watched. watched.has_failed) c.run_workload.result c.args.reader.now c.run_workload.new.reader c.run_workload.ensures.read_reported c.requires.reader failed

pub returns-clause-write : goal.returns-clause-write
returns-clause-write g c = λ failed.
    write_reported (λ watched. watched.has_failed) c.run_workload.result c.args.writer.now c.run_workload.new.writer c.run_workload.ensures.write_reported c.requires.writer failed
