use Rattle.cap_test_options.proofs.WatchLemmas.{first_reported, read_reported, second_reported}
use Rattle.cap_test_options.proofs.watched.shell_watched.Goals as goal

pub returns-clause-read : goal.returns-clause-read
returns-clause-read g c = λ failed.
    read_reported (λ watched. watched.has_failed) c.run_shell.result c.args.reader.now c.run_shell.new.reader c.run_shell.ensures.read_reported c.requires.reader failed

pub returns-clause-write_replies : goal.returns-clause-write_replies
returns-clause-write_replies g c = λ failed.
    first_reported (λ watched. watched.has_failed) (λ watched. watched.has_failed) c.run_shell.result c.args.replies.now c.run_shell.new.replies c.args.faults.now c.run_shell.new.faults c.run_shell.ensures.write_reported c.requires.replies failed

pub returns-clause-write_faults : goal.returns-clause-write_faults
returns-clause-write_faults g c = λ failed.
    second_reported (λ watched. watched.has_failed) (λ watched. watched.has_failed) c.run_shell.result c.args.replies.now c.run_shell.new.replies c.args.faults.now c.run_shell.new.faults c.run_shell.ensures.write_reported c.requires.faults failed
