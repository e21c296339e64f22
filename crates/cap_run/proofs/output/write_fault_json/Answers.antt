use Rattle.cap_run.specs.Run.{call_fault_text}
use Rattle.cap_run.proofs.output.write_fault_json.Goals as goal

pub returns-in-HistoryFull-clause-ok : goal.returns-in-HistoryFull-clause-ok
unfolding call_fault_text
returns-in-HistoryFull-clause-ok g c = rw c.in-HistoryFull.is c.write_whole-in-HistoryFull.ensures.ok
