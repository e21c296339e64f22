use Rattle.std.proofs.Common.{◌++◌, List, ℕ, ap, string_bytes, ◌∙◌}
use Rattle.cap_run.proofs.WorkerLemmas.{answered_of}
use Rattle.cap_run.proofs.worker.call_line.Goals as goal

pub returns-clause-ok : goal.returns-clause-ok
returns-clause-ok g c =
    let so = c.in_ok-call_printing.ensures.called in
    let text = string_bytes c.call_printing.new.made in
    (text, c.append_made.ensures ∙ ap (λ (t : List ℕ). t ++ text) c.in_ok-call_printing.ensures.same, answered_of c.args.line.now text so.0 _ _ so.1 so.2)
