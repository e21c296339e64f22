use Rattle.std.proofs.Common.{◌≡◌, ◌++◌, ◌∷◌, [], List, ℕ, ap, map, string_bytes, ◌∙◌}
use Rattle.std.specs.Prelude.{String}
use Rattle.cap_run.proofs.WorkerLemmas.{texts_more}
use Rattle.cap_run.proofs.worker.answer_own.Goals as goal

pub returns-clause-ok : goal.returns-clause-ok
returns-clause-ok g c =
    let so = c.in_ok-answer.ensures.ok in
    let text = c.call_line-answer.new.output in
    let is : string_bytes text ≡ so.0 = so.1 ∙ ap (λ (t : List ℕ). t ++ so.0) c.new-text.ensures.bytes in
    let pushed = c.push_reserved.ensures.items ∙ ap (λ (ts : List (String g.row.A.Denot)). ts ++ text ∷ []) c.reserve.ensures.items in
    (so.0, so.2, ap (λ (ts : List (String g.row.A.Denot)). map string_bytes ts) pushed ∙ texts_more c.args.worker.now.texts.items text so.0 is)
