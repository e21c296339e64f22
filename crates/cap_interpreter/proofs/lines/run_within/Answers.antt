use Rattle.std.proofs.Common.{ap}
use Rattle.std.specs.Prelude.{string_bytes}
use Rattle.cap_txn.specs.declared.answered_call.Asked.TheVariants as asked
use Rattle.cap_script.specs.declared.line.Show.{Show}
use Rattle.cap_interpreter.specs.Lines.{deed_within}
use Rattle.cap_interpreter.proofs.LineLemmas.{ran_call, serves_within}
use Rattle.cap_interpreter.proofs.lines.run_within.Goals as goal

pub serve_line-requires : goal.serve_line-requires
serve_line-requires g c = record {
  serves = serves_within c.args.txn c.args.line.now.line.show c.args.line.now.line.command c.in_default.not-Get c.in_default.not-Scan c.in_default.not-Step;
}

pub returns-in-Get : goal.returns-in-Get
returns-in-Get g c =
    let line = c.args.line.now in
    let txn = c.args.txn in
    let run = c.tell_answer.ensures in
    ran_call line c.args.core.now txn c.get-answer.new.txn (asked.Get c.in-Get.table c.in-Get.row) c.get-answer.result c.tell_answer.result (string_bytes c.args.output.now)
    (string_bytes c.tell_answer.new.output) (ap (λ (s : Show g.row.A.Denot). deed_within txn s line.line.command) c.in-Get.is) c.get-answer.ensures run.left run.text run.memory run.same

pub returns-in-Scan : goal.returns-in-Scan
returns-in-Scan g c =
    let line = c.args.line.now in
    let txn = c.args.txn in
    let run = c.tell_answer-in-Scan.ensures in
    ran_call line c.args.core.now txn c.scan-answer.new.txn (asked.Scan c.in-Scan.table) c.scan-answer.result c.tell_answer-in-Scan.result (string_bytes c.args.output.now)
    (string_bytes c.tell_answer-in-Scan.new.output) (ap (λ (s : Show g.row.A.Denot). deed_within txn s line.line.command) c.in-Scan.is) c.scan-answer.ensures run.left run.text run.memory run.same
