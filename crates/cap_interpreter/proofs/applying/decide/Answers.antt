use Rattle.std.specs.Prelude.{string_bytes}
use Rattle.cap_interpreter.proofs.ApplyingLemmas.{answer_led, answer_memory, answer_refused, refused_is}
use Rattle.std.proofs.Common.{◌≡◌, rules}
use Rattle.cap_value.specs.declared.memory.Fault.TheVariants as fault
use Rattle.cap_interpreter.specs.Application.{answered_from}
use Rattle.cap_interpreter.proofs.applying.decide.Goals as goal

pub returns-in-Ok : goal.returns-in-Ok
returns-in-Ok g c =
    let run = c.stand.ensures in
    answer_led c.args.line.now c.args.app c.args.answer c.in-Ok.app c.stand.result (string_bytes c.args.output.now) (string_bytes c.stand.new.output) c.requires.conflict c.in-Ok.ensures (run.left, run.text, run.memory, run.same)

pub returns-in-Err-Refused : goal.returns-in-Err-Refused
returns-in-Err-Refused g c =
    let run = c.close.ensures in
    let is : c.in-Err-Refused.field-0 ≡ fault.Refused c.in-Err-Refused.why = search rules in
    let made = refused_is (answered_from c.args.answer c.args.app) c.in-Err-Refused.field-0 c.in-Err-Refused.why is c.in-Err-Refused.ensures in
    answer_refused c.args.line.now c.args.app c.args.answer c.in-Err-Refused.why c.close.result (string_bytes c.args.output.now) (string_bytes c.close.new.output) c.requires.conflict made (run.left, run.text, run.memory, run.same)

pub returns-in-Err-OutOfMemory : goal.returns-in-Err-OutOfMemory
returns-in-Err-OutOfMemory g c = answer_memory c.args.line.now c.args.app c.args.answer (string_bytes c.args.output.now)
