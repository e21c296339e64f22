use Rattle.std.proofs.Common.{◌++◌, List, ℕ, ap, ◌∙◌}
use Rattle.std.specs.Prelude.{string_bytes}
use Rattle.cap_interpreter.specs.Interpreter.{InterpreterState}
use Rattle.cap_interpreter.specs.Lines.{IsFull, on_a_line, text_of}
use Rattle.cap_locked.specs.Fault.{MatchCallFault}
use Rattle.cap_locked.specs.declared.fault.CallFault.{CallFault}
use Rattle.cap_locked.specs.declared.fault.CallFault.TheVariants as call
use Rattle.cap_replies.specs.Lines.{run_line}
use Rattle.cap_replies.specs.declared.run_line.ReplyForm.TheVariants.{Text}
use Rattle.cap_replies.specs.declared.run_line.RunLine.{RunLine}
use Rattle.cap_run.specs.Code.Shell.{MayEnd}
use Rattle.cap_run.proofs.ShellLemmas.{answered_command}
use Rattle.cap_run.proofs.shell.answer_command.Goals as goal

pub returns-in-Ok-clause-answered : goal.returns-in-Ok-clause-answered
returns-in-Ok-clause-answered g c = λ course so.
    let line = c.args.line in
    let ran = c.in-Ok.ensures.ran course so in
    let text = on_a_line (text_of course (run_line Text c.args.number line)) in
    answered_command c.args.number c.args.text.now line course c.run.new.self (string_bytes c.run.new.output) (string_bytes c.new.result)
    c.utf8.text c.requires.found ran.0 (ran.1 ∙ ap (λ (t : List ℕ). t ++ text) c.new-reply.ensures.bytes) c.new.ensures.bytes

-- a line that was not run ends the shell so
may_end : {A : Type 0} (fault : CallFault) (state : InterpreterState A) (line : RunLine A) → MatchCallFault fault (Unit {0}) (λ front. ⊥) (IsFull state line) → MayEnd fault state
may_end call.OutOfMemory state line so = tt
may_end (call.Overtaken front) state line so = so
may_end call.HistoryFull state line so = so.1

pub returns-clause-ended : goal.returns-clause-ended
returns-clause-ended g c = may_end c.in-Err.fault c.args.interpreter.now (run_line Text c.args.number c.args.line) c.in-Err.ensures.fault
