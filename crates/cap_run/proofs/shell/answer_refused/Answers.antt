use Rattle.std.proofs.Common.{refl}
use Rattle.std.specs.Prelude.{string_bytes}
use Rattle.cap_script.specs.FaultText.{fault_text}
use Rattle.cap_interpreter.specs.Lines.{on_a_line}
use Rattle.cap_run.specs.Shell.{Refused}
use Rattle.cap_run.proofs.ShellLemmas.{no_command}
use Rattle.cap_run.proofs.shell.answer_refused.Goals as goal

pub returns-in-Refused-clause-answered : goal.returns-in-Refused-clause-answered
returns-in-Refused-clause-answered g c = λ course so.
    no_command (λ p. string_bytes p.reply) (λ p. string_bytes p.fault) c.args.number c.args.text.now (Refused c.in-Refused.why)
    (on_a_line (fault_text c.in-Refused.why)) c.printed_script_fault.result course c.args.interpreter.now refl refl (c.utf8.text, rw c.in-Refused.is at c.requires.fault) so c.printed_script_fault.ensures.fault
