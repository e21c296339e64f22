use Rattle.std.proofs.Common.{◌++◌, codes, refl, rules}
use Rattle.std.specs.Prelude.{decimal, string_bytes}
use Rattle.cap_interpreter.specs.Lines.{on_a_line}
use Rattle.cap_run.specs.Shell.{NoText}
use Rattle.cap_run.proofs.ShellLemmas.{no_command}
use Rattle.cap_run.proofs.shell.answer_line.Goals as goal

pub returns-in-Err-clause-answered : goal.returns-in-Err-clause-answered
returns-in-Err-clause-answered g c = λ course so.
    no_command (λ p. string_bytes p.reply) (λ p. string_bytes p.fault) c.args.number c.args.line.now NoText
    (on_a_line (codes "line " ++ (decimal c.args.number ++ codes ": not UTF-8"))) c.printed_not_utf8.result course c.args.interpreter.now refl refl (search rules) so c.printed_not_utf8.ensures.fault
