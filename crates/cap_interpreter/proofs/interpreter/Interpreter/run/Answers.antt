use Rattle.std.proofs.Common.{◌∙◌, ap, subst, sym}
use Rattle.cap_interpreter.specs.Code.Runs.{holding}
use Rattle.cap_interpreter.specs.Interpreter.{InterpreterState}
use Rattle.cap_interpreter.specs.Lines.{IsAt, IsFull}
use Rattle.cap_interpreter.proofs.interpreter.Interpreter.run.Goals as goal

pub returns-in-Ok-run_open-clause-ran : goal.returns-in-Ok-run_open-clause-ran
returns-in-Ok-run_open-clause-ran g c = λ course at.
    let held = ap (holding c.self.inside.core) c.in-Some.ensures.value ∙ c.self.view_is in
    c.in-Ok-run_open.ensures.1 course (subst (IsAt course) (sym held) at)

pub returns-in-Ok-run_open-clause-full : goal.returns-in-Ok-run_open-clause-full
returns-in-Ok-run_open-clause-full g c = λ full.
    let held = ap (holding c.self.inside.core) c.in-Some.ensures.value ∙ c.self.view_is in
    absurd (c.in-Ok-run_open.ensures.0 (subst (λ (s : InterpreterState g.row.A.Denot). IsFull s c.args.line.now) (sym held) full))
