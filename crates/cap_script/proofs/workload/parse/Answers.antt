use Rattle.std.proofs.Common.{Bool, true, false, List, ℕ, [], ◌∷◌, Option, IfSome, subst}
use Rattle.cap_script.specs.FirstRefused.{IsFirstRefused, FaultOfFirstRefused}
use Rattle.cap_script.specs.LineLimits.{AreWithinLimits}
use Rattle.cap_script.specs.RefusedLines.{NoLines}
use Rattle.cap_script.specs.Script.{IsRead, ScriptSpelled, TakesFirstBy}
use Rattle.cap_script.specs.declared.fault.ScriptFault.{ScriptFault}
use Rattle.cap_script.specs.declared.line.Line.{Line}
use Rattle.cap_script.proofs.FirstLemmas.{first_memory, first_over}
use Rattle.cap_script.proofs.NoLines.{left_behind, no_memory_left, none_left_over, passed_on}
use Rattle.cap_script.proofs.SpellLemmas.{no_more, one_more}
use Rattle.cap_script.proofs.workload.parse.Goals as goal

pub loop-lines-init : goal.loop-lines-init
loop-lines-init g c = (
  λ limits more spelled. rw c.new-lines.ensures.items (subst (λ (t : List ℕ). ScriptSpelled limits more t) c.new-rest.ensures.text spelled),
  λ lines spelled. (lines, rw c.new-rest.ensures.text spelled, λ within. rw c.new-rest.ensures.text within),
  λ why so. subst (λ (t : List ℕ). IsFirstRefused g.row.A.Denot 1 why t) c.new-rest.ensures.text (subst (λ (n : ℕ). IsFirstRefused g.row.A.Denot n why c.new-rest.result.text.now) c.new-rest.ensures.number so),
)

pub loop-lines-preserved : goal.loop-lines-preserved
loop-lines-preserved g c = (
  λ limits more spelled.
      let read = subst (λ (o : Option (Line g.row.A.Denot)). IsRead limits o c.loop-lines.rest.text.now c.read.new.self.text.now) c.in-Some.is (c.in_ok-line.ensures.read limits) in
      one_more (λ (ls : List (Line g.row.A.Denot)). ScriptSpelled limits ls c.args.text.now) c.loop-lines.lines.items c.push_line.new.lines.items more c.in-Some.line c.in_ok-push_line.ensures.pushed
      (c.loop-lines.invariant.0 limits (c.in-Some.line ∷ more) (read more spelled)),
  λ lines spelled.
      let (left, here, within) = c.loop-lines.invariant.1 lines spelled in
      let takes = λ (limits : Bool) (now : ScriptSpelled limits left c.loop-lines.rest.text.now). subst (λ (o : Option (Line g.row.A.Denot)). TakesFirstBy limits o left c.read.new.self.text.now) c.in-Some.is (c.in_ok-line.ensures.next limits left now) in
      left_behind {A = g.row.A.Denot} c.in-Some.line left c.read.new.self.text.now (AreWithinLimits lines c.args.text.now) (AreWithinLimits left c.loop-lines.rest.text.now) within (takes false here) (takes true),
  λ why so.
      let later = subst (λ (o : Option (Line g.row.A.Denot)). IfSome o (λ line. (why : ScriptFault) → IsFirstRefused g.row.A.Denot c.read.new.self.number why c.read.new.self.text.now → IsFirstRefused g.row.A.Denot c.loop-lines.rest.number why c.loop-lines.rest.text.now)) c.in-Some.is c.in_ok-line.ensures.later in
      c.loop-lines.invariant.2 why (later why so),
)

pub returns-clause-spelled : goal.returns-clause-spelled
returns-clause-spelled g c =
    let read = subst (λ (o : Option (Line g.row.A.Denot)). IsRead false o c.loop-lines.rest.text.now c.read.new.self.text.now) c.in_default.is (c.in_ok-line.ensures.read false) in
    no_more (λ (ls : List (Line g.row.A.Denot)). ScriptSpelled false ls c.args.text.now) c.loop-lines.lines.items (c.loop-lines.invariant.0 false [] read)

pub returns-clause-within : goal.returns-clause-within
returns-clause-within g c =
    let read = subst (λ (o : Option (Line g.row.A.Denot)). IsRead true o c.loop-lines.rest.text.now c.read.new.self.text.now) c.in_default.is (c.in_ok-line.ensures.read true) in
    no_more (λ (ls : List (Line g.row.A.Denot)). ScriptSpelled true ls c.args.text.now) c.loop-lines.lines.items (c.loop-lines.invariant.0 true [] read)

pub returns-in_err-line-clause-none : goal.returns-in_err-line-clause-none
returns-in_err-line-clause-none g c =
    passed_on c.from_residual.result c.in_err-line.field-0.0 (λ fault. NoLines g.row.A.Denot fault c.args.text.now) c.from_residual.ensures.1
    (none_left_over {A = g.row.A.Denot} c.in_err-line.field-0.0 c.args.text.now c.loop-lines.rest.text.now c.loop-lines.invariant.1 c.in_err-line.ensures.none)

pub returns-in_err-push_line-clause-none : goal.returns-in_err-push_line-clause-none
returns-in_err-push_line-clause-none g c =
    passed_on c.from_residual-in_err-push_line.result c.in_err-push_line.field-0.0 (λ fault. NoLines g.row.A.Denot fault c.args.text.now) c.from_residual-in_err-push_line.ensures.1
    (no_memory_left {A = g.row.A.Denot} c.in_err-push_line.field-0.0 c.args.text.now c.in_err-push_line.ensures.memory)

pub returns-in_err-line-clause-first : goal.returns-in_err-line-clause-first
returns-in_err-line-clause-first g c =
    passed_on c.from_residual.result c.in_err-line.field-0.0 (λ fault. FaultOfFirstRefused g.row.A.Denot 1 fault c.args.text.now) c.from_residual.ensures.1
    (first_over {A = g.row.A.Denot} c.loop-lines.rest.number 1 c.in_err-line.field-0.0 c.loop-lines.rest.text.now c.args.text.now c.loop-lines.invariant.2 c.in_err-line.ensures.first)

pub returns-in_err-push_line-clause-first : goal.returns-in_err-push_line-clause-first
returns-in_err-push_line-clause-first g c =
    passed_on c.from_residual-in_err-push_line.result c.in_err-push_line.field-0.0 (λ fault. FaultOfFirstRefused g.row.A.Denot 1 fault c.args.text.now) c.from_residual-in_err-push_line.ensures.1
    (first_memory g.row.A.Denot 1 c.in_err-push_line.field-0.0 c.args.text.now c.in_err-push_line.ensures.memory)
