use Rattle.std.proofs.Common.{ℕ, Bool, true, false, List, [], Option, subst, sym}
use Rattle.cap_script.specs.FirstRefused.{IsFirstRefused}
use Rattle.cap_script.specs.Kept.{SpellsKept}
use Rattle.cap_script.specs.LineLimits.{AreWithinLimits}
use Rattle.cap_script.specs.RefusedLines.{NoLines}
use Rattle.cap_script.specs.Script.{IsRead, SpellsScript}
use Rattle.cap_script.specs.declared.line.Line.{Line}
use Rattle.cap_script.proofs.FirstLemmas.{one_line_more}
use Rattle.cap_script.proofs.KeptLemmas.{kept_all, keeps_line, keeps_nothing}
use Rattle.cap_script.proofs.NoLines.{none_left_over, passed_on}
use Rattle.cap_script.proofs.lines.Lines.new.Goals as goal

pub loop-kept-init : goal.loop-kept-init
loop-kept-init g c = (
  (
    λ lines spelled within. (lines, subst (λ (t : List ℕ). SpellsScript lines t) c.new-rest.ensures.text spelled, subst (λ (t : List ℕ). AreWithinLimits lines t) c.new-rest.ensures.text within),
    λ lines spelled. (lines, rw c.new-rest.ensures.text spelled, λ within. rw c.new-rest.ensures.text within),
    λ why so. subst (λ (t : List ℕ). IsFirstRefused g.row.A.Denot 1 why t) c.new-rest.ensures.text (subst (λ (n : ℕ). IsFirstRefused g.row.A.Denot n why c.new-rest.result.text.now) c.new-rest.ensures.number so),
  ),
  keeps_nothing {A = g.row.A.Denot} c.kept_most-most.result c.new-kept.result.items c.new-rest.result.text.now c.args.text.now c.new-kept.ensures.items c.new-rest.ensures.text,
)

pub loop-kept-preserved : goal.loop-kept-preserved
loop-kept-preserved g c = (
  one_line_more g.row.A.Denot c.in-Some.line c.in_ok-line.field-0 c.loop-kept.rest.number c.read.new.self.number c.loop-kept.rest.text.now c.read.new.self.text.now c.args.text.now c.in-Some.is c.in_ok-line.ensures.read
      c.in_ok-line.ensures.next c.in_ok-line.ensures.later c.loop-kept.invariant.0,
  keeps_line {A = g.row.A.Denot} c.kept_most-most.result c.loop-kept.kept.items c.keep.new.kept.items c.in-Some.line c.loop-kept.rest.text.now c.read.new.self.text.now c.args.text.now c.in_ok-keep.ensures.kept
      (λ limits. subst (λ (o : Option (Line g.row.A.Denot)). IsRead limits o c.loop-kept.rest.text.now c.read.new.self.text.now) c.in-Some.is (c.in_ok-line.ensures.read limits)) c.loop-kept.invariant.1,
)

pub returns-clause-within : goal.returns-clause-within
returns-clause-within g c =
    let read = λ (limits : Bool). subst (λ (o : Option (Line g.row.A.Denot)). IsRead limits o c.loop-kept.rest.text.now c.read.new.self.text.now) c.in_default.is (c.in_ok-line.ensures.read limits) in
    c.loop-kept.invariant.0.0 [] (read false) (read true)

pub returns-clause-spelled : goal.returns-clause-spelled
returns-clause-spelled g c =
    let read = λ (limits : Bool). subst (λ (o : Option (Line g.row.A.Denot)). IsRead limits o c.loop-kept.rest.text.now c.read.new.self.text.now) c.in_default.is (c.in_ok-line.ensures.read limits) in
    let within = c.loop-kept.invariant.0.0 [] (read false) (read true) in
    (within.0, within.1)

pub invariant_of-result : goal.invariant_of-result
invariant_of-result g c =
    let read = λ (limits : Bool). subst (λ (o : Option (Line g.row.A.Denot)). IsRead limits o c.loop-kept.rest.text.now c.read.new.self.text.now) c.in_default.is (c.in_ok-line.ensures.read limits) in
    let kept = kept_all {A = g.row.A.Denot} c.kept_most-most.result c.loop-kept.kept.items c.loop-kept.rest.text.now c.args.text.now read c.loop-kept.invariant.1 in
    ∣ subst (λ (t : List ℕ). SpellsKept c.loop-kept.kept.items t) (sym c.new.ensures.text) kept ∣₁

pub returns-in_err-line-clause-none : goal.returns-in_err-line-clause-none
returns-in_err-line-clause-none g c =
    passed_on c.from_residual.result c.in_err-line.field-0.0 (λ fault. NoLines g.row.A.Denot fault c.args.text.now) c.from_residual.ensures.1
    (none_left_over {A = g.row.A.Denot} c.in_err-line.field-0.0 c.args.text.now c.loop-kept.rest.text.now c.loop-kept.invariant.0.1 c.in_err-line.ensures.none)
