use Rattle.std.proofs.Common.{◌∙◌, ◌++◌, ℕ, true, false, List, ap, eqb, subst, sym}
use Rattle.std.proofs.Math.Logic.{∥∥₁_map}
use Rattle.cap_script.specs.Script.{SpellsScript, begins_at}
use Rattle.cap_language.specs.Tokens.{begins}
use Rattle.cap_script.specs.declared.line.Line.{Line}
use Rattle.cap_script.proofs.LineLemmas.{begins_line, none_left}
use Rattle.cap_script.proofs.lines.Lines.begins_at.Goals as goal

pub returns-clause-next : goal.returns-clause-next
returns-clause-next g c = λ lines spelled.
    let left = c.in-Some.ensures.passed false lines (subst (λ (t : List ℕ). SpellsScript lines t) (sym c.self.view_is) spelled) in
    let here = c.in-Some.ensures.here in
    let first = begins_line false lines c.next_text.new.self.text.now c.in-Some.text.now c.in-Some.field-0-1.now here.0 here.1 left in
    (c.begins_worker.ensures ∙ ap (begins (λ byte. eqb byte 64)) c.after_blanks.ensures ∙ first, left)

pub returns-in_default-clause-next : goal.returns-in_default-clause-next
returns-in_default-clause-next g c = λ lines spelled.
    let left = c.in_default.ensures.passed false lines (subst (λ (t : List ℕ). SpellsScript lines t) (sym c.self.view_is) spelled) in
    (sym (ap (λ (ls : List (Line g.row.A.Denot)). begins_at ls) (none_left false lines c.next_text.new.self.text.now c.in_default.ensures.here left)), left)

-- without the ignored lines the text spells the same lines
pub invariant_of-self : goal.invariant_of-self
invariant_of-self g c = ∥∥₁_map c.self.invariant (λ (others, spelled, within).
    (others, c.in_default.ensures.passed false (c.self.inside.kept.items ++ others) spelled, c.in_default.ensures.passed true (c.self.inside.kept.items ++ others) within))

pub invariant_of-self-2 : goal.invariant_of-self-2
invariant_of-self-2 g c = ∥∥₁_map c.self.invariant (λ (others, spelled, within).
    (others, c.in-Some.ensures.passed false (c.self.inside.kept.items ++ others) spelled, c.in-Some.ensures.passed true (c.self.inside.kept.items ++ others) within))
