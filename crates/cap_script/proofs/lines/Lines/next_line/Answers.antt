use Rattle.std.proofs.Common.{◌<◌, ◌++◌, ℕ, List, false, true, length, IfSome, subst, sym}
use Rattle.std.proofs.Math.Logic.{∥∥₁_elim, ∥∥₁_map}
use Rattle.std.specs.Coded.{le_prop}
use base.Stored.{Coded-set}
use mathlib.Core.HLevel.{⊥_prop}
use Rattle.cap_value.specs.declared.memory.Fault.{Fault}
use Rattle.cap_script.specs.Kept.{SpellsKept}
use Rattle.cap_script.specs.LineLimits.{AreWithinLimits}
use Rattle.cap_script.specs.RefusedLines.{LeavesLines}
use Rattle.cap_script.specs.Script.{SpellsScript}
use Rattle.cap_script.specs.contracts.line.Line as LineRow
use Rattle.cap_script.specs.declared.fault.ScriptFault.{ScriptFault}
use Rattle.cap_script.specs.declared.line.Line.{Line}
use Rattle.cap_script.proofs.FirstLemmas.{never_refused}
use Rattle.cap_script.proofs.KeptLemmas.{kept_first, kept_none, nothing_kept, within_kept}
use Rattle.cap_script.proofs.lines.Lines.next_line.Goals as goal

-- ---- a line that is kept

pub invariant_of-self : goal.invariant_of-self
invariant_of-self g c =
    let kept = subst (λ (ks : List (Line g.row.A.Denot)). ∥ SpellsKept ks c.self.inside.rest.text.now ∥₁) c.in-Some.ensures.items c.self.invariant in
    ∥∥₁_map kept (λ (others, all, within).
    (others, c.pass.ensures.others false c.in-Some.line (c.pop_front.new.self.items ++ others) all, c.pass.ensures.others true c.in-Some.line (c.pop_front.new.self.items ++ others) within))

pub returns-in-Some-clause-next : goal.returns-in-Some-clause-next
returns-in-Some-clause-next g c = λ lines spelled.
    let kept = subst (λ (ks : List (Line g.row.A.Denot)). ∥ SpellsKept ks c.self.inside.rest.text.now ∥₁) c.in-Some.ensures.items c.self.invariant in
    kept_first {A = g.row.A.Denot} c.one_filter.ensures (Coded-set (LineRow.the_row g.row.A g.A.AllocHandle g.A.Allocator g.A.Clone).coded) c.in-Some.line c.pop_front.new.self.items lines c.self.inside.rest.text.now c.pass.new.self.text.now
    kept (c.pass.ensures.others false) (subst (λ (t : List ℕ). SpellsScript lines t) (sym c.self.view_is) spelled)

pub returns-in-Some-clause-left : goal.returns-in-Some-clause-left
returns-in-Some-clause-left g c =
    let kept = subst (λ (ks : List (Line g.row.A.Denot)). ∥ SpellsKept ks c.self.inside.rest.text.now ∥₁) c.in-Some.ensures.items c.self.invariant in
    subst (λ (t : List ℕ). length c.pass.new.self.text.now < length t) c.self.view_is
    (∥∥₁_elim kept le_prop (λ (others, all, within). c.pass.ensures.left false c.in-Some.line (c.pop_front.new.self.items ++ others) all))

-- ---- a line that is read again

-- what was parsed once is not refused
pub unreachable-requires : goal.unreachable-requires
unreachable-requires g c = ∥∥₁_elim c.self.invariant ⊥_prop (λ so.
    let (lines, spelled, within) = within_kept {A = g.row.A.Denot} c.self.inside.kept.items c.self.inside.rest.text.now so in
    never_refused c.in-Err-Refused.field-0-0 (AreWithinLimits lines c.self.inside.rest.text.now) within
    (subst (λ (fault : Fault ScriptFault). LeavesLines fault (AreWithinLimits lines c.self.inside.rest.text.now)) c.in-Err-Refused.field-0-is (c.in-Err-Refused.ensures.none lines spelled)))

pub invariant_of-self-in-Ok : goal.invariant_of-self-in-Ok
invariant_of-self-in-Ok g c =
    let none = nothing_kept {A = g.row.A.Denot} c.self.inside.kept.items c.pop_front.new.self.items c.in_default.ensures.items c.pop_front.ensures.rest in
    ∥∥₁_map c.self.invariant (λ so.
    kept_none {A = g.row.A.Denot} c.pop_front.new.self.items c.read.new.self.text.now none (c.read.ensures.kept (within_kept {A = g.row.A.Denot} c.self.inside.kept.items c.self.inside.rest.text.now so)))

pub invariant_of-self-in-Err-OutOfMemory : goal.invariant_of-self-in-Err-OutOfMemory
invariant_of-self-in-Err-OutOfMemory g c =
    let none = nothing_kept {A = g.row.A.Denot} c.self.inside.kept.items c.pop_front.new.self.items c.in_default.ensures.items c.pop_front.ensures.rest in
    ∥∥₁_map c.self.invariant (λ so.
    kept_none {A = g.row.A.Denot} c.pop_front.new.self.items c.read.new.self.text.now none (c.read.ensures.kept (within_kept {A = g.row.A.Denot} c.self.inside.kept.items c.self.inside.rest.text.now so)))

pub returns-in-Ok-clause-next : goal.returns-in-Ok-clause-next
returns-in-Ok-clause-next g c = λ lines spelled.
    c.in-Ok.ensures.next false lines (subst (λ (t : List ℕ). SpellsScript lines t) (sym c.self.view_is) spelled)

pub returns-in-Ok-clause-left : goal.returns-in-Ok-clause-left
returns-in-Ok-clause-left g c =
    subst (λ (t : List ℕ). IfSome c.in-Ok.found (λ line. length c.read.new.self.text.now < length t)) c.self.view_is c.in-Ok.ensures.left

pub returns-in-Err-OutOfMemory-clause-next : goal.returns-in-Err-OutOfMemory-clause-next
returns-in-Err-OutOfMemory-clause-next g c = λ lines spelled.
    c.in-Err-OutOfMemory.ensures.next false lines (subst (λ (t : List ℕ). SpellsScript lines t) (sym c.self.view_is) spelled)
