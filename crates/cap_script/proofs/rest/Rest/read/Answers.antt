use Rattle.std.proofs.Common.{◌≡◌, ◌<◌, ℕ, List, [], ◌∷◌, ◌++◌, false, length, ap, arith, true, inl, inr, length-append, subst, sym}
use Rattle.cap_script.specs.Script.{IsCut, is_ignored}
use Rattle.cap_script.proofs.LineLemmas.{behind_line, cut_shorter, line_first, line_left, none_left, nothing_spelled}
use Rattle.cap_script.proofs.FirstLemmas.{behind_one_line, first_here, first_over, none_within, within_behind}
use Rattle.cap_script.proofs.LineLaws.{line_both}
use Rattle.cap_script.proofs.NoLines.{leaves_lines_map, no_first}
use Rattle.cap_script.proofs.rest.Rest.read.Goals as goal

-- a line that says something is not empty
said_some : (text line rest : List ℕ) → IsCut text line rest → is_ignored line ≡ false → 0 < length text
said_some (x ∷ text) line rest cut said = omega arith
said_some [] line rest (none, inl e) said =
    let long : length {A = ℕ} [] ≡ length (line ++ 10 ∷ rest) = ap length e in omega (arith, long, length-append line (10 ∷ rest))
said_some [] line rest (none, inr (e, end)) said =
    let bad : is_ignored [] ≡ false = subst (λ (l : List ℕ). is_ignored l ≡ false) (sym e) said in absurd cc

pub invariant_of-self : goal.invariant_of-self
invariant_of-self g c =
    let here = c.in-Some.ensures.here in
    let some = said_some c.next_text.new.self.text.now c.in-Some.text.now c.in-Some.behind.now here.0 here.1 in
    let less = cut_shorter c.next_text.new.self.text.now c.in-Some.text.now c.in-Some.behind.now here.0 some in
    record { few = omega (arith, c.next_text.new.self.few, less) }

pub returns-in-Ok-clause-left : goal.returns-in-Ok-clause-left
returns-in-Ok-clause-left g c =
    let here = c.in-Some.ensures.here in
    let some = said_some c.next_text.new.self.text.now c.in-Some.text.now c.in-Some.behind.now here.0 here.1 in
    let less = cut_shorter c.next_text.new.self.text.now c.in-Some.text.now c.in-Some.behind.now here.0 some in
    omega (arith, c.in-Some.ensures.left, less)

pub returns-in_default-clause-read : goal.returns-in_default-clause-read
returns-in_default-clause-read g c = λ limits. c.in_default.ensures.back limits [] (nothing_spelled g.row.A.Denot limits c.next_text.new.self.text.now c.in_default.ensures.here)

pub returns-in_default-clause-next : goal.returns-in_default-clause-next
returns-in_default-clause-next g c = λ limits lines spelled. none_left limits lines c.next_text.new.self.text.now c.in_default.ensures.here (c.in_default.ensures.passed limits lines spelled)

pub returns-in-Ok-clause-read : goal.returns-in-Ok-clause-read
returns-in-Ok-clause-read g c = λ limits lines spelled.
    let here = c.in-Some.ensures.here in
    c.in-Some.ensures.back limits (c.in-Ok.line ∷ lines)
    (line_first limits c.in-Ok.line lines c.next_text.new.self.text.now c.in-Some.text.now c.in-Some.behind.now here.0 (line_both limits c.in-Ok.line c.in-Some.text.now c.in-Ok.ensures.spelled c.in-Ok.ensures.within) spelled)

pub returns-in-Ok-clause-next : goal.returns-in-Ok-clause-next
returns-in-Ok-clause-next g c = λ limits lines spelled.
    let here = c.in-Some.ensures.here in
    behind_line limits c.one_filter.ensures c.in-Ok.line lines c.next_text.new.self.text.now c.in-Some.text.now c.in-Some.behind.now here.0 here.1 c.in-Ok.ensures.spelled (c.in-Some.ensures.passed limits lines spelled)

pub returns-in-Err-clause-next : goal.returns-in-Err-clause-next
returns-in-Err-clause-next g c = λ limits lines spelled.
    let here = c.in-Some.ensures.here in
    line_left limits lines c.next_text.new.self.text.now c.in-Some.text.now c.in-Some.behind.now here.0 here.1 (c.in-Some.ensures.passed limits lines spelled)

pub returns-in-Err-clause-none : goal.returns-in-Err-clause-none
returns-in-Err-clause-none g c =
    let here = c.in-Some.ensures.here in
    let passed = c.in-Some.ensures.passed in
    rw c.in_line.ensures
    (λ lines spelled. leaves_lines_map _ (λ within. passed true lines within)
    (no_first {A = g.row.A.Denot} c.in-Err.fault _ lines c.next_text.new.self.text.now c.in-Some.text.now c.in-Some.behind.now here.0 here.1 c.in-Err.ensures.none (passed false lines spelled)))

pub returns-in_default-clause-kept : goal.returns-in_default-clause-kept
returns-in_default-clause-kept g c = λ within. none_within {A = g.row.A.Denot} c.next_text.new.self.text.now c.in_default.ensures.here

pub returns-in-Ok-clause-kept : goal.returns-in-Ok-clause-kept
returns-in-Ok-clause-kept g c = λ (lines, spelled, within).
    let here = c.in-Some.ensures.here in
    within_behind {A = g.row.A.Denot} c.in-Ok.line lines c.in-Some.behind.now
    (behind_line false c.one_filter.ensures c.in-Ok.line lines c.next_text.new.self.text.now c.in-Some.text.now c.in-Some.behind.now here.0 here.1 c.in-Ok.ensures.spelled (c.in-Some.ensures.passed false lines spelled))
    (behind_line true c.one_filter.ensures c.in-Ok.line lines c.next_text.new.self.text.now c.in-Some.text.now c.in-Some.behind.now here.0 here.1 c.in-Ok.ensures.spelled (c.in-Some.ensures.passed true lines within))

pub returns-in-Ok-clause-later : goal.returns-in-Ok-clause-later
returns-in-Ok-clause-later g c = λ why so.
    let here = c.in-Some.ensures.here in
    c.in-Some.ensures.first why (behind_one_line {A = g.row.A.Denot} c.next_text.new.self.number why c.in-Ok.line c.next_text.new.self.text.now c.in-Some.text.now c.in-Some.behind.now here.0 c.in-Ok.ensures.spelled c.in-Ok.ensures.within so)

pub returns-in-Err-clause-kept : goal.returns-in-Err-clause-kept
returns-in-Err-clause-kept g c = λ (lines, spelled, within). (lines, c.in-Some.ensures.passed false lines spelled, c.in-Some.ensures.passed true lines within)

pub returns-in-Err-clause-first : goal.returns-in-Err-clause-first
returns-in-Err-clause-first g c =
    let here = c.in-Some.ensures.here in
    rw c.in_line.ensures
    (first_over {A = g.row.A.Denot} c.next_text.new.self.number c.args.self.now.number _ c.next_text.new.self.text.now c.args.self.now.text.now c.in-Some.ensures.first
    (first_here {A = g.row.A.Denot} c.in-Err.fault c.next_text.new.self.number c.next_text.new.self.text.now c.in-Some.text.now c.in-Some.behind.now here.0 here.1 c.in-Err.ensures.none c.in-Err.ensures.fault))
