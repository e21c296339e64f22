use Rattle.std.proofs.Common.{◌∙◌, [], ◌∷◌, arith, refl, sym, subst, List}
use Rattle.cap_run.specs.Code.Calls.{EachAt, IsWholeBlock}
use Rattle.cap_run.proofs.NextLemmas.{next_alone, next_block, next_refused, of_ended}
use Rattle.cap_run.proofs.SeatLemmas.{still_seats}
use Rattle.cap_replies.specs.declared.run_line.RunLine.{RunLine}
use Rattle.cap_run.proofs.workload.answer_next.Goals as goal

-- out of memory for the block
pub returns-in_default-clause-called : goal.returns-in_default-clause-called
returns-in_default-clause-called g c = λ rest spelled.
    next_refused c.args.shared.now.threads c.args.line rest _ _ _ _ refl

pub returns-then-is_some-clause-left : goal.returns-then-is_some-clause-left
returns-then-is_some-clause-left g c = of_ended c.answer_block.result.1 c.in-Ok.ensures.left

pub returns-then-is_some-clause-called : goal.returns-then-is_some-clause-called
returns-then-is_some-clause-called g c = λ rest spelled.
    let called = c.answer_block.ensures.called in
    let whole = subst (λ (l : List (RunLine g.row.A.Denot)). IsWholeBlock c.args.line rest l c.block_from.new.lines) (sym c.as_slice.ensures.value) (c.in-Ok.ensures.block rest spelled) in
    next_block c.args.shared.now.threads c.args.line rest c.as_slice.result.now c.answer_block.result.1 _ _ _ called.0 _ _ whole called.1 called.2

pub returns-clause-seats : goal.returns-clause-seats
returns-clause-seats g c =
    let called = c.answer_alone-outcome.ensures.called in
    still_seats c.args.shared.now.threads (c.args.line ∷ []) c.answer_alone-outcome.result called.0 _ _ called.2 c.requires.seats

pub returns-clause-left : goal.returns-clause-left
returns-clause-left g c = of_ended c.answer_alone-outcome.result (omega arith)

pub returns-clause-called : goal.returns-clause-called
returns-clause-called g c = λ rest spelled.
    next_alone c.args.shared.now.threads c.args.line rest c.answer_alone-outcome.result _ _ _ _ _ spelled c.answer_alone-outcome.ensures.called

-- each line of the block begins with `@`
pub answer_block-requires-clause-at : goal.answer_block-requires-clause-at
answer_block-requires-clause-at g c κs within =
    let spelled = c.requires.spelled in
    let whole = c.in-Ok.ensures.block spelled.0 spelled.1 in
    subst (λ (l : List (RunLine g.row.A.Denot)). EachAt l) (sym (c.as_slice.ensures.value ∙ whole.0.block_is)) (sym c.is_some.ensures ∙ c.if-is_some.true, whole.0.each)
