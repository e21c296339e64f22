use Rattle.std.proofs.Common.{◌≡◌, ◌∙◌, ◌∷◌, ◌++◌, List, ap, arith, length, ℕ}
use Rattle.cap_run.specs.Pieces.{joined}
use Rattle.cap_run.proofs.PieceLemmas.{copied, none_left, none_popped}
use Rattle.cap_run.proofs.pieces.Pieces.join.Goals as goal

pub loop-piece-init : goal.loop-piece-init
loop-piece-init g c = ap (λ (l : List ℕ). l ++ (joined c.self.inside.full.items ++ c.self.inside.last.items)) c.in_ok-bytes.ensures.items ∙ c.self.view_is

pub loop-piece-preserved : goal.loop-piece-preserved
loop-piece-preserved g c =
    copied c.loop-piece.full.items c.pop_front.new.self.items c.in-Some.piece c.loop-piece.bytes.items c.extend_from_slice.new.self.items c.self.inside.last.items c.args.self
    c.loop-piece.invariant c.in-Some.ensures.items (c.in_ok-extend_from_slice.ensures.items ∙ ap (λ (l : List ℕ). c.loop-piece.bytes.items ++ l) c.as_slice.ensures.value)

pub loop-piece-smaller : goal.loop-piece-smaller
loop-piece-smaller g c =
    let fewer : length c.loop-piece.full.items ≡ length (c.in-Some.piece ∷ c.pop_front.new.self.items) = ap length c.in-Some.ensures.items in omega (arith, fewer)

pub returns : goal.returns
returns g c =
    none_left c.loop-piece.full.items c.loop-piece.bytes.items c.extend_from_slice-2.new.self.items c.self.inside.last.items c.args.self c.loop-piece.invariant
    (none_popped c.pop_front.result c.loop-piece.full.items c.pop_front.new.self.items c.in_default.is c.pop_front.ensures.items c.pop_front.ensures.rest)
    (c.in_ok-extend_from_slice-2.ensures.items ∙ ap (λ (l : List ℕ). c.loop-piece.bytes.items ++ l) c.as_slice-2.ensures.value)
