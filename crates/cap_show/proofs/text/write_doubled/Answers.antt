use Rattle.std.proofs.Common.{[], ◌∷◌, ◌++◌, refl, rules}
use Rattle.std.proofs.Output.{has_written_append, has_written_of_eq}
use Rattle.cap_show.proofs.TextLemmas.{one_piece}
use Rattle.cap_show.proofs.text.write_doubled.Goals as goal

pub loop-piece-init : goal.loop-piece-init
loop-piece-init g c = (search rules, λ plain. ([], search rules, refl))

pub loop-piece-preserved : goal.loop-piece-preserved
loop-piece-preserved g c = (
  search rules,
  λ plain.
      let so_far = c.loop-piece.invariant.1 plain in (
        so_far.0 ++ (c.in-Some.piece.now ++ c.args.quote ∷ c.args.quote ∷ []),
        has_written_append _ _ _ _ _ _ so_far.1 (search rules),
        one_piece so_far.0 c.in-Some.piece.now _ _ _ c.args.quote c.in-Some.ensures.1 so_far.2,
      ),
)

pub returns : goal.returns
returns g c = λ plain ok.
    let so_far = c.loop-piece.invariant.1 plain in
    has_written_of_eq _ _ _ _ _ (rw c.in_default.ensures at so_far.2) (has_written_append _ _ _ _ _ _ so_far.1 (c.write_str.ensures.writes so_far.1.plain ok))
