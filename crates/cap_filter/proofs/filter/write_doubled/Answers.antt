use Rattle.std.proofs.Common.{◌++◌, string_bytes, sym, ap, ◌∙◌, rules}
use Rattle.cap_filter.specs.Printed.{double_quotes}
use Rattle.cap_filter.proofs.PrintedLemmas.{begins_more, one_piece_more, last_piece}
use Rattle.cap_filter.proofs.filter.write_doubled.Goals as goal

pub loop-piece-preserved : goal.loop-piece-preserved
loop-piece-preserved g c =
    let out = string_bytes c.loop-piece.out in
    let piece = c.in-Some.piece.now in
    let after = c.in-Some.after.now in
    let so_far = ap (λ l. out ++ double_quotes l) (sym c.in-Some.ensures.1) ∙ c.loop-piece.invariant.1 in (
      search rules,
      one_piece_more out piece after (double_quotes c.args.word.now) (string_bytes c.args.out.now) _ _ c.in-Some.ensures.0 so_far c.in_ok-push_str.ensures.bytes c.in_ok-push_str-2.ensures.bytes,
      begins_more (string_bytes c.args.out.now) out piece _ _ _ c.loop-piece.invariant.2 c.in_ok-push_str.ensures.bytes c.in_ok-push_str-2.ensures.bytes,
    )

pub returns-clause-text : goal.returns-clause-text
returns-clause-text g c =
    last_piece (string_bytes c.loop-piece.out) c.loop-piece.rest.now c.args.word.now (string_bytes c.args.out.now) _ _ c.in_default.ensures c.loop-piece.invariant.1 c.in_ok-push_str-3.ensures.bytes c.in_ok-push_str-4.ensures.bytes
