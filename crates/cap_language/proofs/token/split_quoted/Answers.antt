use Rattle.std.proofs.Common.{◌≡◌, ◌++◌, ◌∷◌, [], List, ℕ, string_bytes, ap, ◌∙◌, rules}
use Rattle.cap_language.proofs.ScanLaws.{quote_more}
use Rattle.cap_language.proofs.token.split_quoted.Goals as goal

pub loop-piece-preserved : goal.loop-piece-preserved
loop-piece-preserved g c =
    let made : string_bytes c.push_str-in-Some.new.self ≡ (string_bytes c.loop-piece.word ++ c.in-Some.piece.now) ++ 39 ∷ [] =
    c.in_ok-push_str-2.ensures.bytes ∙ ap (λ (w : List ℕ). w ++ 39 ∷ []) c.in_ok-push_str.ensures.bytes in
    (search rules, rw made (quote_more c.args.text.now (string_bytes c.loop-piece.word) c.in-Some.piece.now c.loop-piece.rest.now c.in-Some.behind.now c.in-Some-after_sign.more.now c.loop-piece.invariant.1 c.in-Some.ensures.piece c.in-Some-after_sign.ensures))
