use Rattle.std.proofs.Common.{ap, ◌∙◌, sym, arith, ◌++◌, ◌∷◌, []}
use Rattle.std.proofs.lemmas.List.FromFn.{map-range_with_len_more}
use Rattle.cap_history.specs.Seat.{newcomer, newcomers}
use Rattle.cap_server.proofs.naming.seats_of.Goals as goal

pub loop-number-preserved : goal.loop-number-preserved
loop-number-preserved g c =
    let n = c.loop-number.number in
    c.in_ok-push.ensures.items ∙ ap (λ l. l ++ c.new.result ∷ []) c.loop-number.invariant
    ∙ ap (λ s. newcomers n ++ s ∷ []) c.new.ensures ∙ sym (map-range_with_len_more newcomer 0 n n (omega arith))
