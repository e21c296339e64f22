use Rattle.std.proofs.Common.{arith, ◌≡◌, ◌<◌, ℕ, ap, sym, ◌∙◌, length, slice_index, refl}
use Rattle.std.proofs.lemmas.List.{get_or-replicate}
use Rattle.cap_core.specs.Answer.{state}
use Rattle.cap_history.specs.History.{own}
use Rattle.cap_locked.proofs.locked.Locked.open.Goals as goal

pub invariant_of-result : goal.invariant_of-result
invariant_of-result g c =
    let counts = c.in_ok-counts.counts.items in
    let zeros = c.in_ok-counts.ensures.items_if_clones_equal (λ y same. same) in
    let none : (n : ℕ) → n < length counts → slice_index counts n ≡ 0 =
    λ n within. ap (λ l. slice_index l n) zeros ∙ get_or-replicate c.args.seats n 0 0 (omega (arith, within, c.in_ok-counts.ensures.len)) in (
      c.new.ensures ∙ ap state (sym c.requires.list),
      record {
        some = omega (arith, c.requires.some, c.in_ok-counts.ensures.len);
        long = refl;
        each = λ n within. none n within ∙ sym (ap (λ l. length (own n l)) c.requires.list);
        others = λ n beyond. ap (own n) c.requires.list;
      },
    )
