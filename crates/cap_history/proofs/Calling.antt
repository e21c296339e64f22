-- A call that was added to what its seat had seen.
use Rattle.std.proofs.Common.{◌≡◌, ℕ, ◌++◌, ◌∷◌, [], List, length, refl, ap, sym, ◌∙◌, arith}
use mathlib.Core.List.{IsPrefix}
use Rattle.cap_core.specs.declared.command.Command.{Command}
use Rattle.cap_core.specs.declared.event.Event.{Event}
use Rattle.cap_core.specs.declared.reply.Reply.{Reply}
use Rattle.cap_core.specs.Answer.{IsLegal, event_by}
use Rattle.cap_core.specs.Table.{BlobsFit}
use Rattle.cap_history.specs.Beginnings.{prefix-trans}
use Rattle.cap_history.specs.History.{own}
use Rattle.cap_history.specs.Own.{own-append, own-fewer, own-one, own-rest, own-same}
use Rattle.cap_history.specs.Seat.{HasCalled}

module _ {A : Type 0} where
  -- a call that was added to a history with no other events of the seat than its calls
  pub called : (number : ℕ) (seen answered at new : List (Event A)) (command : Command A) (reply : Reply A) → IsPrefix answered seen → IsPrefix seen at
      → length (own number at) ≡ length (own number answered) → new ≡ at ++ event_by number command reply ∷ [] → IsLegal new → BlobsFit new
      → HasCalled (record { number = number; seen = seen; answered = answered }) (record { number = number; seen = new; answered = new }) command reply
  called number seen answered at new command reply before begins calls is legal fits =
      let e = event_by number command reply in
      let less = own-fewer number answered seen before in
      let others : own number begins.0 ≡ [] = own-rest number seen begins.0 at begins.1 (omega arith) in
      let all : own number at ≡ own number answered = own-same number answered at (prefix-trans answered seen at before begins) (omega arith) in
      record {
        number = refl;
        legal = legal;
        blobs = fits;
        seen = (begins.0, is ∙ ap (λ l. l ++ e ∷ []) (sym begins.1), others);
        calls = ap (own number) is ∙ own-append number at (e ∷ []) ∙ ap (λ l. l ++ own number (e ∷ [])) all ∙ ap (λ l. own number answered ++ l) (own-one number command reply);
        answered = refl;
      }
