use Rattle.std.proofs.Common.{◌≡◌, ◌∷◌, [], ◌++◌, List, Ok, Err, sym, ap, ◌∙◌, refl}
use Rattle.cap_txn.specs.Workspace.{after_back}
use Rattle.cap_txn.specs.Calls.{done, unless_refused}
use Rattle.cap_txn.specs.declared.answered_call.Answer.{Answer}
use Rattle.cap_txn.specs.declared.answered_call.Asked.TheVariants as asked
use Rattle.cap_txn.specs.declared.answered_call.AnsweredCall.{AnsweredCall}
use Rattle.cap_txn.proofs.TransactionLemmas.{traced-is}
use Rattle.cap_txn.proofs.txn.Txn.back_to.Goals as goal

pub invariant_of-self-in-Ok : goal.invariant_of-self-in-Ok
invariant_of-self-in-Ok g c =
    let inside = c.self.inside in
    traced-is (record { workspace = inside.workspace; footprint = inside.footprint; trace = inside.trace.items }) (asked.BackTo c.args.mark) c.back_to.new.self inside.footprint c.push_reserved.new.self.items
    (ap (unless_refused inside.workspace) c.in-Ok.ensures.txn) refl
    (ap (λ (a : Answer g.row.A.Denot). inside.trace.items ++ record { call = asked.BackTo c.args.mark; answer = a } ∷ []) (ap done c.in-Ok.ensures.txn)
    ∙ ap (λ (l : List (AnsweredCall g.row.A.Denot)). l ++ record { call = asked.BackTo c.args.mark; answer = done (Ok c.back_to.new.self) } ∷ []) (sym c.in_ok-reserve.ensures.items) ∙ sym c.push_reserved.ensures.items)
    c.self.invariant

pub invariant_of-self-in-Err-Refused : goal.invariant_of-self-in-Err-Refused
invariant_of-self-in-Err-Refused g c =
    let inside = c.self.inside in
    let ran : after_back inside.workspace c.args.mark.number ≡ Err c.in-Err-Refused.why = rw c.in-Err-Refused.field-0-is at c.in-Err-Refused.ensures.txn in
    traced-is (record { workspace = inside.workspace; footprint = inside.footprint; trace = inside.trace.items }) (asked.BackTo c.args.mark) c.back_to.new.self inside.footprint c.push_reserved-in-Err-Refused.new.self.items
    (ap (unless_refused inside.workspace) ran ∙ sym c.in-Err-Refused.ensures.kept) refl
    (ap (λ (a : Answer g.row.A.Denot). inside.trace.items ++ record { call = asked.BackTo c.args.mark; answer = a } ∷ []) (ap done ran)
    ∙ ap (λ (l : List (AnsweredCall g.row.A.Denot)). l ++ record { call = asked.BackTo c.args.mark; answer = done (Err c.in-Err-Refused.why) } ∷ []) (sym c.in_ok-reserve.ensures.items) ∙ sym c.push_reserved-in-Err-Refused.ensures.items)
    c.self.invariant
