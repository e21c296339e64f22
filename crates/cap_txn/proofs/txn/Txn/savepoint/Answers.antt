use Rattle.std.proofs.Common.{◌≡◌, ◌∷◌, [], ◌++◌, ℕ, List, Ok, Err, sym, ap, subst, ◌∙◌, refl}
use Rattle.cap_txn.specs.Workspace.{after_savepoint}
use Rattle.cap_txn.specs.Transaction.{IsAnswered, IsNewMark, TxnState, traced}
use Rattle.cap_txn.specs.Calls.{answer_to, mark_answer, unless_refused}
use Rattle.cap_txn.specs.declared.answered_call.Answer.{Answer}
use Rattle.cap_txn.specs.declared.answered_call.Answer.TheVariants as answer
use Rattle.cap_txn.specs.declared.answered_call.Asked.TheVariants as asked
use Rattle.cap_txn.specs.declared.answered_call.AnsweredCall.{AnsweredCall}
use Rattle.cap_txn.proofs.TransactionLemmas.{new-mark, traced-is, traced-same}
use Rattle.cap_txn.proofs.txn.Txn.savepoint.Goals as goal

pub invariant_of-self-in-Ok : goal.invariant_of-self-in-Ok
invariant_of-self-in-Ok g c =
    let inside = c.self.inside in
    let told : answer_to inside.workspace asked.Savepoint ≡ answer.Mark c.in-Ok.mark =
    ap (mark_answer inside.workspace.made) c.in-Ok.ensures.txn ∙ ap (λ (n : ℕ). answer.Mark (record { number = n })) (sym c.in-Ok.ensures.mark) in
    traced-is (record { workspace = inside.workspace; footprint = inside.footprint; trace = inside.trace.items }) asked.Savepoint c.savepoint.new.self inside.footprint c.push_reserved.new.self.items
    (ap (unless_refused inside.workspace) c.in-Ok.ensures.txn) refl
    (ap (λ (a : Answer g.row.A.Denot). inside.trace.items ++ record { call = asked.Savepoint; answer = a } ∷ []) told
    ∙ ap (λ (l : List (AnsweredCall g.row.A.Denot)). l ++ record { call = asked.Savepoint; answer = answer.Mark c.in-Ok.mark } ∷ []) (sym c.in_ok-reserve.ensures.items) ∙ sym c.push_reserved.ensures.items)
    c.self.invariant

pub invariant_of-self-in-Err-Refused : goal.invariant_of-self-in-Err-Refused
invariant_of-self-in-Err-Refused g c =
    let inside = c.self.inside in
    let ran : after_savepoint inside.workspace ≡ Err c.in-Err-Refused.why = rw c.in-Err-Refused.field-0-is at c.in-Err-Refused.ensures.txn in
    traced-is (record { workspace = inside.workspace; footprint = inside.footprint; trace = inside.trace.items }) asked.Savepoint c.savepoint.new.self inside.footprint c.push_reserved-in-Err-Refused.new.self.items
    (ap (unless_refused inside.workspace) ran ∙ sym c.in-Err-Refused.ensures.kept) refl
    (ap (λ (a : Answer g.row.A.Denot). inside.trace.items ++ record { call = asked.Savepoint; answer = a } ∷ []) (ap (mark_answer inside.workspace.made) ran)
    ∙ ap (λ (l : List (AnsweredCall g.row.A.Denot)). l ++ record { call = asked.Savepoint; answer = answer.Refused c.in-Err-Refused.why } ∷ []) (sym c.in_ok-reserve.ensures.items) ∙ sym c.push_reserved-in-Err-Refused.ensures.items)
    c.self.invariant

pub returns-in-Ok-clause-answered : goal.returns-in-Ok-clause-answered
returns-in-Ok-clause-answered g c =
    let inside = c.self.inside in
    let told : answer_to inside.workspace asked.Savepoint ≡ answer.Mark c.in-Ok.mark =
    ap (mark_answer inside.workspace.made) c.in-Ok.ensures.txn ∙ ap (λ (n : ℕ). answer.Mark (record { number = n })) (sym c.in-Ok.ensures.mark) in
    let old : TxnState g.row.A.Denot = record { workspace = inside.workspace; footprint = inside.footprint; trace = inside.trace.items } in
    let new : TxnState g.row.A.Denot = record { workspace = c.savepoint.new.self; footprint = inside.footprint; trace = c.push_reserved.new.self.items } in
    let is : new ≡ traced old asked.Savepoint = traced-same old asked.Savepoint c.savepoint.new.self inside.footprint c.push_reserved.new.self.items
    (ap (unless_refused inside.workspace) c.in-Ok.ensures.txn) refl
    (ap (λ (a : Answer g.row.A.Denot). inside.trace.items ++ record { call = asked.Savepoint; answer = a } ∷ []) told
    ∙ ap (λ (l : List (AnsweredCall g.row.A.Denot)). l ++ record { call = asked.Savepoint; answer = answer.Mark c.in-Ok.mark } ∷ []) (sym c.in_ok-reserve.ensures.items) ∙ sym c.push_reserved.ensures.items) in
    subst (λ (o : TxnState g.row.A.Denot). (answer.Mark c.in-Ok.mark ≡ answer_to o.workspace asked.Savepoint) × (new ≡ traced o asked.Savepoint)) c.self.view_is (sym told, is)

pub returns-in-Ok-clause-new_mark : goal.returns-in-Ok-clause-new_mark
returns-in-Ok-clause-new_mark g c =
    let inside = c.self.inside in
    let old : TxnState g.row.A.Denot = record { workspace = inside.workspace; footprint = inside.footprint; trace = inside.trace.items } in
    subst (λ (o : TxnState g.row.A.Denot). IsNewMark o c.in-Ok.mark) c.self.view_is (new-mark old c.in-Ok.mark c.self.invariant c.in-Ok.ensures.mark)
