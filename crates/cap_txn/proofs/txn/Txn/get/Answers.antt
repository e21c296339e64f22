use Rattle.std.proofs.Common.{◌≡◌, ◌∷◌, [], ◌++◌, ℕ, List, sym, ap, subst, ◌∙◌, refl}
use Rattle.cap_row.specs.Fields.{Fields}
use Rattle.cap_database.specs.Read.{read}
use Rattle.cap_database.specs.Tables.{Tables}
use Rattle.cap_table.specs.declared.row_ref.RowRef.{RowRef}
use Rattle.cap_txn.specs.Footprint.{with_items}
use Rattle.cap_txn.specs.Calls.{answer_to, items_of, row_answer}
use Rattle.cap_row.specs.declared.row.Row.{Row}
use Rattle.cap_value.specs.declared.memory.Fault.{Fault}
use Rattle.cap_value.specs.declared.refusal.Refusal.{Refusal}
use Rattle.std.specs.Prelude.{Option, Result}
use Rattle.cap_txn.specs.Transaction.{IsAnswered, ReadsOwnWrites, TxnState, handed_on, traced}
use Rattle.cap_txn.specs.declared.answered_call.Answer.{Answer}
use Rattle.cap_txn.specs.declared.answered_call.Answer.TheVariants as answer
use Rattle.cap_txn.specs.declared.answered_call.Asked.{Asked}
use Rattle.cap_txn.specs.declared.answered_call.Asked.TheVariants as asked
use Rattle.cap_txn.specs.declared.answered_call.AnsweredCall.{AnsweredCall}
use Rattle.cap_txn.proofs.TransactionLemmas.{reads-own_writes, row-answered, traced-is, traced-same}
use Rattle.cap_txn.proofs.txn.Txn.get.Goals as goal

pub invariant_of-self-2 : goal.invariant_of-self-2
invariant_of-self-2 g c =
    let inside = c.self.inside in
    let call : Asked g.row.A.Denot = asked.Get c.in_ok-copy.field-0 c.in_ok-copy-2.field-0 in
    let told : answer_to inside.workspace call ≡ c.in_ok-answer.answer =
    ap (λ (n : List ℕ). row_answer (read inside.workspace.database n c.in_ok-copy-2.field-0)) c.in_ok-copy.ensures
    ∙ ap (λ (r : RowRef g.row.A.Denot). row_answer (read inside.workspace.database c.args.table.now r)) c.in_ok-copy-2.ensures
    ∙ ap row_answer (sym c.in_ok-found.ensures) ∙ sym c.in_ok-answer.ensures in
    traced-is (record { workspace = inside.workspace; footprint = inside.footprint; trace = inside.trace.items }) call inside.workspace c.keep.new.footprint c.keep.new.trace.items refl
    (ap (with_items inside.footprint) (sym c.in_ok-items.ensures) ∙ sym c.in-Ok.ensures.footprint)
    (ap (λ (a : Answer g.row.A.Denot). inside.trace.items ++ record { call = call; answer = a } ∷ []) told
    ∙ sym c.in-Ok.ensures.trace)
    c.self.invariant

pub returns-clause-answered : goal.returns-clause-answered
returns-clause-answered g c =
    let inside = c.self.inside in
    let call : Asked g.row.A.Denot = asked.Get c.in_ok-copy.field-0 c.in_ok-copy-2.field-0 in
    let named : call ≡ asked.Get c.args.table.now c.args.row.now =
    ap (λ (n : List ℕ). asked.Get n c.in_ok-copy-2.field-0) c.in_ok-copy.ensures ∙ ap (λ (r : RowRef g.row.A.Denot). asked.Get c.args.table.now r) c.in_ok-copy-2.ensures in
    let found : row_answer c.in_ok-found.found ≡ answer_to inside.workspace call =
    ap row_answer c.in_ok-found.ensures ∙ sym (
    ap (λ (n : List ℕ). row_answer (read inside.workspace.database n c.in_ok-copy-2.field-0)) c.in_ok-copy.ensures
    ∙ ap (λ (r : RowRef g.row.A.Denot). row_answer (read inside.workspace.database c.args.table.now r)) c.in_ok-copy-2.ensures) in
    let old : TxnState g.row.A.Denot = record { workspace = inside.workspace; footprint = inside.footprint; trace = inside.trace.items } in
    let new : TxnState g.row.A.Denot = record { workspace = inside.workspace; footprint = c.keep.new.footprint; trace = c.keep.new.trace.items } in
    let is : new ≡ traced old call = traced-same old call inside.workspace c.keep.new.footprint c.keep.new.trace.items refl
    (ap (with_items inside.footprint) (sym c.in_ok-items.ensures) ∙ sym c.in-Ok.ensures.footprint)
    (ap (λ (a : Answer g.row.A.Denot). inside.trace.items ++ record { call = call; answer = a } ∷ []) (sym found ∙ sym c.in_ok-answer.ensures)
    ∙ sym c.in-Ok.ensures.trace) in
    subst (λ (o : TxnState g.row.A.Denot). IsAnswered answer.Row c.handed_on.result (asked.Get c.args.table.now c.args.row.now) o new) c.self.view_is
    (subst (λ (k : Asked g.row.A.Denot). IsAnswered answer.Row c.handed_on.result k old new) named
    (subst (λ (r : Result (Option (Fields g.row.A.Denot)) (Fault Refusal)). IsAnswered answer.Row r call old new) (sym c.handed_on.ensures) (row-answered c.in_ok-found.found call old new found is)))

pub returns-clause-own_writes : goal.returns-clause-own_writes
returns-clause-own_writes g c =
    let inside = c.self.inside in
    let old : TxnState g.row.A.Denot = record { workspace = inside.workspace; footprint = inside.footprint; trace = inside.trace.items } in
    let reading : Tables g.row.A.Denot → Result (Option (Fields g.row.A.Denot)) Refusal = λ tables. read tables c.args.table.now c.args.row.now in
    subst (λ (o : TxnState g.row.A.Denot). ReadsOwnWrites o reading c.handed_on.result) c.self.view_is
    (subst (λ (r : Result (Option (Fields g.row.A.Denot)) (Fault Refusal)). ReadsOwnWrites old reading r) (sym c.handed_on.ensures)
    (reads-own_writes old reading c.in_ok-found.found c.self.invariant c.in_ok-found.ensures))
