use Rattle.std.proofs.Common.{◌≡◌, Option, true, sym, ap, subst, ◌∙◌}
use Rattle.std.specs.Prelude.{IfOk}
use Rattle.cap_row.specs.Fields.{Fields}
use Rattle.cap_table.specs.KeptKey.{keeps_key}
use Rattle.cap_txn.proofs.ItemLemmas.{kept_key}
use Rattle.cap_txn.proofs.footprint.updated_key.Goals as goal

pub returns-then-keeps_key : goal.returns-then-keeps_key
returns-then-keeps_key g c =
    let table = c.args.table.now in
    let keeps : keeps_key table.schema c.args.fields.now ≡ true = ap (keeps_key table.schema) (sym c.fields.ensures) ∙ sym c.keeps_key.ensures ∙ c.if-keeps_key.true in
    subst (λ (k : Option (Fields g.row.A.Denot)). IfOk c.key_in_name.result (λ key. key ≡ k)) (kept_key table c.args.row.now c.args.fields.now c.args.old.now c.keyed-rows.ensures.sound c.requires.found keeps)
    c.key_in_name.ensures
