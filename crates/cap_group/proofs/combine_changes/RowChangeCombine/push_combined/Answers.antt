use Rattle.std.proofs.Common.{sym}
use Rattle.std.proofs.lemmas.Result.{IfOk-weaker}
use Rattle.cap_group.proofs.combine_changes.RowChangeCombine.push_combined.Goals as goal

pub returns-in-Update-Update : goal.returns-in-Update-Update
returns-in-Update-Update g c =
    let put = rw (c.new-first.ensures, c.new-last.ensures) at c.push_update_between.ensures in
    rw (sym c.in-Update-Update.ensures, sym c.in-Update-Update.ensures') (record { bytes = IfOk-weaker c.push_update_between.result _ _ (λ some is. is.0) put; some = IfOk-weaker c.push_update_between.result _ _ (λ some is. is.1) put })

pub returns-in-Delete-Insert : goal.returns-in-Delete-Insert
returns-in-Delete-Insert g c =
    let put = rw (c.alone-first.ensures, c.alone-last.ensures) at c.push_update_between-in-Delete-Insert.ensures in
    rw (sym c.in-Delete-Insert.ensures, sym c.in-Delete-Insert.ensures')
    (record { bytes = IfOk-weaker c.push_update_between-in-Delete-Insert.result _ _ (λ some is. is.0) put; some = IfOk-weaker c.push_update_between-in-Delete-Insert.result _ _ (λ some is. is.1) put })
