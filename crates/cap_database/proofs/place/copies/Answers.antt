use Rattle.std.proofs.Common.{[], ◌∷◌, ◌++◌, sym, ap₂, ◌∙◌}
use Rattle.cap_database.proofs.StepLemmas.{take_item}
use Rattle.cap_database.proofs.place.copies.Goals as goal

pub loop-entry-preserved : goal.loop-entry-preserved
loop-entry-preserved g c =
    c.in_ok-push.ensures.items ∙ ap₂ (λ a b. a ++ b ∷ []) c.loop-entry.invariant c.in_ok-copy_of.ensures
    ∙ sym (take_item c.args.tables.now c.loop-entry.entry-index c.entry-item.result c.loop-entry-test.true c.entry-item.is)
