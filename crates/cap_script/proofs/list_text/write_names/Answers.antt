use Rattle.std.proofs.Common.{ℕ, List, ◌++◌, ap, ◌∙◌, string_bytes}
use Rattle.cap_script.specs.ListText.{name_behind}
use Rattle.cap_script.proofs.RowLemmas.{one_more_at}
use Rattle.cap_script.proofs.list_text.write_names.Goals as goal

pub loop-name-preserved : goal.loop-name-preserved
loop-name-preserved g c =
    one_more_at name_behind c.args.names.now c.loop-name.name-index c.name-item.result (string_bytes c.loop-name.out) (string_bytes c.write_name.new.out) _ c.loop-name-test.true
    (c.in_ok-write_name.ensures ∙ ap (λ (x : List ℕ). string_bytes c.loop-name.out ++ name_behind x) c.name-item.is) c.loop-name.invariant
