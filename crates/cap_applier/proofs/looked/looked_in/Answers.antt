use Rattle.std.proofs.Common.{◌<◌, ◌++◌, [], cond, map, take, length, sym, ap, ◌∙◌}
use Rattle.std.specs.Option.{option_copied}
use Rattle.std.proofs.lemmas.List.{append-nil}
use Rattle.cap_applier.specs.Looked.{looked_in, row_named, rows_of_group}
use Rattle.cap_applier.specs.Step.{accepted}
use Rattle.cap_applier.proofs.LoopLemmas.{flat_more}
use Rattle.cap_applier.proofs.looked.looked_in.Goals as goal
use Rattle.cap_applier.proofs.looked.looked_in.Goals.{then-is_accepted+in_ok-push_rows, else-is_accepted}

pub loop-group-preserved : goal.loop-group-preserved
loop-group-preserved g c =
    let groups = c.args.groups.now in
    let i = c.loop-group.group-index in
    let filter = option_copied c.args.filter in
    let requested = g.C.BlobChange.requested in
    let group = c.group-item.result in
    let front = looked_in requested filter (take i groups) in
    let within : i < length groups = c.loop-group-test.true in
    let more = sym (flat_more (rows_of_group requested filter) groups i group within c.group-item.is) in
    let answer = c.is_accepted.ensures ∙ ap (accepted filter) c.table.ensures in
    let named = map (row_named requested group) group.changes in
    elim c.if-is_accepted.branch [
      | then-is_accepted+in_ok-push_rows w ↦
          ap (λ rows. rows.items) w.rows-is ∙ w.in_ok-push_rows.ensures
          ∙ ap (λ rows. rows ++ named) c.loop-group.invariant
          ∙ sym (ap (λ b. front ++ cond b named []) (sym answer ∙ w.if-is_accepted.true))
          ∙ more
      | else-is_accepted w ↦
          ap (λ rows. rows.items) w.rows-is ∙ c.loop-group.invariant ∙ sym (append-nil front)
          ∙ sym (ap (λ b. front ++ cond b named []) (sym answer ∙ w.if-is_accepted.false))
          ∙ more
    ]
