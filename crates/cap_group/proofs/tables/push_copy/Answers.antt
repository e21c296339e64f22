use Rattle.std.proofs.Common.{◌≡◌, None, ap, arith, length, ◌∙◌}
use Rattle.std.proofs.lemmas.List.{take_all}
use Rattle.cap_group.specs.Grown.{before}
use Rattle.cap_group.proofs.GrownLemmas.{before_last}
use Rattle.cap_group.proofs.tables.push_copy.Goals as goal

pub returns-in_err-push-2-clause-steps : goal.returns-in_err-push-2-clause-steps
returns-in_err-push-2-clause-steps g c =
    let tables = c.args.tables.now.items in
    let long : c.len.result ≡ length tables = omega (arith, c.len.ensures, c.args.tables.now.ok.0) in
    rw (c.in_ok-push.ensures.items, c.in_err-push-2.ensures.items, long)
    (before_last c.args.steps.now.items (length tables, None) tables ∙ ap (before c.args.steps.now.items) (take_all (length tables) tables (omega arith)))
