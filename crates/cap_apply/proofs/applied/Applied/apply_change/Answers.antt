use Rattle.std.proofs.Common.{◌∙◌, is_some}
use Rattle.cap_apply.proofs.Common.{target}
use Rattle.cap_apply.proofs.MadeLemmas.{owns}
use Rattle.cap_apply.proofs.applied.Applied.apply_change.Goals as goal

pub set_row-requires-clause-own : goal.set_row-requires-clause-own
set_row-requires-clause-own g c =
    rw (c.in_ok-after.ensures, c.row_and_width-width.ensures.width, c.row_and_width-width.ensures.row, c.in_ok-key.ensures)
    (owns c.args.table.now c.args.columns.now _ c.self.inside.database ((λ k. is_some (target (c.self.view_is k).database c.args.table.now c.args.columns.now)) ∙ c.requires.target)
    c.sound_rows_law.ensures c.requires.keyed c.request-request.ensures.fits)
