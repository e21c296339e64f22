use Rattle.std.proofs.Common.{◌∙◌, ap, sym, arith, length, set}
use Rattle.std.proofs.lemmas.List.Edits.{map_over_more}
use Rattle.std.proofs.lemmas.List.Elements.{All-set}
use Rattle.cap_changes.specs.Entries.{IsFitting}
use Rattle.cap_changes.specs.Fits.{change_fits}
use Rattle.cap_changes.specs.Invert.{inverse_of}
use Rattle.cap_changes.specs.Made.{group_of}
use Rattle.cap_changes.proofs.GroupLemmas.{written_back}
use Rattle.cap_changes.proofs.InvertLemmas.{as_long}
use Rattle.cap_changes.proofs.list.ChangeList+A.into_inverse.Goals as goal

pub loop-group-preserved : goal.loop-group-preserved
loop-group-preserved g c =
    let invert = group_of (inverse_of {A = g.row.A.Denot}) in
    let groups = c.loop-group.group-items in
    let place = c.loop-group.group-index in
    let i = c.loop-group.invariant in
    record {
      fit = All-set (IsFitting (change_fits {A = g.row.A.Denot})) groups place c.invert.new.self c.fits.ensures i.fit;
      made = ap (set groups place) (c.in_ok-invert.ensures ∙ ap invert (sym c.group-item.is))
          ∙ map_over_more invert c.args.self groups place c.group-item.result (omega (arith, c.loop-group-test.true, ap length i.made, as_long invert c.args.self place)) i.made c.group-item.is;
    }

pub invariant_of-result : goal.invariant_of-result
invariant_of-result g c =
    let i = c.loop-group.invariant in
    rw (written_back c.self.inside.groups.len c.loop-group.group-items c.self.inside.groups.items (omega (arith, ap length i.made, as_long (group_of (inverse_of {A = g.row.A.Denot})) c.args.self c.loop-group.group-index, ap length c.self.view_is)) (omega (arith, c.self.inside.groups.ok.0))) i.fit
