use Rattle.std.proofs.Common.{◌≡◌, ◌<◌, length, rules, true, arith}
use Rattle.cap_script.specs.Script.{is_ignored}
use Rattle.cap_script.proofs.FirstLemmas.{behind_one_ignored}
use Rattle.cap_script.proofs.LineLemmas.{behind_ignored, cut_shorter, ignored_first}
use Rattle.cap_script.proofs.rest.Rest.next_text.Goals as goal

-- a line that says nothing is passed over
pub loop-line-preserved : goal.loop-line-preserved
loop-line-preserved g c =
    let inv = c.loop-line.invariant in
    let text = c.loop-line.self.text.now in
    let line = c.first_line.result.0.now in
    let behind = c.first_line.result.1.now in
    let ignored : is_ignored line ≡ true = search rules in
    let some : 0 < length text = search rules in
    let less = cut_shorter text line behind c.first_line.ensures some in (
      omega (arith, inv.0, less),
      omega (arith, inv.1, less),
      λ limits lines spelled. behind_ignored limits lines text line behind c.first_line.ensures ignored (inv.2 limits lines spelled),
      λ limits lines spelled. inv.3 limits lines (ignored_first limits lines text line behind c.first_line.ensures ignored spelled),
      λ why so. inv.4 why (behind_one_ignored {A = g.row.A.Denot} c.loop-line.self.number why text line behind c.first_line.ensures ignored so),
    )
