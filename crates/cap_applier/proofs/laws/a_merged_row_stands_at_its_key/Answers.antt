use Rattle.cap_applier.proofs.MergeLemmas.{merged-counts, merged-others, merged-stands}
use Rattle.cap_applier.proofs.laws.a_merged_row_stands_at_its_key.Goals as goal

pub returns : goal.returns
returns g c = record { stands = merged-stands; others = merged-others; counted = merged-counts }
