use Rattle.cap_dump.proofs.LoadLemmas.{loaded_again, whole_parts}
use Rattle.cap_dump.proofs.laws.dumps_are_loaded_again.Goals as goal

pub returns-clause-parts : goal.returns-clause-parts
returns-clause-parts g c = loaded_again c.applied_blobs_keep_order.ensures

pub returns-clause-whole : goal.returns-clause-whole
returns-clause-whole g c = whole_parts
