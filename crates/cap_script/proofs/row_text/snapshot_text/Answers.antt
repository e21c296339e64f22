use Rattle.cap_script.proofs.RowLemmas.{lent_row}
use Rattle.cap_script.proofs.row_text.snapshot_text.Goals as goal

pub returns-in-Get : goal.returns-in-Get
returns-in-Get g c = rw c.in-Get.is (rw (lent_row c.get.result _ c.get.ensures) at c.get_text.ensures)
