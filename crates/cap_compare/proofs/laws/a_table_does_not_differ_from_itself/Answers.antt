use Rattle.cap_compare.proofs.CompareLemmas.{are_differences, none_of_itself}
use Rattle.cap_compare.proofs.laws.a_table_does_not_differ_from_itself.Goals as goal

pub returns : goal.returns
returns g c rows ordered =
    none_of_itself rows (are_differences rows rows (c.entries_stand_beside.ensures.ordered rows rows ordered) (c.entries_stand_beside.ensures.each rows rows ordered))
