use Rattle.cap_compare.proofs.CompareLemmas.{are_differences}
use Rattle.cap_compare.proofs.laws.differences_are_just_those.Goals as goal

pub returns : goal.returns
returns g c from to ordered-from ordered-to =
    are_differences from to (c.entries_stand_beside.ensures.ordered from to ordered-from) (c.entries_stand_beside.ensures.each from to ordered-to)
