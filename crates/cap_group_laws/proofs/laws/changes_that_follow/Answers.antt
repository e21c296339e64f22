use Rattle.std.proofs.lemmas.List.Elements.{recursion_from_All}
use Rattle.cap_group_laws.proofs.JoinLemmas.{followed}
use Rattle.cap_group_laws.proofs.FlagLemmas.{followed_one_flag}
use Rattle.cap_group_laws.proofs.laws.changes_that_follow.Goals as goal

pub returns-clause-change : goal.returns-clause-change
returns-clause-change g c = followed

pub returns-clause-flag : goal.returns-clause-flag
returns-clause-flag g c =
    λ flags key indirect first changes last f h same. followed_one_flag flags key indirect first changes last f h (recursion_from_All _ changes same)
