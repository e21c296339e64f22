use Rattle.std.proofs.Common.{◌≢◌, sym}
use Rattle.std.specs.declared.cmp.Ordering.TheVariants.{Less}
use Rattle.cap_tree.proofs.BranchLemmas.{is_not_less}
use Rattle.cap_tree.proofs.SiblingLemmas.{last_place}
use Rattle.cap_tree.proofs.child.is_up_to_last.Goals as goal

pub returns-in-Equal : goal.returns-in-Equal
returns-in-Equal g c h is _ =
    let not : g.K.Ord.cmp c.args.key.now c.in-Some.last.now.least ≢ Less = rw (← c.cmp.ensures) (is_not_less _ c.in-Equal.is) in
    last_place g.K.Ord.cmp g.met.K.Ord.total c.args.key.now h c.args.children.now c.in-Some.last.now is (sym c.in-Some.ensures.value) not
