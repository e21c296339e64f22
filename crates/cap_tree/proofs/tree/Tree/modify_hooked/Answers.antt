use Rattle.std.specs.Option.{option_map}
use Rattle.cap_tree.proofs.BranchLemmas.{changes_ordered}
use Rattle.cap_tree.proofs.tree.Tree.modify_hooked.Goals as goal
use Rattle.cap_tree.proofs.tree.Tree.modify_hooked.Goals.{in-None, in-Some}

pub invariant_of-self : goal.invariant_of-self
invariant_of-self g c = elim c.match-self.branch [
  | in-None w ↦ rw w.self-inside-is c.self.invariant
  | in-Some w ↦
      let before = rw w.in-Some.is at c.self.invariant in
      rw w.self-inside-is (w.change_in_root.ensures.top, changes_ordered g.K.Ord.cmp g.H.Hook.gives c.args.key.now (λ o. option_map (g.M.Modify.modified c.args.modify.now) o) c.args.hook.now w.change_in_root.new.hook g.met.K.Ord.total w.change_in_root.result w.in-Some.node.value.entries w.change_in_root.new.root.value.entries before.1 w.change_in_root.ensures.changes)
]
