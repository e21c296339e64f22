use Rattle.std.proofs.Common.{◌≡◌, ◌∙◌, ◌==◌, length, true, false, sym, ap, Some}
use Rattle.cap_rebase.proofs.LeftLemmas.{none_kept, some_kept}
use Rattle.cap_rebase.proofs.left.ChangeLeft.get.Goals as goal

pub returns-then-is_empty : goal.returns-then-is_empty
returns-then-is_empty g c =
    let none : (length c.self.inside.bytes.items == 0) ≡ true = cc (c.self.inside.bytes.ok.0, c.is_empty.ensures, c.if-is_empty.true) in
    sym (none_kept c.self.inside.flags.now c.self.inside.bytes.items none) ∙ c.self.view_is

pub of-requires : goal.of-requires
of-requires g c =
    let some : (length c.self.inside.bytes.items == 0) ≡ false = cc (c.self.inside.bytes.ok.0, c.is_empty.ensures, c.if-is_empty.false) in
    rw c.as_slice.ensures.value (some_kept c.self.inside.flags.now c.self.inside.bytes.items some c.self.invariant).1

pub returns-else-is_empty : goal.returns-else-is_empty
returns-else-is_empty g c =
    let some : (length c.self.inside.bytes.items == 0) ≡ false = cc (c.self.inside.bytes.ok.0, c.is_empty.ensures, c.if-is_empty.false) in
    ap Some (rw c.as_slice.ensures.value at c.of.ensures) ∙ sym (some_kept c.self.inside.flags.now c.self.inside.bytes.items some c.self.invariant).0 ∙ c.self.view_is
