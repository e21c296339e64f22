use Rattle.std.proofs.Common.{◌∙◌, drop, sym, ap}
use Rattle.std.specs.List.{list_all}
use Rattle.cap_rebase.proofs.ColumnLemmas.{same_key, left_ends, right_ends, keys_go_on, keys_differ}
use Rattle.cap_rebase.proofs.record.have_one_key.Goals as goal

pub loop-key-preserved : goal.loop-key-preserved
loop-key-preserved g c =
    sym (keys_go_on c.args.flags.now c.loop-key.key-index c.loop-key.left c.loop-key.right _ _ c.in-Some-Some.one.now c.in-Some-Some.other.now c.is_other.result c.loop-key-test.true
    c.in-Some-Some.ensures c.in-Some-Some.ensures' c.is_other.ensures c.if-is_other.false) ∙ c.loop-key.invariant

pub returns-then-is_other : goal.returns-then-is_other
returns-then-is_other g c =
    sym (keys_differ c.args.flags.now c.loop-key.key-index c.loop-key.left c.loop-key.right _ _ c.in-Some-Some.one.now c.in-Some-Some.other.now c.is_other.result c.loop-key-test.true
    c.in-Some-Some.ensures c.in-Some-Some.ensures' c.is_other.ensures c.if-is_other.true) ∙ c.loop-key.invariant

pub returns-in_default : goal.returns-in_default
returns-in_default g c = sym (ap (list_all (λ same. same)) (right_ends same_key (drop c.loop-key.key-index c.args.flags.now) c.loop-key.left c.loop-key.right c.in_default.ensures'.0)) ∙ c.loop-key.invariant

pub returns-in_default-2 : goal.returns-in_default-2
returns-in_default-2 g c = sym (ap (list_all (λ same. same)) (left_ends same_key (drop c.loop-key.key-index c.args.flags.now) c.loop-key.left c.loop-key.right c.in_default.ensures.0)) ∙ c.loop-key.invariant
