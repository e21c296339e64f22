use Rattle.cap_codec.proofs.Common.{suc, arith, rules, take_rest}
use Rattle.cap_codec.proofs.Looking.{change_lacks}
use Rattle.cap_codec.proofs.missing.missing.Goals as goal

pub loop-behind-init : goal.loop-behind-init
loop-behind-init g c = λ n lack. change_lacks g.row.A.Denot c.args.total n c.args.bytes.now (omega arith) (search rules) (rw (take_rest c.args.bytes.now 2) at lack)

pub loop-behind-preserved : goal.loop-behind-preserved
loop-behind-preserved g c = λ n lack. c.loop-behind.invariant n (suc lack.0, (c.in-Ok.behind.now, c.in-Ok.ensures.ok, lack.1))
