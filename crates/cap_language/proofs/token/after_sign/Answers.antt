use Rattle.std.proofs.Common.{arith}
use Rattle.cap_language.proofs.ScanLaws.{first_boundary}
use Rattle.cap_language.proofs.token.after_sign.Goals as goal

pub split_at-requires : goal.split_at-requires
split_at-requires c = first_boundary c.args.text.now c.utf8.text (omega arith) (grind arith)
