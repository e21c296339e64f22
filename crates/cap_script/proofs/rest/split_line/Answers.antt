use Rattle.std.proofs.Common.{arith}
use Rattle.std.proofs.lemmas.Str.Pattern.{split_once_first}
use Rattle.cap_script.proofs.CutLemmas.{parts_at}
use Rattle.cap_script.proofs.rest.split_line.Goals as goal

pub returns : goal.returns
returns c = parts_at 10 c.args.text.now c.split_once.result (split_once_first 10 c.args.text.now c.split_once.result c.split_once.ensures.cases (omega arith))
