use Rattle.cap_script.proofs.LineLaws.{fault_is, none_is, spelled_is, within_is}
use Rattle.cap_script.proofs.line.Line.parse.Goals as goal

pub returns : goal.returns
returns g c = record {
  spelled = spelled_is c.read_is_spelled.ensures c.read.result c.args.text.now c.read.ensures;
  within = within_is c.read_is_spelled.ensures c.read.result c.args.text.now c.read.ensures;
  none = none_is c.spelled_is_read.ensures c.unfit_place.ensures c.read.result c.args.text.now c.read.ensures;
  fault = fault_is c.read.result c.args.text.now c.read.ensures;
}
