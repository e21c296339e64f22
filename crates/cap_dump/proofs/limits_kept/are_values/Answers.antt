use Rattle.std.proofs.lemmas.List.Elements.{All-from_recursion}
use Rattle.cap_value.specs.Value.{IsValue}
use Rattle.cap_dump.proofs.limits_kept.are_values.Goals as goal

pub returns : goal.returns
returns g c = All-from_recursion IsValue c.args.fields c.as_bytes-bytes.ensures.fits
