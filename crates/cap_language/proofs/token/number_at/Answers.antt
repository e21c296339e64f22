use Rattle.cap_language.proofs.ScanLaws.{digits_boundary}
use Rattle.cap_language.proofs.token.number_at.Goals as goal

pub split_at-requires : goal.split_at-requires
split_at-requires c = digits_boundary c.args.text.now c.as_bytes.result.now c.in_ok-number.count c.utf8.text c.as_bytes.ensures.value c.in_ok-number.ensures.2 c.in_ok-number.ensures.3
