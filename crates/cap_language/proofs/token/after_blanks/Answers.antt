use Rattle.cap_language.specs.Tokens.{is_blank}
use Rattle.cap_language.proofs.ScanLaws.{behind_counted, blank_ascii, run_boundary}
use Rattle.cap_language.proofs.token.after_blanks.Goals as goal

pub split_at-requires : goal.split_at-requires
split_at-requires c = run_boundary is_blank blank_ascii c.args.text.now c.as_bytes.result.now c.blanks_len.result c.utf8.text c.as_bytes.ensures.value c.blanks_len.ensures

pub returns : goal.returns
returns c = behind_counted c.args.text.now c.as_bytes.result.now c.split_at.result.1.now c.blanks_len.result c.as_bytes.ensures.value c.blanks_len.ensures c.split_at.ensures.back
