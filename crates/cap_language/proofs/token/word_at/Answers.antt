use Rattle.std.proofs.Common.{sym, ◌∙◌}
use Rattle.cap_filter.specs.Tokens.{is_word_byte}
use Rattle.cap_language.proofs.ScanLaws.{no_word, run_boundary, run_counted, starts, the_word, word_ascii}
use Rattle.cap_language.proofs.token.word_at.Goals as goal

pub split_at-requires : goal.split_at-requires
split_at-requires c = run_boundary is_word_byte word_ascii c.args.text.now c.as_bytes-in-Letter.result.now c.word_len.result c.utf8.text c.as_bytes-in-Letter.ensures.value c.word_len.ensures

pub returns-in-Letter : goal.returns-in-Letter
returns-in-Letter c =
    the_word c.args.text.now c.split_at.result.0.now c.split_at.result.1.now (starts c.as_bytes.ensures.value c.start_of.ensures ∙ c.in-Letter.is)
    (run_counted is_word_byte c.args.text.now c.as_bytes-in-Letter.result.now c.split_at.result.0.now c.split_at.result.1.now c.word_len.result c.as_bytes-in-Letter.ensures.value c.word_len.ensures c.split_at.ensures.front c.split_at.ensures.back)

pub returns-in_default : goal.returns-in_default
returns-in_default c = no_word c.args.text.now (λ letter. c.in_default.not-Letter (sym (starts c.as_bytes.ensures.value c.start_of.ensures) ∙ letter))
