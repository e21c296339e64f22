use Rattle.std.proofs.Common.{◌≡◌, length, ap, ◌∙◌}
use Rattle.std.specs.List.{prefix_len, take_while}
use Rattle.cap_filter.specs.Tokens.{is_word_byte}
use Rattle.cap_filter.proofs.TokenLemmas.{word_front, word_behind, word_len_is, word_boundary}
use Rattle.cap_filter.proofs.token.split_word.Goals as goal
use Rattle.cap_filter.proofs.token.split_word.Goals.{After-word_len}

len_is : (c : After-word_len) → c.word_len.result ≡ prefix_len is_word_byte c.args.text.now
len_is c = c.word_len.ensures ∙ ap (λ l. length (take_while is_word_byte l)) c.as_bytes.ensures.value ∙ word_len_is c.args.text.now

pub split_at-requires : goal.split_at-requires
split_at-requires c = rw (len_is c) (word_boundary c.args.text.now c.utf8.text)

pub returns-clause-word : goal.returns-clause-word
returns-clause-word c = rw (c.split_at.ensures.front, len_is ((goal.at.returns-clause-word c).After-word_len)) (word_front c.args.text.now)

pub returns-clause-whole : goal.returns-clause-whole
returns-clause-whole c = rw (c.split_at.ensures.back, len_is ((goal.at.returns-clause-whole c).After-word_len)) (word_behind c.args.text.now)
