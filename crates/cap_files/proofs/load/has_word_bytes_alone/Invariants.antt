use Rattle.std.proofs.Common.{◌≡◌, drop}
use Rattle.std.specs.List.{list_all}
use Rattle.cap_filter.specs.Tokens.{is_word_byte}
use Rattle.cap_files.proofs.load.has_word_bytes_alone.Given as goal

-- bytes of a word alone so far
abbrev pub invariant-loop-byte : goal.invariant-loop-byte
invariant-loop-byte l = list_all is_word_byte (drop l.byte-index l.bytes) ≡ list_all is_word_byte l.bytes
