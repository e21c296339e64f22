use Rattle.std.proofs.Common.{◌≡◌, drop}
use Rattle.cap_language.specs.Tokens.{behind_blanks}
use Rattle.cap_replies.proofs.numbers.is_blank.Given as goal

-- only spaces so far
abbrev pub invariant-loop-byte : goal.invariant-loop-byte
invariant-loop-byte l = behind_blanks l.line ≡ behind_blanks (drop l.byte-index l.line)
