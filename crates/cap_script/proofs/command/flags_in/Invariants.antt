use Rattle.std.proofs.Common.{◌≡◌, drop}
use Rattle.cap_script.specs.Language.{flags_in}
use Rattle.cap_script.proofs.WordLaws.{onto_flags}
use Rattle.cap_script.proofs.command.flags_in.Given as goal

abbrev pub invariant-loop-letter : goal.invariant-loop-letter
invariant-loop-letter g l = flags_in l.letter-items ≡ onto_flags l.flags.items (flags_in (drop l.letter-index l.letter-items))
