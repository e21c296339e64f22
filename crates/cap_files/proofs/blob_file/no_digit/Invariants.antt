use Rattle.std.proofs.Common.{◌≡◌, drop}
use Rattle.cap_files.specs.FileBlob.{no_digit}
use Rattle.cap_files.proofs.blob_file.no_digit.Given as goal

-- none so far
abbrev pub invariant-loop-at : goal.invariant-loop-at
invariant-loop-at l = no_digit 0 l.bytes ≡ no_digit l.at (drop l.at l.bytes)
