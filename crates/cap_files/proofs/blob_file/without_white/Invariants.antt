use Rattle.std.proofs.Common.{◌≡◌, ◌++◌, drop}
use Rattle.cap_files.specs.FileBlob.{black}
use Rattle.cap_files.proofs.blob_file.without_white.Given as goal

-- what was found, and what the other bytes have
abbrev pub invariant-loop-byte : goal.invariant-loop-byte
invariant-loop-byte g l = l.found.items ++ black (drop l.byte-index l.bytes) ≡ black l.bytes
