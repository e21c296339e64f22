-- The first byte of a blob.
use Rattle.std.specs.Prelude.{ℕ, List, [], ◌∷◌, Option, Some, None, if◌then◌else◌}
use Rattle.cap_field.specs.declared.fault.BlobFault.{BlobFault}
use Rattle.cap_field.specs.declared.fault.FaultKind.TheVariants.{BadHeader}
use Rattle.cap_codec.specs.BlobReading.{is_kind}

-- the fault of a first byte that begins no group, which is reported before memory is asked for
abbrev pub first_fault : List ℕ → Option BlobFault
first_fault [] = None
first_fault (kind ∷ bytes) = if is_kind kind then None else Some (record { at = 0; kind = BadHeader })
