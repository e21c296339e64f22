-- A decoder that gets a blob in pieces.
use Rattle.std.specs.Prelude.{◌≡◌, ℕ, List, ◌++◌, Result, Err, OnOk}
use Rattle.std.specs.Global.{Global}
use Rattle.cap_value.specs.Memory.{AnswersUnlessMemory}
use Rattle.cap_value.specs.declared.memory.Fault.{Fault}
use Rattle.cap_value.specs.declared.memory.Fault.TheVariants.{Refused}
use Rattle.cap_codec.specs.BlobReading.{blob_at}
use Rattle.cap_codec.specs.Pieces.{KeepsFault, lasting}
use Rattle.cap_field.specs.declared.fault.BlobFault.{BlobFault}

-- The next piece is taken, or a fault is answered that no further bytes can mend: that of the bytes so far,
-- as of the whole blob.
pub record Feeds (piece old new : List ℕ) (result : Result (Unit {0}) (Fault BlobFault)) : Type 0 where
  -- it is answered again whatever follows, which takes no memory
  pub again : (fault : BlobFault) → lasting (blob_at {A = Global} old) ≡ Err fault →
      result ≡ Err (Refused fault)
  pub answers : AnswersUnlessMemory result (lasting (blob_at {A = Global} (old ++ piece)))
  pub fed : OnOk result (new ≡ old ++ piece)
  pub kept : KeepsFault Global result old new
