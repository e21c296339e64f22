-- What a changeset is converted to.
use Rattle.std.specs.Prelude.{ℕ, List, Result, Ok, Err}
use Rattle.std.specs.Result.{result_map_both}
use Rattle.std.specs.Io.KnownBytes.{Appends, Keeps}
use Rattle.cap_blob.specs.Converted.{target_at}
use Rattle.cap_blob.specs.declared.refusal.ChangesetRefusal.{ChangesetRefusal}
use Rattle.cap_blob.specs.declared.refusal.ChangesetRefusal.TheVariants as refusal
use Rattle.cap_run.specs.declared.conversion.Conversion.{Conversion}
use Rattle.cap_run.specs.declared.fault.RunFault.{RunFault}
use Rattle.cap_run.specs.declared.fault.RunFault.TheVariants.{Blob, Patchset, Write}
use Rattle.cap_run.specs.Encoding.{decoded, encoded}
use Rattle.cap_run.specs.Run.{Known}
use Rattle.cap_stream.specs.Writing.{AppendsFront}
use Rattle.cap_run.specs.RunFault.{after}

-- why a blob is not converted
abbrev pub refusal_fault : ChangesetRefusal → RunFault
refusal_fault (refusal.Malformed fault) = Blob fault
refusal_fault refusal.Patchset = Patchset

-- the output for a blob with these bytes
abbrev pub output_of : (A : Type 0) → Conversion → List ℕ → Result (List ℕ) RunFault
output_of A conversion bytes =
    result_map_both (encoded conversion.encoding) refusal_fault
    (target_at A conversion.target conversion.key_flags bytes)

-- the output for an input
abbrev pub converted_at : (A : Type 0) → Conversion → List ℕ → Result (List ℕ) RunFault
converted_at A conversion given = after (decoded conversion.encoding given) (output_of A conversion)

-- all of the output was written, a beginning of it where a write failed, and else nothing
abbrev pub WritesOutput : List ℕ → Result (Unit {0}) RunFault → Known → Known → Type 0
WritesOutput output (Ok done) old new = Appends old new output
WritesOutput output (Err Write) old new = AppendsFront old new output
WritesOutput output (Err fault) old new = Keeps old new
