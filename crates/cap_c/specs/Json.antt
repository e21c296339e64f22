-- Blobs as JSON, from bytes to bytes.
use Rattle.std.specs.Prelude.{ℕ, List, Result}
use Rattle.std.specs.Result.{result_map_both}
use Rattle.cap_blob.specs.declared.refusal.ChangesetRefusal.{ChangesetRefusal}
use Rattle.cap_blob.specs.declared.refusal.ChangesetRefusal.TheVariants.{Malformed}
use Rattle.cap_codec.specs.BlobReading.{blob_at}
use Rattle.cap_codec.specs.declared.read.Contents.{Contents}
use Rattle.cap_codec.specs.declared.read.Contents.TheVariants.{Changes, Patches}
use Rattle.cap_show.specs.Json.{change, patch, list_text}

module _ (A : Type 0) where
  abbrev pub json_of : Contents A → List ℕ
  json_of (Changes groups) = list_text change groups
  json_of (Patches groups) = list_text patch groups

  -- the text of the blob that these bytes are
  abbrev pub json_at : List ℕ → Result (List ℕ) ChangesetRefusal
  json_at bytes = result_map_both json_of Malformed (blob_at {A = A} bytes)
