-- The content of the input, or why it is refused.
use Rattle.std.specs.Prelude.{ℕ, List, Result}
use Rattle.std.specs.Result.{result_map_both}
use Rattle.cap_codec.specs.BlobReading.{blob_at}
use Rattle.cap_codec.specs.declared.read.Contents.{Contents}
use Rattle.cap_codec.specs.declared.read.Contents.TheVariants.{Changes, Patches}
use Rattle.cap_run.specs.declared.encoding.Encoding.{Encoding}
use Rattle.cap_run.specs.declared.fault.RunFault.{RunFault}
use Rattle.cap_run.specs.declared.fault.RunFault.TheVariants.{Blob}
use Rattle.cap_run.specs.declared.show.Form.{Form}
use Rattle.cap_run.specs.declared.show.Form.TheVariants.{Json, Sql, Text}
use Rattle.cap_run.specs.Encoding.{decoded}
use Rattle.cap_run.specs.RunFault.{after}
use Rattle.cap_show.specs.Json as json
use Rattle.cap_show.specs.ShowText.{changeset_text, patchset_text}
use Rattle.cap_show.specs.Sql.{changeset_sql, patchset_sql}

-- what bytes hold
abbrev pub blob_contents : (A : Type 0) → List ℕ → Result (Contents A) RunFault
blob_contents A bytes = result_map_both (λ contents. contents) Blob (blob_at {A = A} bytes)

-- what an input holds
abbrev pub input_contents : (A : Type 0) → Encoding → List ℕ → Result (Contents A) RunFault
input_contents A encoding given = after (decoded encoding given) (blob_contents A)

-- its groups and its changes as lines
abbrev pub lines_text : {A : Type 0} → Contents A → List ℕ
lines_text (Changes changes) = changeset_text changes
lines_text (Patches patches) = patchset_text patches

-- its changes as a JSON document
abbrev pub json_text : {A : Type 0} → Contents A → List ℕ
json_text (Changes changes) = json.list_text json.change changes
json_text (Patches patches) = json.list_text json.patch patches

-- its changes as SQL statements
abbrev pub sql_text : {A : Type 0} → Contents A → List ℕ
sql_text (Changes changes) = changeset_sql changes
sql_text (Patches patches) = patchset_sql patches

-- what is shown of it in this form
abbrev pub shown_text : {A : Type 0} → Form → Contents A → List ℕ
shown_text Text contents = lines_text contents
shown_text Sql contents = sql_text contents
shown_text Json contents = json_text contents
