-- Where an application stands, as it is printed.
use Rattle.std.specs.Prelude.{ℕ, Option, List}
use Rattle.cap_applier.specs.Applier.{ApplierState}
use Rattle.cap_replies.specs.StopJson.{stop_json}
use Rattle.cap_replies.specs.declared.run_line.ReplyForm.{ReplyForm}
use Rattle.cap_replies.specs.declared.run_line.ReplyForm.TheVariants.{Json, Text}
use Rattle.cap_replies.specs.declared.run_line.RunLine.{RunLine}
use Rattle.cap_script.specs.StopText as script

module _ {A : Type 0} where
  abbrev pub stop_in : ReplyForm → ℕ → Option ℕ → ApplierState A → List ℕ
  stop_in Text number worker s = script.stop_text s
  stop_in Json number worker s = stop_json number worker s

  -- its text, or the JSON of it
  abbrev pub stop_text : RunLine A → ApplierState A → List ℕ
  stop_text line s = stop_in line.form line.number line.line.worker s
