-- The fault of a blob, and that of a text that is not one command, as C sees them.
use Rattle.std.specs.Prelude.{ℕ}
use Rattle.cap_field.specs.declared.fault.BlobFault.{BlobFault}
use Rattle.cap_field.specs.declared.fault.FaultKind.{FaultKind}
use Rattle.cap_field.specs.declared.fault.FaultKind.TheVariants as kinds
use Rattle.cap_script.specs.declared.fault.ScriptFault.TheVariants.{Syntax, Limit, BadBlob}
use Rattle.cap_connection.specs.declared.fault.TextFault.{TextFault}
use Rattle.cap_connection.specs.declared.fault.TextFault.TheVariants.{NotOne, InLine}
use Rattle.cap_c.specs.declared.fault.PlacedFault.{PlacedFault}

-- the number in the text of a kind: D1 to D10
abbrev pub kind_number : FaultKind → ℕ
kind_number kinds.Truncated = 1
kind_number kinds.BadHeader = 2
kind_number kinds.BadVarint = 3
kind_number kinds.BadName = 4
kind_number kinds.BadOp = 5
kind_number kinds.BadField = 6
kind_number kinds.Real = 7
kind_number kinds.BadText = 8
kind_number kinds.BadRecord = 9
kind_number kinds.Mixed = 10

abbrev pub placed : BlobFault → PlacedFault
placed fault = record { kind = kind_number fault.kind; at = fault.at }

-- The fault of a text is that of its first refused line: its kind, and its place in the line, or in the bytes
-- to apply.
abbrev pub placed_in_text : TextFault → PlacedFault
placed_in_text NotOne = record { kind = 0; at = 0 }
placed_in_text (InLine (Syntax line at)) = record { kind = 1; at = at }
placed_in_text (InLine (Limit line why)) = record { kind = 2; at = 0 }
placed_in_text (InLine (BadBlob line fault)) = record { kind = 3; at = fault.at }
