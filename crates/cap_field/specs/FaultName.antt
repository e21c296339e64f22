-- The text of a fault, and the name of its kind.
use Rattle.std.specs.Prelude.{ℕ, List, ◌++◌, codes, decimal}
use Rattle.cap_field.specs.declared.fault.BlobFault.{BlobFault}
use Rattle.cap_field.specs.declared.fault.FaultKind.{FaultKind}
use Rattle.cap_field.specs.declared.fault.FaultKind.TheVariants.{Truncated, BadHeader, BadVarint, BadName}
use Rattle.cap_field.specs.declared.fault.FaultKind.TheVariants.{BadOp, BadField, Real, BadText, BadRecord}
use Rattle.cap_field.specs.declared.fault.FaultKind.TheVariants.{Mixed}

-- its number and its name, as they are printed
unfoldable pub kind_name : FaultKind → List ℕ
kind_name Truncated = codes "D1 Truncated"
kind_name BadHeader = codes "D2 BadHeader"
kind_name BadVarint = codes "D3 BadVarint"
kind_name BadName = codes "D4 BadName"
kind_name BadOp = codes "D5 BadOp"
kind_name BadField = codes "D6 BadField"
kind_name Real = codes "D7 Real"
kind_name BadText = codes "D8 BadText"
kind_name BadRecord = codes "D9 BadRecord"
kind_name Mixed = codes "D10 Mixed"

-- the name of its kind, and its offset
abbrev pub fault_text : BlobFault → List ℕ
fault_text fault = kind_name fault.kind ++ (codes " at " ++ decimal fault.at)
