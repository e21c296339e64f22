-- The text of a fault, as it is printed.
use Rattle.std.specs.Prelude.{ℕ, List, ◌++◌, codes, decimal}
use Rattle.cap_field.specs.FaultName.{kind_name}
use Rattle.cap_script.specs.RefusalText.{refusal_text}
use Rattle.cap_script.specs.declared.fault.ScriptFault.{ScriptFault}
use Rattle.cap_script.specs.declared.fault.ScriptFault.TheVariants.{Syntax, Limit, BadBlob}

-- the line, and what is wrong with it: the offset of a token, a limit, or the fault of a blob's bytes
unfoldable pub fault_text : ScriptFault → List ℕ
fault_text (Syntax line at) = codes "line " ++ (decimal line ++ (codes ": G1 Syntax at " ++ decimal at))
fault_text (Limit line why) = codes "line " ++ (decimal line ++ (codes ": G2 " ++ refusal_text why))
fault_text (BadBlob line fault) =
    codes "line " ++ (decimal line
    ++ (codes ": G3 " ++ (kind_name fault.kind ++ (codes " at " ++ decimal fault.at))))
