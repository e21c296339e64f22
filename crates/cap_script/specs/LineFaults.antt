-- What is read of a line, or its fault.
use Rattle.std.specs.Prelude.{◌≡◌, ⊤, ℕ, ◌-◌, List, length, Option, Some, None, Result, Ok, Err}
use Rattle.std.specs.Result.{result_err}
use Rattle.cap_value.specs.declared.refusal.Refusal.{Refusal}
use Rattle.cap_value.specs.declared.refusal.Refusal.TheVariants.{BadFilter}
use Rattle.cap_filter.specs.Reading.{filter_of}
use Rattle.cap_filter.specs.Rule.{Rule}
use Rattle.cap_language.specs.Grammar.{Read, read}
use Rattle.cap_language.specs.declared.fault.LineFault.{LineFault}
use Rattle.cap_language.specs.declared.fault.LineFault.TheVariants.{Limit, OutOfMemory, Syntax}
use Rattle.cap_script.specs.Language.{Ended, Filtered, Opening, opening}
use Rattle.cap_script.specs.Script.{filter_line}
use Rattle.cap_script.specs.declared.command.Filtering.{Filtering}
use Rattle.cap_script.specs.declared.line.Line.{Line}

-- the fault of a filter's text, which is the rest of the line: at its token that does not fit, or at a limit
abbrev pub filter_fault : List ℕ → Refusal → LineFault
filter_fault rest (BadFilter at) = Syntax (length rest - at)
filter_fault rest why = Limit why

abbrev pub filter_read : List ℕ → Result Rule Refusal → Result Rule LineFault
filter_read rest (Ok filter) = Ok filter
filter_read rest (Err why) = Err (filter_fault rest why)

module _ (A : Type 0) where
  abbrev pub with_filter : Option ℕ → Filtering A → Result Rule LineFault → Result (Line A) LineFault
  with_filter worker what (Ok filter) = Ok (filter_line worker what filter)
  with_filter worker what (Err fault) = Err fault

  abbrev pub closed : Read (Opening A) → Result (Line A) LineFault
  closed (Ok (Ended whole, rest)) = Ok whole
  closed (Ok (Filtered worker what, rest)) = with_filter worker what (filter_read rest (filter_of rest))
  closed (Err fault) = Err fault

  -- the line with this text: the worker and the command, read from left to right, or the fault
  unfoldable pub line_of_text : List ℕ → Result (Line A) LineFault
  line_of_text text = closed (read opening text)

  -- the fault of the line with this text, if it has one
  unfoldable pub line_fault : List ℕ → Option LineFault
  line_fault text = result_err (line_of_text text)

-- a line that is read has no fault, and one that is refused has this one, unless memory ran out
abbrev pub FaultIs : {X : Type 0} → Result X LineFault → Option LineFault → Type 0
FaultIs (Ok x) fault = fault ≡ None
FaultIs (Err OutOfMemory) fault = ⊤
FaultIs (Err why) fault = fault ≡ Some why

-- this is made where the call makes it, and has its fault, unless memory ran out
abbrev pub MakesUnlessMemory : {X : Type 0} → Result X LineFault → Result X LineFault → Type 0
MakesUnlessMemory (Ok x) made = made ≡ Ok x
MakesUnlessMemory (Err OutOfMemory) made = ⊤
MakesUnlessMemory (Err why) made = made ≡ Err why
