-- The bytes of a blob in the input and in the output.
use Rattle.std.specs.Prelude.{ℕ, List, Result, Ok}
use Rattle.std.specs.Result.{result_map_both}
use Rattle.hex.specs.Hex.{decode_of, encode_lower}
use Rattle.cap_run.specs.declared.encoding.Encoding.{Encoding}
use Rattle.cap_run.specs.declared.encoding.Encoding.TheVariants.{Binary, Hex}
use Rattle.cap_run.specs.declared.fault.RunFault.{RunFault}
use Rattle.cap_run.specs.declared.fault.RunFault.TheVariants.{NotHex}
use Rattle.cap_run.specs.Hex.{digits_of}
use Rattle.cap_interpreter.specs.Lines.{on_a_line}

-- the bytes of the blob in an input
abbrev pub decoded : Encoding → List ℕ → Result (List ℕ) RunFault
decoded Hex text = result_map_both (λ bytes. bytes) (λ error. NotHex) (decode_of (digits_of text))
decoded Binary bytes = Ok bytes

-- the output for the bytes of a blob
abbrev pub encoded : Encoding → List ℕ → List ℕ
encoded Hex bytes = on_a_line (encode_lower bytes)
encoded Binary bytes = bytes
