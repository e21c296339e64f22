use Rattle.std.proofs.Common.{take}
use Rattle.std.specs.Fmt.{HasWritten, IsPlainFormatter}
use Rattle.std.specs.List.{flat_map}
use Rattle.cap_show.specs.ShowText.{column_text}
use Rattle.cap_show.proofs.text.write_columns.Given as goal

abbrev pub invariant-loop-is_key : goal.invariant-loop-is_key
invariant-loop-is_key g l =
    IsPlainFormatter l.initial.f → HasWritten g.W.Write.write_str_gives l.initial.f (flat_map column_text (take l.is_key-index l.flags)) l.f
