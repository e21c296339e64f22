-- The bytes of a name, wherever they lie.
use Rattle.std.specs.Prelude.{ℕ, List}
use Rattle.std.specs.Arc.{arc_str_bytes}
use Rattle.cap_value.specs.declared.name.NameText.{NameText}
use Rattle.cap_value.specs.declared.name.NameText.TheVariants.{Short, Long}

module _ {A : Type 0} where
  abbrev pub text_bytes : NameText A → List ℕ
  text_bytes (Short short) = short.bytes
  text_bytes (Long long) = arc_str_bytes long
