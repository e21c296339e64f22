-- Names as bytes.
use Rattle.std.specs.Prelude.{ℕ, Bool, List, ◌&&◌, IsTrue, IsUtf8}
use Rattle.std.specs.Str.{is_utf8}
use Rattle.cap_value.specs.Bytes.{is_name}

-- 1 to 255 bytes of UTF-8, none of them zero
pub record IsName (bytes : List ℕ) : Type 0 where
  pub utf8 : IsUtf8 bytes
  pub short : IsTrue (is_name bytes)

-- the same as a test
unfoldable pub is_name_text : List ℕ → Bool
is_name_text bytes = is_name bytes && is_utf8 bytes
