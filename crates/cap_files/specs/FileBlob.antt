-- The blob in a file: its bytes, or hex digits with white space between them.
use Rattle.std.specs.Prelude.{ℕ, ◌+◌, ◌==◌, ◌&&◌, ◌||◌, Bool, List, [], ◌∷◌, Option, Some, None, Result, Ok, Err}
use Rattle.std.specs.Prelude.{codes, drop, length, nat_eq, nat_le, if◌then◌else◌}
use Rattle.std.specs.List.{starts_with}
use Rattle.std.specs.Option.{option_map}
use Rattle.std.specs.Result.{result_map_both}
use Rattle.hex.specs.Hex.{decode_of, is_hex_digit}
use Rattle.cap_files.specs.declared.blob_file.FileForm.{FileForm}
use Rattle.cap_files.specs.declared.blob_file.FileForm.TheVariants.{Bytes, Hex}
use Rattle.cap_files.specs.declared.blob_file.TextFault.{TextFault}
use Rattle.cap_files.specs.declared.blob_file.TextFault.TheVariants.{Empty, HalfByte, NotHex}

-- a space, or one of the bytes from the tab to the carriage return
abbrev pub is_white : ℕ → Bool
is_white byte = (byte == 32) || (nat_le 9 byte && nat_le byte 13)

-- the bytes that are no white space
abbrev pub black : List ℕ → List ℕ
black [] = []
black (byte ∷ bytes) = if is_white byte then black bytes else byte ∷ black bytes

-- the place of the first byte that is neither a hex digit nor white space, from this place on
abbrev pub no_digit : ℕ → List ℕ → Option ℕ
no_digit at [] = None
no_digit at (byte ∷ bytes) =
    if is_white byte || is_hex_digit byte then no_digit (at + 1) bytes else Some at

-- how long the word is that a reply has before its blob, with the space behind it
abbrev pub word_len : List ℕ → ℕ
word_len given =
    if starts_with nat_eq given (codes "changeset ") then 10
    else if starts_with nat_eq given (codes "patchset ") then 9
    else if starts_with nat_eq given (codes "buffer ") then 7
    else 0

-- the bytes behind that word
abbrev pub behind_word : List ℕ → List ℕ
behind_word given = drop (word_len given) given

-- what a file has: in which form, and the bytes of the blob
abbrev pub Found : Type 0
Found = FileForm × List ℕ

-- hex digits without white space
abbrev pub digits_blob : List ℕ → Result Found TextFault
digits_blob digits = result_map_both (λ bytes. (Hex, bytes)) (λ error. HalfByte) (decode_of digits)

abbrev pub hex_blob : Option ℕ → List ℕ → Result Found TextFault
hex_blob None given = digits_blob (black (behind_word given))
hex_blob (Some at) given = Err (NotHex at)

-- the place in the file of the first byte behind that word that is neither a hex digit nor white space
abbrev pub no_digit_in : List ℕ → Option ℕ
no_digit_in given = option_map (λ at. word_len given + at) (no_digit 0 (behind_word given))

-- By the first byte behind such a word that is no white space: a hex digit begins hex digits, and `-` alone is
-- the blob without bytes, as an empty capture is printed. All else is bytes.
abbrev pub blob_behind : List ℕ → List ℕ → Result Found TextFault
blob_behind [] given = Err Empty
blob_behind (byte ∷ bytes) given =
    if (byte == 45) && (length bytes == 0) then Ok (Hex, [])
    else if is_hex_digit byte then hex_blob (no_digit_in given) given else Ok (Bytes, given)

abbrev pub file_blob : List ℕ → Result Found TextFault
file_blob given = blob_behind (black (behind_word given)) given
