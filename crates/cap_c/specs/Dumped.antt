-- The dump of a table, as C asks for it.
use Rattle.std.specs.Prelude.{◌⊎◌, ℕ, List, [], ◌∷◌, Option, Some, None, if◌then◌else◌}
use Rattle.std.specs.Option.{option_map}
use Rattle.std.specs.Global.{Global}
use Rattle.cap_codec.specs.declared.key_flags.KeyFlags.{KeyFlags}
use Rattle.cap_database.specs.Tables.{Tables, table_of}
use Rattle.cap_dump.specs.Dump.{dump_bytes}
use Rattle.cap_records.specs.Names.{is_name_text}
use Rattle.cap_c.specs.Outputs.{GivesUp, OutputsBytes}

-- the bytes of a table's dump, where a table has the name
abbrev pub dump_named : Tables Global → List ℕ → KeyFlags → Option (List ℕ)
dump_named tables name flags = option_map (λ table. dump_bytes flags ((name, table) ∷ [])) (table_of tables name)

-- and where the bytes are a name, and a number names key flags
abbrev pub dump_asked : Tables Global → List ℕ → Option KeyFlags → Option (List ℕ)
dump_asked tables name None = None
dump_asked tables name (Some flags) = if is_name_text name then dump_named tables name flags else None

-- the bytes, or misuse where there are none, unless memory runs out
abbrev pub WritesAsked : Option (List ℕ) → ℕ → List ℕ → List ℕ → ℕ → ℕ → Type 0
WritesAsked asked status old new old_len len =
    OutputsBytes asked status old new old_len len ⊎ GivesUp status old new old_len len
