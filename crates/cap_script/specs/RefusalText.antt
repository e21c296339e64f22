-- The text of a refusal, as it is printed.
use Rattle.std.specs.Prelude.{ℕ, Some, None, List, ◌++◌, codes, decimal}
use Rattle.cap_value.specs.declared.refusal.Refusal.{Refusal}
use Rattle.cap_value.specs.declared.refusal.Refusal.TheVariants.{TooLong, BadSchema, WrongWidth, BadColumn}
use Rattle.cap_value.specs.declared.refusal.Refusal.TheVariants.{Duplicate, NoRow, IdsSpent, NoTable}
use Rattle.cap_value.specs.declared.refusal.Refusal.TheVariants.{TableExists, TooMany, Stale, BadFilter}
use Rattle.cap_value.specs.declared.refusal.Refusal.TheVariants.{TooDeep, Incompatible, Aborted, Misuse}
use Rattle.cap_value.specs.declared.refusal.Refusal.TheVariants.{BadName, NoSession, NoDatabase, NoMark}

-- the number and the name of a refusal, as `Refusal` of cap_value has them
unfoldable pub refusal_name : Refusal → List ℕ
refusal_name TooLong = codes "E1 TooLong"
refusal_name BadSchema = codes "E2 BadSchema"
refusal_name WrongWidth = codes "E3 WrongWidth"
refusal_name BadColumn = codes "E4 BadColumn"
refusal_name Duplicate = codes "E5 Duplicate"
refusal_name NoRow = codes "E6 NoRow"
refusal_name IdsSpent = codes "E7 IdsSpent"
refusal_name NoTable = codes "E8 NoTable"
refusal_name TableExists = codes "E9 TableExists"
refusal_name TooMany = codes "E10 TooMany"
refusal_name (Stale base now item) = codes "E11 Stale"
refusal_name (BadFilter at) = codes "E12 BadFilter"
refusal_name TooDeep = codes "E13 TooDeep"
refusal_name Incompatible = codes "E14 Incompatible"
refusal_name (Aborted at) = codes "E15 Aborted"
refusal_name (Misuse at) = codes "E16 Misuse"
refusal_name BadName = codes "E17 BadName"
refusal_name NoSession = codes "E18 NoSession"
refusal_name NoDatabase = codes "E19 NoDatabase"
refusal_name NoMark = codes "E20 NoMark"

-- a stale batch is refused with its base and the present version, and the first item that has changed where
-- it is known
unfoldable pub refusal_text : Refusal → List ℕ
refusal_text (Stale base now None) =
    refusal_name (Stale base now None) ++ codes " base " ++ decimal base ++ codes " now " ++ decimal now
refusal_text (Stale base now (Some item)) =
    refusal_name (Stale base now (Some item)) ++ codes " base " ++ decimal base ++ codes " now "
    ++ decimal now
    ++ codes " item " ++ decimal item
refusal_text why = refusal_name why

-- ---- Refusals of steps of a transaction or of an application over several lines

-- no transaction is open
abbrev pub no_transaction_text : List ℕ
no_transaction_text = codes "refused: E21 NoTransaction"

-- a transaction is open already
abbrev pub in_transaction_text : List ℕ
in_transaction_text = codes "refused: E22 InTransaction"

-- no application stands at a conflict
abbrev pub no_conflict_text : List ℕ
no_conflict_text = codes "refused: E23 NoConflict"

-- the application stands at a conflict
abbrev pub unanswered_text : List ℕ
unanswered_text = codes "refused: E24 Unanswered"

-- a row has another key than the change in whose place it is put
abbrev pub other_key_text : List ℕ
other_key_text = codes "refused: E25 OtherKey"
