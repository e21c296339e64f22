-- Changes that follow each other and have one flag are together the change with that flag.
use Rattle.std.proofs.Common.{◌≡◌, List, Bool, Option, ap, ◌∙◌}
use Rattle.std.specs.List.{AllByRecursion}
use Rattle.std.specs.Option.{ForSome}
use Rattle.cap_row.specs.Fields.{Fields}
use Rattle.cap_changes.specs.Change.{change_of}
use Rattle.cap_changes.specs.declared.row_change.RowChange.{RowChange}
use Rattle.cap_group.specs.Combined.{combined}
use Rattle.cap_group.specs.Rows.{Follow, IsRowUnder, is_indirect, together}
use Rattle.cap_group_laws.proofs.JoinLemmas.{follow}

pub followed_one_flag : {A : Type 0} (flags : List Bool) (key : Fields A) (m : Bool) (first : Option (Fields A)) (changes : List (RowChange A)) (last : Option (Fields A)) →
    ForSome first (IsRowUnder flags key) → Follow flags key first changes last → AllByRecursion (λ change. is_indirect change ≡ m) changes → together combined flags changes ≡ change_of flags m first last
followed_one_flag flags key m first changes last f h same =
    let so = follow flags key m first changes last f h in
    so.1 ∙ ap (λ (i : Bool). change_of flags i first last) (so.2 same)
