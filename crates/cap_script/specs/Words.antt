-- Words that are printed.
use Rattle.std.specs.Prelude.{ℕ, List, codes}
use Rattle.cap_apply.specs.declared.conflict.ConflictKind.{ConflictKind}
use Rattle.cap_apply.specs.declared.conflict.ConflictKind.TheVariants.{Data, NotFound, Conflict}
use Rattle.cap_apply.specs.declared.policy.Answer.{Answer}
use Rattle.cap_apply.specs.declared.policy.Answer.TheVariants.{Omit, Replace, Abort}

-- the answer to a conflict
abbrev pub answer_word : Answer → List ℕ
answer_word Omit = codes "omit"
answer_word Replace = codes "replace"
answer_word Abort = codes "abort"

-- the kind of a conflict
abbrev pub kind_word : ConflictKind → List ℕ
kind_word Data = codes "data"
kind_word NotFound = codes "notfound"
kind_word Conflict = codes "conflict"
