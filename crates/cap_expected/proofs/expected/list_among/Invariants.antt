use Rattle.std.proofs.Common.{◌≡◌, ◌++◌, drop, string_bytes}
use Rattle.std.specs.List.{flat_map}
use Rattle.cap_expected.specs.Expected.{where_on}
use Rattle.cap_expected.proofs.expected.list_among.Given as goal

abbrev pub invariant-loop-word : goal.invariant-loop-word
invariant-loop-word g l =
    string_bytes l.out ++ flat_map (λ word. where_on g.row.A.Denot l.fn.before word.now word.now) (drop l.word-index l.texts)
    ≡ string_bytes l.initial.out ++ flat_map (λ word. where_on g.row.A.Denot l.fn.before word.now word.now) l.texts
