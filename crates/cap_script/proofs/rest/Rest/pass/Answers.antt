use Rattle.std.proofs.Common.{◌≡◌, [], ◌∷◌, List}
use Rattle.cap_script.proofs.LineLemmas.{behind_first, none_left}
use Rattle.cap_script.proofs.rest.Rest.pass.Goals as goal

-- some line is left
nothing_else : {X : Type 0} (x : X) (xs : List X) → x ∷ xs ≡ [] → ⊥
nothing_else x xs e = absurd cc

pub returns-in-Some-clause-others : goal.returns-in-Some-clause-others
returns-in-Some-clause-others g c = λ limits line others spelled.
    let here = c.in-Some.ensures.here in
    behind_first limits line others c.next_text.new.self.text.now c.in-Some.field-0-0.now c.in-Some.behind.now here.0 here.1 (c.in-Some.ensures.passed limits (line ∷ others) spelled)

pub returns-in_default-clause-others : goal.returns-in_default-clause-others
returns-in_default-clause-others g c = λ limits line others spelled.
    absurd (nothing_else line others (none_left limits (line ∷ others) c.next_text.new.self.text.now c.in_default.ensures.here (c.in_default.ensures.passed limits (line ∷ others) spelled)))

pub returns-in_default-clause-left : goal.returns-in_default-clause-left
returns-in_default-clause-left g c = λ limits line others spelled.
    absurd (nothing_else line others (none_left limits (line ∷ others) c.next_text.new.self.text.now c.in_default.ensures.here (c.in_default.ensures.passed limits (line ∷ others) spelled)))
