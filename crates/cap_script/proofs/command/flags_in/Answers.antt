use Rattle.std.proofs.Common.{ap, sym, ◌∙◌, refl}
use Rattle.std.proofs.lemmas.List.{drop_all}
use Rattle.cap_script.specs.Language.{flags_in}
use Rattle.cap_script.proofs.WordLaws.{last_flag, next_flag, no_flag, onto_flags}
use Rattle.cap_script.proofs.command.flags_in.Goals as goal

pub loop-letter-preserved : goal.loop-letter-preserved
loop-letter-preserved g c =
    c.loop-letter.invariant ∙ next_flag c.loop-letter.flags.items c.push.new.self.items c.loop-letter.letter-index _ c.in-Some.flag c.as_bytes-letter-items.result.now c.loop-letter-test.true refl (sym c.key_letter.ensures ∙ c.in-Some.is) c.in_ok-push.ensures.items

pub returns : goal.returns
returns g c =
    ap flags_in (sym c.as_bytes-letter-items.ensures.value) ∙ c.loop-letter.invariant
    ∙ ap (λ l. onto_flags c.loop-letter.flags.items (flags_in l)) (drop_all c.loop-letter.letter-index c.as_bytes-letter-items.result.now c.loop-letter-test.false) ∙ last_flag c.loop-letter.flags.items

pub returns-in_default : goal.returns-in_default
returns-in_default g c =
    ap flags_in (sym c.as_bytes-letter-items.ensures.value) ∙ c.loop-letter.invariant
    ∙ no_flag c.loop-letter.flags.items c.loop-letter.letter-index _ c.as_bytes-letter-items.result.now c.loop-letter-test.true refl (sym c.key_letter.ensures ∙ c.in_default.is)
