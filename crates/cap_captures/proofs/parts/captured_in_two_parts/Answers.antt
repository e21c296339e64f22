use Rattle.std.proofs.Common.{subst}
use Rattle.cap_codec.specs.declared.key_flags.KeyFlags.TheVariants.{Ones}
use Rattle.cap_captures.proofs.PartLemmas.{GivesPart, GivesWhole, Starts, always-joined, no-first-part, no-second-part, no-whole, none-started, of_ok, parts-made}
use Rattle.cap_captures.proofs.parts.captured_in_two_parts.Goals as goal

pub returns-in-Some-5-clause-parts : goal.returns-in-Some-5-clause-parts
returns-in-Some-5-clause-parts g c =
    λ h stands.
    let session = c.args.session in
    let first = c.args.first.now in
    let second = c.args.second.now in
    parts-made h c.args.core.now session first second stands c.in-Some.start (subst (Starts session c.args.core.now) c.in-Some.is c.in_ok-start.ensures)
    c.in-Some-2.one (subst (GivesPart session c.in-Some.start first) c.in-Some-2.is c.in_ok-one.ensures) c.in-Some-3.two (subst (GivesPart session c.in-Some-2.one.core second) c.in-Some-3.is c.in_ok-two.ensures)
    (λ past session capture is writable. c.bytes_of_a_capture_give_the_rows_now.ensures.changeset_read past session capture Ones is writable) c.captures_in_a_row_are_the_one_capture.ensures.concatenation
    c.in_ok-a_capture_is_writable.ensures.changeset c.in_ok-a_capture_is_writable-2.ensures.changeset
    c.in-Some-4.whole (subst (GivesWhole session c.in-Some.start first second) c.in-Some-4.is c.in_ok-whole.ensures) c.the_concatenation_applies_as_its_captures.ensures.changesets c.the_one_capture_is_without_restarts.ensures
    c.in_ok-together.field-0 c.in-Some-5.together (λ p q is is'. of_ok _ c.concatenated.result c.in_ok-together.field-0 c.in_ok-together.was (c.concatenated.ensures p q is is')) c.in-Some-5.is

pub returns-in_default-clause-none : goal.returns-in_default-clause-none
returns-in_default-clause-none g c =
    λ h stands. none-started h c.args.core.now c.args.session c.args.first.now c.args.second.now stands (subst (Starts c.args.session c.args.core.now) c.in_default.is c.in_ok-start.ensures)

pub returns-in_default-2-clause-none : goal.returns-in_default-2-clause-none
returns-in_default-2-clause-none g c =
    λ h stands.
    no-first-part h c.args.core.now c.args.session c.args.first.now c.args.second.now stands c.in-Some.start (subst (Starts c.args.session c.args.core.now) c.in-Some.is c.in_ok-start.ensures)
    (subst (GivesPart c.args.session c.in-Some.start c.args.first.now) c.in_default-2.is c.in_ok-one.ensures)

pub returns-in_default-3-clause-none : goal.returns-in_default-3-clause-none
returns-in_default-3-clause-none g c =
    λ h stands.
    no-second-part h c.args.core.now c.args.session c.args.first.now c.args.second.now stands c.in-Some.start (subst (Starts c.args.session c.args.core.now) c.in-Some.is c.in_ok-start.ensures)
    c.in-Some-2.one (subst (GivesPart c.args.session c.in-Some.start c.args.first.now) c.in-Some-2.is c.in_ok-one.ensures)
    (subst (GivesPart c.args.session c.in-Some-2.one.core c.args.second.now) c.in_default-3.is c.in_ok-two.ensures)

pub returns-in_default-4-clause-none : goal.returns-in_default-4-clause-none
returns-in_default-4-clause-none g c =
    λ h stands.
    no-whole h c.args.core.now c.args.session c.args.first.now c.args.second.now stands c.in-Some.start (subst (Starts c.args.session c.args.core.now) c.in-Some.is c.in_ok-start.ensures)
    (subst (GivesWhole c.args.session c.in-Some.start c.args.first.now c.args.second.now) c.in_default-4.is c.in_ok-whole.ensures)

pub returns-clause-none : goal.returns-clause-none
returns-clause-none g c =
    λ h stands.
    let session = c.args.session in
    let first = c.args.first.now in
    let second = c.args.second.now in
    always-joined h c.args.core.now session first second stands c.in-Some.start (subst (Starts session c.args.core.now) c.in-Some.is c.in_ok-start.ensures)
    c.in-Some-2.one (subst (GivesPart session c.in-Some.start first) c.in-Some-2.is c.in_ok-one.ensures) c.in-Some-3.two (subst (GivesPart session c.in-Some-2.one.core second) c.in-Some-3.is c.in_ok-two.ensures)
    (λ past session capture is writable. c.bytes_of_a_capture_give_the_rows_now.ensures.changeset_read past session capture Ones is writable) c.captures_in_a_row_are_the_one_capture.ensures.concatenation
    c.in_ok-a_capture_is_writable.ensures.changeset c.in_ok-a_capture_is_writable-2.ensures.changeset
    c.in_ok-together.field-0 (λ p q is is'. of_ok _ c.concatenated.result c.in_ok-together.field-0 c.in_ok-together.was (c.concatenated.ensures p q is is')) c.in-None.is
