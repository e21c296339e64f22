use Rattle.std.proofs.Common.{◌≡◌, ◌∙◌, Bool, true, false, ◌&&◌, List, ℕ, sym, ap₂, inl, inr}
use Rattle.std.specs.Str.{IsUtf8, is_utf8}
use Rattle.std.proofs.lemmas.Bool.{cases_Bool}
use Rattle.std.proofs.lemmas.Str.{IsUtf8-from_is_utf8, is_utf8-from_IsUtf8}
use Rattle.cap_value.specs.Bytes.{is_name}
use Rattle.cap_records.specs.Names.{is_name_text}
use Rattle.cap_records.proofs.names.name_text.Goals as goal

is_not : (bytes : List ℕ) → (IsUtf8 bytes → ⊥) → is_utf8 bytes ≡ false
is_not bytes other = elim (cases_Bool (is_utf8 bytes)) [ inl e ↦ absurd (other (IsUtf8-from_is_utf8 bytes e)) | inr e ↦ e ]

pub returns-in-Ok-clause-tested : goal.returns-in-Ok-clause-tested
unfolding is_name_text
returns-in-Ok-clause-tested c =
    let named : is_name c.args.bytes.now ≡ true = sym c.is_name.ensures ∙ c.if-not-is_name.false in
    sym (ap₂ (λ (a b : Bool). a && b) named (is_utf8-from_IsUtf8 _ c.in-Ok.ensures.cases.1))

pub returns-in-Err-clause-tested : goal.returns-in-Err-clause-tested
unfolding is_name_text
returns-in-Err-clause-tested c =
    let named : is_name c.args.bytes.now ≡ true = sym c.is_name.ensures ∙ c.if-not-is_name.false in
    sym (ap₂ (λ (a b : Bool). a && b) named (is_not _ c.in-Err.ensures.cases.0))
