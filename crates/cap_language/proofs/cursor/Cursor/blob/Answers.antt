use Rattle.std.proofs.Common.{◌≡◌, ◌∙◌, None, List, ℕ, sym, subst}
use Rattle.cap_language.specs.Forms.{a_blob}
use Rattle.cap_language.specs.Grammar.{wanted_in}
use Rattle.cap_language.specs.Scanning.{token_at}
use Rattle.cap_language.proofs.ScanLaws.{no_blob_at, starts}
use Rattle.cap_language.proofs.cursor.Cursor.blob.Goals as goal

pub returns-in_default : goal.returns-in_default
returns-in_default g c =
    let none = no_blob_at c.skip_spaces.new.self.rest.now (λ x. c.in_default.not-X (sym (starts c.as_bytes.ensures.value c.start_of.ensures) ∙ x)) in
    (subst (λ (here : List ℕ). wanted_in a_blob (token_at here) ≡ None) c.skip_spaces.ensures none, c.skip_spaces.ensures)
