use Rattle.std.proofs.Common.{◌∙◌, sym, ap, ℕ, take}
use Rattle.std.specs.Option.{option_copied}
use Rattle.cap_changes.proofs.StoredRecord.{HasFirst, is_read, first_is, first_parts, whole_left, key_left}
use Rattle.cap_changes.proofs.record_ref.RecordRef.next_parts.Goals as goal
use Rattle.cap_changes.proofs.record_ref.RecordRef.next_parts.Goals.{in-None-2, in-Some+in-len1-up+else-not-key}

pub stored_field-requires : goal.stored_field-requires
stored_field-requires g c =
    let has : HasFirst (option_copied c.self.inside.keys) (option_copied c.match-self.keys) c.self.inside.bytes.now = elim c.match-self.branch [
      | in-None-2 w ↦ whole_left _ _ _ (ap option_copied w.in-None.is) (ap option_copied w.keys-is) (sym w.is_empty.ensures ∙ w.if-is_empty.false)
      | in-Some+in-len1-up+else-not-key w ↦ key_left _ _ w.in-Some.keys.now _ _ (ap option_copied w.in-Some.is) (ap option_copied w.keys-is) w.in-len1-up.len_at_least w.if-not-key.false
    ] in
    is_read g.row.A.Denot _ _ _ has c.self.invariant

pub invariant_of-self-2 : goal.invariant_of-self-2
invariant_of-self-2 g c =
    let has : HasFirst (option_copied c.self.inside.keys) (option_copied c.match-self.keys) c.self.inside.bytes.now = elim c.match-self.branch [
      | in-None-2 w ↦ whole_left _ _ _ (ap option_copied w.in-None.is) (ap option_copied w.keys-is) (sym w.is_empty.ensures ∙ w.if-is_empty.false)
      | in-Some+in-len1-up+else-not-key w ↦ key_left _ _ w.in-Some.keys.now _ _ (ap option_copied w.in-Some.is) (ap option_copied w.keys-is) w.in-len1-up.len_at_least w.if-not-key.false
    ] in
    (first_is g.row.A.Denot _ _ _ _ _ has c.self.invariant c.stored_field.ensures).stored

pub returns : goal.returns
returns g c =
    let has : HasFirst (option_copied c.self.inside.keys) (option_copied c.match-self.keys) c.self.inside.bytes.now = elim c.match-self.branch [
      | in-None-2 w ↦ whole_left _ _ _ (ap option_copied w.in-None.is) (ap option_copied w.keys-is) (sym w.is_empty.ensures ∙ w.if-is_empty.false)
      | in-Some+in-len1-up+else-not-key w ↦ key_left _ _ w.in-Some.keys.now _ _ (ap option_copied w.in-Some.is) (ap option_copied w.keys-is) w.in-len1-up.len_at_least w.if-not-key.false
    ] in
    first_parts g.row.A.Denot _ _ c.self.inside.bytes.now _ _ _ _ has c.self.invariant c.stored_field.ensures (ap (λ (n : ℕ). take n c.self.inside.bytes.now) c.saturating_sub.ensures) c.self.view_is
