-- What a command is to a session.
use Rattle.std.proofs.Common.{◌≡◌, ℕ, cond, Some, None, sym, ap, arith}
use Rattle.std.proofs.lemmas.Bool.{ne_eqb}
use Rattle.cap_core.specs.declared.command.Command.{Command}
use Rattle.cap_core.specs.declared.command.Command.TheVariants.{Session}
use Rattle.cap_core.specs.declared.session_command.SessionCommand.{SessionCommand}
use Rattle.cap_core.specs.Flags.{command_to, session_named}
use Rattle.cap_core.proofs.NumberLemmas.{equal_numbers, same_number}

module _ {A : Type 0} where
  pub to_itself : (number : ℕ) (told : SessionCommand A) → command_to number (Session number told) ≡ Some told
  to_itself number told = ap (λ b. cond b (Some told) None) (same_number number)

  pub to_others : (number other : ℕ) (told : SessionCommand A) → (number ≡ other → ⊥) → command_to number (Session other told) ≡ None
  to_others number other told apart = ap (λ b. cond b (Some told) None) (ne_eqb other number (λ same. apart (sym same)))

  pub is_told : (number : ℕ) (c : Command A) (told : SessionCommand A) → command_to number c ≡ Some told → c ≡ Session number told
  is_told number (Session other given) told is = grind (arith, equal_numbers other number)
  is_told number _ told is = cc

  pub is_named : (c : Command A) (number : ℕ) → session_named c ≡ Some number → (told : SessionCommand A) × (c ≡ Session number told)
  is_named (Session other told) number is = (told, let same : other ≡ number = cc in ap (λ k. Session k told) same)
  is_named _ number is = cc
