-- What the steps of a synchronisation leave: of a history, and of the tables.
use Rattle.std.proofs.Common.{◌≡◌, ℕ, true, false, cond, Some, None, Result, Ok, Err, List, [], ◌∷◌, ◌++◌, refl, sym, ap, subst, ◌∙◌}
use Rattle.std.specs.Prelude.{◌+◌, filter, map, reverse}
use Rattle.std.proofs.lemmas.List.{reverse-append}
use Rattle.cap_changes.specs.Group.{TableChanges}
use Rattle.cap_codec.specs.Writable.{has_some}
use Rattle.cap_field.specs.declared.fault.BlobFault.{BlobFault}
use Rattle.cap_codec.specs.declared.read.Contents.{Contents}
use Rattle.cap_codec.specs.declared.read.Contents.TheVariants.{Changes}
use Rattle.cap_apply.specs.Applied.{AppliedState}
use Rattle.cap_apply.specs.Apply.{apply}
use Rattle.cap_apply.specs.Report.{ReportState}
use Rattle.cap_apply.specs.declared.policy.Policy.{Policy}
use Rattle.cap_rebase.specs.Rebaser.{Buffers, configured, rebase, rebased_group, rebased_list, refused, unless}
use Rattle.cap_rebase.specs.declared.refusal.RebaseRefusal.{RebaseRefusal}
use Rattle.cap_session.specs.Sessions.{session_numbered}
use Rattle.cap_session.specs.declared.session_change.SessionChange.TheVariants as change
use Rattle.cap_core.specs.declared.command.Command.{Command}
use Rattle.cap_core.specs.declared.command.Command.TheVariants as command
use Rattle.cap_core.specs.declared.session_command.SessionCommand.TheVariants as to_session
use Rattle.cap_core.specs.declared.event.Event.{Event}
use Rattle.cap_core.specs.declared.reply.Reply.{Reply}
use Rattle.cap_core.specs.declared.reply.Reply.TheVariants as reply
use Rattle.cap_core.specs.Answer.{IsLegal, IsLegalPast, State, answer, event_by, state, state_after, write_reply}
use Rattle.cap_core.specs.Outcome.{applied}
use Rattle.cap_core.specs.Past.{Past}
use Rattle.cap_core.specs.Table.{BlobsFit, BlobsFitPast}
use Rattle.cap_core.specs.Transition.{after_session, after_write, next, session_left}
use Rattle.cap_core.proofs.NextLemmas.{next-is}
use Rattle.cap_captures.specs.Parts.{IsLeftBy, capturing, restarting}
use Rattle.cap_test_convergence.specs.Steps.{IsCarriedOut}

module _ {A : Type 0} where
  -- ---- histories

  -- the state that a history leaves, the newest event first
  pub record Leaves (past : Past A) (s : State A) : Type 0 where
    pub legal : IsLegalPast past
    pub fits : BlobsFitPast past
    pub is : state_after past ≡ s

  pub leaves-of : (h : List (Event A)) (s : State A) → IsLeftBy h s → Leaves (reverse h) s
  unfolding IsLegal BlobsFit state
  leaves-of h s left = record { legal = left.legal; fits = left.fits; is = left.is }

  pub leaves-more : (past : Past A) (s t : State A) (c : Command A) (r : Reply A) → Leaves past s → IsCarriedOut s c r t → Leaves (event_by 0 c r ∷ past) t
  leaves-more past s t c r at step =
      let replied : r ≡ answer (state_after past) c = step.replied ∙ ap (λ u. answer u c) (sym at.is) in
      record {
        legal = (replied, at.legal);
        fits = (step.fits, at.fits);
        is = ap (λ told. state_after (event_by 0 c told ∷ past)) replied ∙ sym (next-is past 0 c at.legal) ∙ ap (λ u. next u c) at.is ∙ sym step.left;
      }

  pub left-by : (h more : List (Event A)) (s : State A) → Leaves (reverse more ++ reverse h) s → IsLeftBy (h ++ more) s
  unfolding IsLegal BlobsFit state
  left-by h more s at = record {
    legal = subst IsLegalPast (sym (reverse-append h more)) at.legal;
    fits = subst BlobsFitPast (sym (reverse-append h more)) at.fits;
    is = ap state_after (reverse-append h more) ∙ at.is;
  }

  -- ---- tables

  pub main-captured : (s : State A) (number : ℕ) → (next s (capturing number)).main ≡ s.main
  main-captured s number =
      elim (session_numbered s.sessions number) as (λ o. (after_session s number o (session_left s.main s.saved to_session.Capture)).main ≡ s.main) [ None ↦ refl | Some session ↦ refl ]

  pub main-restarted : (s : State A) (number : ℕ) → (next s (restarting number)).main ≡ s.main
  main-restarted s number =
      elim (session_numbered s.sessions number) as (λ o. (after_session s number o (session_left s.main s.saved (to_session.Change change.Restart))).main ≡ s.main) [ None ↦ refl | Some session ↦ refl ]

  -- a blob that was applied
  pub record WasApplied (s t : State A) (blob : Contents A) (policy : Policy) (report : ReportState) : Type 0 where
    pub left : AppliedState A
    pub is : apply s.main blob policy ≡ Ok left
    pub reported : report ≡ left.report
    pub tables : t.main ≡ left.database

  pub was-applied : (s t : State A) (blob : Contents A) (policy : Policy) (version : ℕ) (report : ReportState) → IsCarriedOut s (command.Apply blob policy []) (reply.Applied version report) t → WasApplied s t blob policy report
  was-applied s t blob policy version report step =
      elim (apply s.main blob policy) as (λ r. apply s.main blob policy ≡ r → reply.Applied version report ≡ write_reply s (applied r) → t.main ≡ (after_write s [] (applied r)).main → WasApplied s t blob policy report) [
        | Ok left ↦ λ is e tables. record { left = left; is = is; reported = same_report version (s.version + 1) report left.report e; tables = tables }
        | Err why ↦ λ _ e tables. cc
      ] refl step.replied (ap (λ (u : State A). u.main) step.left)
    where
      same_report : (v w : ℕ) (r q : ReportState) → (let told : Reply A = reply.Applied v r in told) ≡ reply.Applied w q → r ≡ q
      same_report v w r q e = cc

  -- ---- lists

  pub same_changes : (a b : List (TableChanges A)) → (let read : Result (Contents A) BlobFault = Ok (Changes a) in read) ≡ Ok (Changes b) → a ≡ b
  same_changes a b e = cc

  abbrev pub with_changes : List (TableChanges A) → List (TableChanges A)
  with_changes groups = filter (λ group. has_some group.changes) groups

  filtered-twice : (groups : List (TableChanges A)) → with_changes (with_changes groups) ≡ with_changes groups
  filtered-twice [] = refl
  filtered-twice (group ∷ groups) =
      elim (has_some group.changes) as (λ b. has_some group.changes ≡ b → with_changes (cond b (group ∷ with_changes groups) (with_changes groups)) ≡ cond b (group ∷ with_changes groups) (with_changes groups)) [
        | true ↦ λ some. ap (λ b. cond b (group ∷ with_changes (with_changes groups)) (with_changes (with_changes groups))) some ∙ ap (λ l. group ∷ l) (filtered-twice groups)
        | false ↦ λ _. filtered-twice groups
      ] refl

  same_list : (a b : List (TableChanges A)) → (let made : Result (List (TableChanges A)) RebaseRefusal = Ok a in made) ≡ Ok b → a ≡ b
  same_list a b e = cc

  pub same_rebased : (a b : List (TableChanges A)) → (let made : Result (List (TableChanges A)) RebaseRefusal = Ok a in made) ≡ Ok b → a ≡ b
  same_rebased a b e = cc

  -- a rebased changeset has no group without changes
  pub rebased-some : (buffers : Buffers A) (local rebased : List (TableChanges A)) → rebase buffers local ≡ Ok rebased → with_changes rebased ≡ rebased
  rebased-some buffers local rebased is =
      elim (refused buffers local) as (λ o. unless o (rebased_list buffers local) ≡ Ok rebased → with_changes rebased ≡ rebased) [
        | None ↦ λ e. subst (λ l. with_changes l ≡ l) (same_list (rebased_list buffers local) rebased e) (filtered-twice (map (rebased_group buffers) local))
        | Some why ↦ λ e. cc
      ] is

  -- a rebaser with one buffer
  pub one-buffer : (buffer : List (TableChanges A)) (buffers : Buffers A) → configured [] buffer ≡ Ok buffers → buffers ≡ buffer ∷ []
  one-buffer buffer buffers is =
      elim (refused [] buffer) as (λ o. unless o (buffer ∷ []) ≡ Ok buffers → buffers ≡ buffer ∷ []) [
        | None ↦ λ e. sym (same_buffers (buffer ∷ []) buffers e)
        | Some why ↦ λ e. cc
      ] is
    where
      same_buffers : (a b : Buffers A) → (let made : Result (Buffers A) RebaseRefusal = Ok a in made) ≡ Ok b → a ≡ b
      same_buffers a b e = cc
