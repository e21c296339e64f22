-- What is known of a run's input.
use Rattle.std.proofs.Common.{◌≡◌, ◌∙◌, ap, ℕ, ◌+◌, false, add-one, List, Option, Some, None, ◌⊎◌, Result, Ok, Err, IfSome, IfErr, IsUtf8, arith, inl, inr, refl, subst, sym}
use Rattle.cap_value.specs.declared.memory.Fault.TheVariants.{Refused}
use Rattle.cap_run.specs.Run.{IsSpelled}
use Rattle.cap_stream.specs.StreamCalls.{AllWent, Calls}
use Rattle.cap_run.specs.Reads.{EndsAtFault, EndsReads}
use Rattle.cap_run.specs.RunFault.{exit_status, is_read, is_script, IsNoWorkload, IsOfText, IsUnread, IsUnspelled, RunsNothing}
use Rattle.cap_run.specs.declared.fault.RunFault.{RunFault}
use Rattle.cap_run.specs.declared.fault.RunFault.TheVariants.{BlobList, Blob, Call, Close, NotHex, NotUtf8, OutOfMemory, Patchset, Read, Script, Write}
use Rattle.cap_script.specs.FirstRefused.{SpellsWithin}
use Rattle.cap_script.specs.RefusedLines.{NoLines}
use Rattle.cap_replies.specs.Lines.{SpellsLines}
use Rattle.cap_script.specs.declared.fault.ScriptFault.{ScriptFault}
use Rattle.cap_script.specs.declared.fault.ScriptFault.TheVariants as script
use Rattle.cap_replies.specs.declared.run_line.ReplyForm.{ReplyForm}
use Rattle.cap_replies.specs.declared.run_line.RunLine.{RunLine}

-- a fault after the text was read is not one of the text
pub no_text_fault : {X : Type 0} (known : Option (List ℕ)) (answer : Result X RunFault) → IfErr answer (λ fault. exit_status fault ≡ 3) → IfSome known (λ given. answer ≡ Err NotUtf8 → ¬ (IsUtf8 given))
no_text_fault None answer later = tt
no_text_fault {X} (Some given) answer later =
    λ e utf8. let P : Result X RunFault → Type 0 = λ r. IfErr r (λ fault. exit_status fault ≡ 3) in
    let same : 1 ≡ 3 = subst P e later in
    absurd (omega (arith, same))

-- what was read is a text
pub text_known : (P : List ℕ → Type 0) (known : Option (List ℕ)) (bytes text : List ℕ) → text ≡ bytes → IfSome known (λ given. bytes ≡ given) → IsUtf8 text → IfSome known (λ given. ¬ (IsUtf8 given) → P given)
text_known P None bytes text same whole utf8 = tt
text_known P (Some given) bytes text same whole utf8 = λ no. absurd (no (subst IsUtf8 (same ∙ whole) utf8))

pub unread_early : (fault : RunFault) → (fault ≡ NotUtf8) ⊎ IsUnread fault → RunsNothing fault
unread_early fault (inl e) = subst RunsNothing (sym e) tt
unread_early fault (inr (inl e)) = subst RunsNothing (sym e) tt
unread_early fault (inr (inr e)) = subst RunsNothing (sym e) tt

-- a fault of the run is none of the input
pub not_of_input : {X : Type 0} (P : Type 0) (answer : Result X RunFault) → IfErr answer (λ fault. exit_status fault ≡ 3) → IfErr answer (λ fault. exit_status fault ≡ 1 → P)
not_of_input P (Ok x) later = tt
not_of_input P (Err fault) later = λ refused. absurd (omega (arith, later, refused))

-- what the text spells is spelled by what the reader gave
pub input_spelled : (form : ReplyForm) {A : Type 0} (lines : List (RunLine A)) (known : Option (List ℕ)) (bytes text : List ℕ) → text ≡ bytes → IfSome known (λ given. bytes ≡ given) → SpellsLines form lines text → IsSpelled form known lines
input_spelled form lines None bytes text same whole spelled = tt
input_spelled form lines (Some given) bytes text same whole spelled = subst (λ (l : List ℕ). SpellsLines form lines l) (same ∙ whole) spelled

-- ---- which texts are refused

-- what is so of the text that was read, and what is so of each text
pub known_text : (P : List ℕ → Type 0) (known : Option (List ℕ)) (bytes text : List ℕ) → text ≡ bytes → IfSome known (λ given. bytes ≡ given) → P text → IfSome known P
known_text P None bytes text same whole p = tt
known_text P (Some given) bytes text same whole p = subst P (same ∙ whole) p

pub each_text : (P : List ℕ → Type 0) (known : Option (List ℕ)) → ((given : List ℕ) → P given) → IfSome known P
each_text P None p = tt
each_text P (Some given) p = p given

no_script_later : (fault : RunFault) → exit_status fault ≡ 3 → is_script fault ≡ false
no_script_later (Script fault) later = absurd (omega (arith, later))
no_script_later NotUtf8 later = refl
no_script_later NotHex later = refl
no_script_later (Blob fault) later = refl
no_script_later Patchset later = refl
no_script_later (BlobList fault) later = refl
no_script_later (Call fault) later = refl
no_script_later Read later = refl
no_script_later Write later = refl
no_script_later OutOfMemory later = refl
no_script_later Close later = refl

of_no_text : (A : Type 0) (fault : RunFault) (text : List ℕ) → is_script fault ≡ false → IsOfText A fault text
of_no_text A (Script fault) text none = absurd cc
of_no_text A NotUtf8 text none = tt
of_no_text A NotHex text none = tt
of_no_text A (Blob fault) text none = tt
of_no_text A Patchset text none = tt
of_no_text A (BlobList fault) text none = tt
of_no_text A (Call fault) text none = tt
of_no_text A Read text none = tt
of_no_text A Write text none = tt
of_no_text A OutOfMemory text none = tt
of_no_text A Close text none = tt

-- no text was read
pub unread_no_script : (fault : RunFault) → (fault ≡ NotUtf8) ⊎ IsUnread fault → is_script fault ≡ false
unread_no_script fault (inl e) = ap is_script e
unread_no_script fault (inr (inl e)) = ap is_script e
unread_no_script fault (inr (inr e)) = ap is_script e

pub unread_of_text : (A : Type 0) (fault : RunFault) (text : List ℕ) → (fault ≡ NotUtf8) ⊎ IsUnread fault → IsOfText A fault text
unread_of_text A fault text unread = of_no_text A fault text (unread_no_script fault unread)

pub unspelled_no_workload : (fault : RunFault) → IsUnspelled fault → IsNoWorkload fault
unspelled_no_workload (Script fault) unspelled = inl refl
unspelled_no_workload OutOfMemory unspelled = inr (inr (inr refl))
unspelled_no_workload NotUtf8 unspelled = absurd unspelled
unspelled_no_workload NotHex unspelled = absurd unspelled
unspelled_no_workload (Blob fault) unspelled = absurd unspelled
unspelled_no_workload Patchset unspelled = absurd unspelled
unspelled_no_workload (BlobList fault) unspelled = absurd unspelled
unspelled_no_workload (Call fault) unspelled = absurd unspelled
unspelled_no_workload Read unspelled = absurd unspelled
unspelled_no_workload Write unspelled = absurd unspelled
unspelled_no_workload Close unspelled = absurd unspelled

pub unspelled_early : (fault : RunFault) → IsUnspelled fault → RunsNothing fault
unspelled_early (Script fault) unspelled = tt
unspelled_early OutOfMemory unspelled = tt
unspelled_early NotUtf8 unspelled = tt
unspelled_early NotHex unspelled = tt
unspelled_early (Blob fault) unspelled = tt
unspelled_early Patchset unspelled = tt
unspelled_early (BlobList fault) unspelled = tt
unspelled_early Read unspelled = tt
unspelled_early (Call fault) unspelled = absurd unspelled
unspelled_early Write unspelled = absurd unspelled
unspelled_early Close unspelled = absurd unspelled

-- a refused text spells no lines within the limits
pub refused_within : (A : Type 0) (why : ScriptFault) (text : List ℕ) → NoLines A (Refused why) text → SpellsWithin A text → ⊥
refused_within A (script.Limit line why) text none (lines, spelled, within) = none lines spelled within
refused_within A (script.Syntax line at) text none (lines, spelled, within) = none lines spelled
refused_within A (script.BadBlob line why) text none (lines, spelled, within) = none lines spelled

-- all of the text was parsed
pub no_script_fault : {X : Type 0} (answer : Result X RunFault) → IfErr answer (λ fault. exit_status fault ≡ 3) → IfErr answer (λ fault. is_script fault ≡ false)
no_script_fault (Ok x) later = tt
no_script_fault (Err fault) later = no_script_later fault later

pub fault_of_text : {X : Type 0} (A : Type 0) (answer : Result X RunFault) (text : List ℕ) → IfErr answer (λ fault. exit_status fault ≡ 3) → IfErr answer (λ fault. IsOfText A fault text)
fault_of_text A (Ok x) text later = tt
fault_of_text A (Err fault) text later = of_no_text A fault text (no_script_later fault later)

-- ---- when a failed read is reported

-- bytes that are no text were read
pub no_text_later : {X : Type 0} (P : RunFault → Type 0) (result : Result X RunFault) → IfErr result (λ fault. (fault ≡ NotUtf8) × P fault) → IfErr result (λ fault. is_read fault ≡ false)
no_text_later P (Ok x) so = tt
no_text_later P (Err fault) so = ap is_read so.0

module _ {R : Type 0} (gave failed : R → R → Type 0) where
  pub one_read : (n : ℕ) (old before new : R) → Calls gave n old before → gave before new → Calls gave (n + 1) old new
  one_read n old before new calls last = rw add-one (before, calls, last)

  -- a fault of what follows the reads
  pub reads_before : (fault : RunFault) (old new : R) → is_read fault ≡ false → AllWent gave old new → EndsAtFault gave failed fault old new
  reads_before (Script fault) old new later went = went
  reads_before NotUtf8 old new later went = went
  reads_before NotHex old new later went = went
  reads_before (Blob fault) old new later went = went
  reads_before Patchset old new later went = went
  reads_before (BlobList fault) old new later went = went
  reads_before (Call fault) old new later went = went
  reads_before Read old new later went = absurd (cc later)
  reads_before Write old new later went = went
  reads_before OutOfMemory old new later went = went
  reads_before Close old new later went = went

  -- an outcome of what follows the reads
  pub reads_passed : {X : Type 0} (result : Result X RunFault) (old new : R) → IfErr result (λ fault. is_read fault ≡ false) → AllWent gave old new → EndsReads gave failed result old new
  reads_passed (Ok x) old new later went = went
  reads_passed (Err fault) old new later went = reads_before fault old new later went

  -- out of memory for what was read
  pub reads_kept : (fault : RunFault) (old new : R) → fault ≡ OutOfMemory → AllWent gave old new → EndsAtFault gave failed fault old new
  reads_kept fault old new is went = subst (λ (f : RunFault). EndsAtFault gave failed f old new) (sym is) went

  -- the text spells no workload
  pub reads_unspelled : (fault : RunFault) (old new : R) → IsUnspelled fault → AllWent gave old new → EndsAtFault gave failed fault old new
  reads_unspelled (Script fault) old new early went = went
  reads_unspelled NotUtf8 old new early went = absurd early
  reads_unspelled NotHex old new early went = absurd early
  reads_unspelled (Blob fault) old new early went = absurd early
  reads_unspelled Patchset old new early went = absurd early
  reads_unspelled (BlobList fault) old new early went = absurd early
  reads_unspelled (Call fault) old new early went = absurd early
  reads_unspelled Read old new early went = absurd early
  reads_unspelled Write old new early went = absurd early
  reads_unspelled OutOfMemory old new early went = went
  reads_unspelled Close old new early went = absurd early
