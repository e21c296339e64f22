-- `grant` at a call: what it is handed, and what a caller has of it. Assumes `Logic`.
use Rattle.std.proofs.Common.{◌≡◌, ℕ, List, [], ◌∷◌, refl, ap}
use mathlib.Core.Bool.{Bool}
use seplogic.Ra.Ura.{Ura}
use mir.Val.{Val, vbool, vptr}
use base.Logic.{SProp, ent, sep, ex, guard, id⊢}
use base.Fml.{Lft, Share, ftrue, fsep, flft}
use prog.Memory.{Memory}
use prog.Routine.{Routine}
use types.Logic.{Logic, sem}
use contract.Monad.{Fun}
use types.Kit.{‵, ◌⊛◌, some, later, ◌$◌, ◌∵◌, !, qed, move, keep, use1, split, join, pick, show, fjoin, feq_i, feq_l, check, await, updating, now as at_once, done}
use denote.Memory.{hidden_shr}
use denote.Builtin.{bool}
use denote.Steps.{nothing, only}
use denote.Triple.Statement.{Contract}
use denote.Triple.Spec.{triple_of}
use Rattle.cap_test_support.specs.contracts.memory.Requests as RQ
use Rattle.cap_test_support.specs.contracts.memory.grant as GR

module _ {M : Type 1} {𝓤 : Ura M} (𝓛 : Logic 𝓤) (at_mem : Memory → SProp 𝓤) (run : Routine → Fun 𝓤) where
  abbrev pub Grant : Contract 𝓤
  Grant = triple_of 𝓛 GR.signature (GR.spec 𝓛 at_mem run)

  abbrev pub at_grant : Lft → Share → ℕ × ℕ → RQ.the_row.Denot → Grant.Ghost
  at_grant κ q c d = (((κ, tt), (q, tt), tt, (record { ref_ptr = c; now = d }, tt), (vptr c.0 c.1 ∷ [], tt)), tt)

module _ {M : Type 1} {𝓤 : Ura M} (𝓛 : Logic 𝓤) (at_mem : Memory → SProp 𝓤) (run : Routine → Fun 𝓤) (κ : Lft) (q : Share) (c : ℕ × ℕ) (d : RQ.the_row.Denot) where
  open 𝓛 use {H, A}

  pub Grant-goes : ent 𝓤 (sep 𝓤 (sem 𝓛 (hidden_shr RQ.the_row κ d c.0 c.1)) (A.lft κ q)) ((Grant 𝓛 at_mem run).pre (at_grant 𝓛 at_mem run κ q c d))
  Grant-goes =
      qed 𝓛 (‵ (hidden_shr RQ.the_row κ d c.0 c.1) ∷ ‵ (flft κ q) ∷ []) ∵ feq_i ! (List Val) (vptr c.0 c.1 ∷ []) (vptr c.0 c.1 ∷ []) refl $ fjoin ! $
      nothing ! $ move ! (1 ∷ []) $ fjoin ! $ nothing ! $ move ! (2 ∷ []) $ join ! $ join ! $ nothing ! $ move ! (1 ∷ []) $ done !

  pub Grant-gives : (v : Val) → ent 𝓤 ((Grant 𝓛 at_mem run).post (at_grant 𝓛 at_mem run κ q c d) v) (H.⇛ (ex 𝓤 (λ (y : Bool). guard 𝓤 (v ≡ vbool y) (A.lft κ q))))
  Grant-gives v =
      qed 𝓛 (types.Kit.raw ((Grant 𝓛 at_mem run).post (at_grant 𝓛 at_mem run κ q c d) v) ∷ []) ∵ updating ! $
      use1 𝓛 (later (some (λ (r : Bool). ((‵ (flft κ q) ⊛ ‵ ftrue) ⊛ ‵ (bool.own_val r (v ∷ []))) ⊛ some (λ (ws : Unit {0} × Unit {0}). ‵ (fsep ftrue ftrue) ⊛ ‵ ftrue)))) (id⊢ 𝓤 _) $ await ! tt $ pick ! (λ r.
      split ! $ split ! $ move ! (1 ∷ []) $ feq_l ! (λ e. split ! $ at_once ! $ show ! (λ (y : Bool). guard 𝓤 (v ≡ vbool y) (A.lft κ q)) r $ check ! (ap only e) $ keep ! (0 ∷ []) $ done !))
