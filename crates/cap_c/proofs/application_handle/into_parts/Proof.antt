-- `into_parts` reads the pointer out of an open handle, and what the handle owns goes with it.
use Rattle.std.proofs.Common.{◌≡◌, List, [], ◌∷◌, ◌++◌, refl, sym, subst}
use mathlib.Core.Bool.{true, ◌&&◌, true≢false}
use lib.Dec.{T}
use mir.Syntax.{impl, tnil, dnil}
use mir.Raw.{raw as bare}
use mir.Val.{Val, vptr, vstruct, vcons, vnil, of_list, has_ty, WT}
use base.Logic.{SProp, ent, emp, never, fst∗, id⊢}
use prog.Wp.{WpFn}
use types.Logic.{sem}
use types.Kit.{‵, raw, ◌⊛◌, ◌$◌, ◌∵◌, !, qed, by, move, keep, drop, use0, split, rewrite, fsplit, fjoin, fpick, fpack, feq_l, feq_i, suffices}
use types.Part.{whole, sub, agg}
use types.Run.{stop, fld, of_opd, no_more, and_then, returns, enter}
use types.ByLocal.{alloc_all, pass_all, free_all, look_at, get, get_in, sets}
use contract.Monad.{fact, fact_i}
use contract.Running.{tables}
use denote.Exit.{yes}
use denote.RattleType.{RattleType, Valss, owns}
use denote.Builtin.{RawPtr}
use denote.RawPtr.{Ptr, block_ptr, null_ptr, ptr_val, in_a_block}
use denote.Signature.{types_at, plain}
use denote.Memory.{lone}
use denote.Param.{layout}
use denote.Steps.{nothing, heard}
use denote.Struct.Struct.{within}
use denote.Struct.Owning.{shape}
use denote.Triple.Entry.{alive}
use denote.Triple.Walked.{Stays, stay_dropped, walk_of, Goes-dropped}
use Rattle.std.specs.Box.Ownership.{box_owns}
use Rattle.std.proofs.alloc.Calls.{Al, handle_tells}
use Rattle.std.proofs.ResultValues.{and_tt}
use Rattle.std.proofs.raw_atomic.Walks.{proved_at, leaves}
use Rattle.std.specs.contracts.alloc.Global as heap
use Rattle.std.proofs.alloc.Global.TheLaws as heap_laws
use Rattle.std.specs.contracts.impls.GlobalAllocator.TheImpl.{ghosts}
use Rattle.std.specs.Prelude.{Option, Some, None, IsSome}
use Rattle.cap_c.specs.Owns.{owns_if}
use Rattle.cap_connection.specs.contracts.application.Application as state
use Rattle.cap_c.specs.contracts.application_handle.ApplicationHandle as handle
use Rattle.cap_c.specs.contracts.parts.Parts as parts
use Rattle.cap_c.specs.contracts.application_handle.into_parts.{ended, clauses}
use Rattle.cap_c.specs.contracts.application_handle.into_parts.Key.{name as #self}
use Rattle.cap_c.proofs.application_handle.into_parts.Statement.{statement}
use Rattle.cap_c.proofs.application_handle.into_parts.Code as code

abbrev al : Al
al = record { row = heap.the_row; laws = heap_laws.the_row_laws; g = ghosts; d = impl [] tnil dnil; drops = impl [] tnil dnil }

some_of : {X : Type 0} (m : Option X) → IsSome m → (x : X) × (m ≡ Some x)
some_of (Some x) is = (x, refl)
some_of None is = absurd (true≢false (sym is))

pub into_parts_spec : {M : Type 1} → statement M
into_parts_spec 𝓤 𝓛 𝓜 𝓡 wired =
    let H = 𝓛.H in let C = (tables 𝓤 H 𝓜 𝓡 𝓡.env).C in let Λ = (tables 𝓤 H 𝓜 𝓡 𝓡.env).Λ in let c = clauses 𝓛 𝓜.mem 𝓡.returns in let fn = code.function in
    let S : RattleType = state.the_row in let Z : RattleType = heap.the_row in
    let stays : Stays ended.signature.params ended.kept = (stay_dropped (plain (λ _. handle.the_row)) yes, tt) in
    proved_at 𝓛 ended stays c 𝓜 𝓡 (Goes-dropped 𝓛 0 (plain (λ _. handle.the_row)) yes (λ κs x f. refl), tt) #self fn (code.unfolded 𝓤 H 𝓜 𝓡 wired) (λ z are.
    let Post : Val → SProp 𝓤 = (walk_of 𝓛 ended stays c).post z in let Run : List Val → SProp 𝓤 = λ us. WpFn 𝓤 H C Λ fn us Post in
    let h = z.0.3.0 in let a = h.alloc in let vs = z.0.4.0 in
    qed 𝓛 ((raw (alive 𝓛 ended.signature z.0.0 z.0.1) ⊛ ‵ (owns (types_at ended.signature.params z.0.0) z.0.3 z.0.4)) ∷ raw ((c z.0.0 z.0.3).requires z.1) ∷ []) ∵
    move ! (1 ∷ []) $ heard ! (IsSome h.value) (λ is. let x = (some_of h.value is).0 in let known = (some_of h.value is).1 in split ! $ move ! (1 ∷ []) $ fsplit ! $
    fsplit ! $ fpick ! (λ ws. fsplit ! $ feq_l ! (λ ev. fsplit ! $ feq_l ! (λ ep. fsplit ! $ handle_tells al ! a ws.1.0 (λ hv eh fa. move ! (1 ∷ []) $ drop ! $ move ! (1 ∷ []) $ rewrite ! 0 (λ (m : Option S.Denot). ‵ (owns_if S a h.at m)) known refl $
    in_a_block ! h.at (λ p. box_owns (ghosts.dealloc_token a) S p x) (fst∗ 𝓤 (never 𝓤) (sem 𝓛 (ghosts.dealloc_token a (bare (lone S.mir)) null_ptr))) (λ b o e.
    -- [what it owns; the allocator; nothing; the tokens]
    let v : Val = vstruct (vcons (vptr b o) (vcons hv vnil)) in
    let ew : vs ≡ v ∷ [] = subst (λ (p : Ptr). vs ≡ vstruct (of_list (ptr_val p ∷ hv ∷ [])) ∷ []) e (subst (λ (ys : List Val). vs ≡ vstruct (of_list (ptr_val h.at ∷ (ys ++ []))) ∷ []) eh (subst (λ (ps : List Val). vs ≡ vstruct (of_list (ps ++ (ws.1.0 ++ []))) ∷ []) ep ev)) in
    let typed : T (has_ty (layout Z) hv && true) × WT v = (and_tt (has_ty (layout Z) hv) fa.0, (tt, (fa.1, tt))) in
    keep ! (0 ∷ 1 ∷ 3 ∷ []) $
    suffices ! (Run (v ∷ [])) (subst (λ (ys : List Val). ent 𝓤 (Run (v ∷ [])) (Run ys)) (sym (λ i. ew i ++ [])) (id⊢ 𝓤 (Run (v ∷ [])))) $
    enter ! C Λ fn (v ∷ []) Post $ alloc_all ! (λ l. pass_all ! refl (typed, tt) $
    sets ! (of_opd ! (get_in ! (fld ! refl (stop !)) (sub ! 0 refl (whole !)))) refl (tt, tt) $
    sets ! (of_opd ! (get_in ! (fld ! refl (stop !)) (sub ! 1 refl (whole !)))) refl fa $
    sets ! (of_opd ! (get ! refl)) refl (tt, tt) $
    sets ! (agg ! (and_then ! (get ! refl) (and_then ! (get ! refl) (no_more !)))) refl typed $
    returns ! (look_at ! 0 refl) $ free_all ! refl $
    nothing ! $ move ! (2 ∷ 0 ∷ []) $ fjoin ! $ feq_i ! (List Val) (vptr b o ∷ []) (vptr b o ∷ []) refl $ fjoin ! $ feq_i ! (List Val) (v ∷ []) (v ∷ []) refl $ fjoin ! $
    fpack ! (Valss (RawPtr ∷ Z ∷ [])) (within (shape (parts.the_type S Z ghosts)) (block_ptr b o, (a, tt)) (v ∷ [])) (vptr b o ∷ [], (hv ∷ [], tt)) $ fjoin ! $
    use0 𝓛 (raw (fact 𝓤 (h.value ≡ Some x))) (fact_i 𝓤 (h.value ≡ Some x) (emp 𝓤) known) $ nothing ! $ nothing ! $ fjoin ! $ keep ! (3 ∷ 0 ∷ 2 ∷ 1 ∷ []) $
    by ! (leaves 𝓛 ended stays c z v (record { ptr = block_ptr b o; alloc = a; value = x }) (tt, tt) (tt, tt))))))))))
