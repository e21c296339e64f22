-- A run's lines, one after the other, and how they end.
use Rattle.std.proofs.Common.{◌≡◌, ℕ, ◌<◌, List, [], ◌∷◌, ◌++◌, Bool, true, false, Option, None, Some, is_some, Ok, Err, length, refl, sym, ap, subst, ◌∙◌, append_assoc, append-nil, arith}
use Rattle.std.specs.Io.KnownBytes.{Appends}
use Rattle.std.proofs.KnownBytes.{Appends-nil, Appends-trans}
use Rattle.std.specs.Prelude.{OnOk}
use Rattle.cap_history.specs.Seat.{SeatState}
use Rattle.cap_run.proofs.RunLemmas.{front_more, front_sooner}
use Rattle.cap_run.proofs.SeatLemmas.{called_longer, called_more, called_none, called_refused}
use Rattle.cap_run.specs.Run.{Ended, ending, run_outcome}
use Rattle.cap_stream.specs.Writing.{AppendsFront}
use Rattle.cap_run.specs.Code.Calls.{AreUnder, EachAt, HaveEnded, HaveCalled, IsBlock, IsNext, IsWholeBlock, RunsLines}
use Rattle.cap_run.specs.declared.fault.RunFault.TheVariants.{Write}
use Rattle.cap_replies.specs.Lines.{LinesLeft, SpellsRun, TakesFirst, begins_at}
use Rattle.cap_replies.specs.declared.run_line.ReplyForm.{ReplyForm}
use Rattle.cap_replies.specs.declared.run_line.RunLine.{RunLine}
use Rattle.cap_locked.specs.declared.fault.CallFault.{CallFault}
use Rattle.cap_locked.specs.declared.fault.CallFault.TheVariants.{OutOfMemory}

pub of_ended : {P : Type 0} (ended : Ended) → P → OnOk ended P
of_ended (Ok done) so = so
of_ended (Err fault) so = tt

module _ {A : Type 0} where
  -- ---- lines of a run, one after the other

  pub under_none : (threads : ℕ) (lines : List (RunLine A)) (rest : LinesLeft) (pending : List ℕ) (seats : List (SeatState A)) (known : Option (List ℕ)) → SpellsRun lines rest → pending ≡ []
      → AreUnder threads lines rest pending seats seats known known
  under_none threads lines rest pending seats known spelled none = record {
    called = [];
    others = lines;
    parts = refl;
    spelled = spelled;
    written = [];
    made = subst (λ (text : List ℕ). HaveCalled threads [] (Ok tt) text seats seats) (sym none) (called_none threads seats);
    wrote = Appends-nil known;
  }

  -- no line but these replies stand behind the others
  pub called_stuck : (threads : ℕ) (lines others : List (RunLine A)) (text : List ℕ) (a b : List (SeatState A)) → HaveCalled threads lines (Ok tt) text a b → 0 < length others
      → HaveCalled threads (lines ++ others) (Err OutOfMemory) text a b
  called_stuck threads lines others text a b so some =
      subst (λ (t : List ℕ). HaveCalled threads (lines ++ others) (Err OutOfMemory) t a b) (append-nil text)
      (called_more threads (Err OutOfMemory) lines others text [] a b b so (called_refused threads others b some))

  pub next-parts : (lines called others : List (RunLine A)) (line : RunLine A) (rest taken left : List (RunLine A)) → lines ≡ called ++ others → others ≡ line ∷ rest → rest ≡ taken ++ left
      → lines ≡ (called ++ line ∷ taken) ++ left
  next-parts lines called others line rest taken left parts first more =
      parts ∙ ap (λ (l : List (RunLine A)). called ++ l) first ∙ ap (λ (l : List (RunLine A)). called ++ line ∷ l) more ∙ sym (append_assoc called (line ∷ taken) left)

  pub next-called : (threads : ℕ) (line : RunLine A) (ended : Ended) (called taken : List (RunLine A)) (written pending more text : List ℕ) (a b c : List (SeatState A)) → HaveCalled threads called (Ok tt) (written ++ pending) a b
      → HaveCalled threads (line ∷ taken) ended text b c → more ≡ pending ++ text → HaveCalled threads (called ++ line ∷ taken) ended (written ++ more) a c
  next-called threads line ended called taken written pending more text a b c so made is =
      subst (λ (t : List ℕ). HaveCalled threads (called ++ line ∷ taken) ended t a c) (append_assoc written pending text ∙ ap (λ (t : List ℕ). written ++ t) (sym is))
      (called_more threads ended called (line ∷ taken) (written ++ pending) text a b c so made)

  pub under_next : (threads : ℕ) (lines : List (RunLine A)) (rest before behind : LinesLeft) (pending more : List ℕ) (line : RunLine A) (a b c : List (SeatState A)) (old new : Option (List ℕ))
      (ended : Ended) (so : AreUnder threads lines rest pending a b old new) → TakesFirst (Some line) so.others before → ended ≡ Ok tt
      → ((others : List (RunLine A)) → SpellsRun others before → IsNext threads line others ended behind pending more b c) → AreUnder threads lines behind more a c old new
  under_next threads lines rest before behind pending more line a b c old new ended so (others, first, spelled) is step =
      let next = subst (λ (e : Ended). IsNext threads line others e behind pending more b c) is (step others spelled) in
      record {
        called = so.called ++ line ∷ next.taken;
        others = next.left;
        parts = next-parts lines so.called so.others line others next.taken next.left so.parts first next.parts;
        spelled = next.spelled;
        written = so.written;
        made = next-called threads line (Ok tt) so.called next.taken so.written pending more next.text a b c so.made next.made next.text_is;
        wrote = so.wrote;
      }

  pub under_refused : (threads : ℕ) (fault : CallFault) (lines : List (RunLine A)) (rest before behind : LinesLeft) (pending more : List ℕ) (line : RunLine A) (a b c : List (SeatState A)) (old new : Option (List ℕ))
      (ended : Ended) (so : AreUnder threads lines rest pending a b old new) → TakesFirst (Some line) so.others before → ended ≡ Err fault
      → ((others : List (RunLine A)) → SpellsRun others before → IsNext threads line others ended behind pending more b c) → HaveEnded threads lines (Err fault) more a c old new
  under_refused threads fault lines rest before behind pending more line a b c old new ended so (others, first, spelled) is step =
      let next = subst (λ (e : Ended). IsNext threads line others e behind pending more b c) is (step others spelled) in
      let parts = next-parts lines so.called so.others line others next.taken next.left so.parts first next.parts in
      let made = next-called threads line (Err fault) so.called next.taken so.written pending more next.text a b c so.made next.made next.text_is in (
        so.written,
        subst (λ (l : List (RunLine A)). HaveCalled threads l (Err fault) (so.written ++ more) a c) (sym parts)
            (called_longer threads fault (so.called ++ line ∷ next.taken) next.left (so.written ++ more) a c made),
        so.wrote,
      )

  pub under_end : (threads : ℕ) (lines : List (RunLine A)) (rest left : LinesLeft) (pending : List ℕ) (a b : List (SeatState A)) (old new : Option (List ℕ)) (so : AreUnder threads lines rest pending a b old new)
      → TakesFirst None so.others left → HaveEnded threads lines (Ok tt) pending a b old new
  under_end threads lines rest left pending a b old new so none = (
    so.written,
    subst (λ (l : List (RunLine A)). HaveCalled threads l (Ok tt) (so.written ++ pending) a b)
        (sym (so.parts ∙ ap (λ (l : List (RunLine A)). so.called ++ l) none ∙ append-nil so.called)) so.made,
    so.wrote,
  )

  -- out of memory for the next line
  pub under_stuck : (threads : ℕ) (lines : List (RunLine A)) (rest : LinesLeft) (pending : List ℕ) (a b : List (SeatState A)) (old new : Option (List ℕ)) (so : AreUnder threads lines rest pending a b old new)
      → 0 < length so.others → HaveEnded threads lines (Err OutOfMemory) pending a b old new
  under_stuck threads lines rest pending a b old new so some = (
    so.written,
    subst (λ (l : List (RunLine A)). HaveCalled threads l (Err OutOfMemory) (so.written ++ pending) a b) (sym so.parts)
        (called_stuck threads so.called so.others (so.written ++ pending) a b so.made some),
    so.wrote,
  )

  -- a front of what was pending is written
  pub under_written : (threads : ℕ) (lines : List (RunLine A)) (rest : LinesLeft) (pending left : List ℕ) (a b : List (SeatState A)) (old new newer : Option (List ℕ)) → AreUnder threads lines rest pending a b old new
      → ((front : List ℕ) × (pending ≡ front ++ left) × Appends new newer front) → AreUnder threads lines rest left a b old newer
  under_written threads lines rest pending left a b old new newer so (front, parts, wrote) = record {
    called = so.called;
    others = so.others;
    parts = so.parts;
    spelled = so.spelled;
    written = so.written ++ front;
    made = subst (λ (t : List ℕ). HaveCalled threads so.called (Ok tt) t a b) (ap (λ (t : List ℕ). so.written ++ t) parts ∙ sym (append_assoc so.written front left)) so.made;
    wrote = Appends-trans old new newer so.written front so.wrote wrote;
  }

  -- the run of the lines ended at a write that failed
  pub under_begun : (form : ReplyForm) (threads : ℕ) (lines : List (RunLine A)) (rest : LinesLeft) (pending : List ℕ) (a b : List (SeatState A)) (old new newer : Option (List ℕ)) → AreUnder threads lines rest pending a b old new
      → AppendsFront new newer pending → RunsLines form threads lines (Err Write) a b old newer
  under_begun form threads lines rest pending a b old new newer so wrote = (
    so.called,
    so.others,
    Ok tt,
    so.written ++ pending,
    so.parts,
    so.made,
    subst (λ (t : List ℕ). AppendsFront old newer t) (sym (append-nil (so.written ++ pending))) (front_more old new newer so.written pending so.wrote wrote),
  )

  -- the outcome of a run whose lines ended so
  pub runs_all : (form : ReplyForm) (threads : ℕ) (lines : List (RunLine A)) (ended : Ended) (pending : List ℕ) (a b : List (SeatState A)) (k l m n : Option (List ℕ)) → HaveEnded threads lines ended pending a b k l
      → Appends l m pending → Appends m n (ending form ended) → RunsLines form threads lines (run_outcome ended) a b k n
  runs_all form threads lines (Ok done) pending a b k l m n (written, made, wrote) more last =
      let all = Appends-trans k l m written pending wrote more in
      (written ++ pending, made, subst (λ (t : List ℕ). Appends k n t) (append-nil (written ++ pending)) (Appends-trans k m n (written ++ pending) [] all last))
  runs_all form threads lines (Err fault) pending a b k l m n (written, made, wrote) more last =
      let all = Appends-trans k l m written pending wrote more in
      (written ++ pending, made, Appends-trans k m n (written ++ pending) (ending form (Err fault)) all last)

  pub runs_front : (form : ReplyForm) (threads : ℕ) (lines : List (RunLine A)) (ended : Ended) (text : List ℕ) (a b : List (SeatState A)) (k n : Option (List ℕ)) → HaveCalled threads lines ended text a b
      → AppendsFront k n (text ++ ending form ended) → RunsLines form threads lines (Err Write) a b k n
  runs_front form threads lines ended text a b k n made wrote = (lines, [], ended, text, sym (append-nil lines), made, wrote)

  -- a write failed at what was pending
  pub runs_some : (form : ReplyForm) (threads : ℕ) (lines : List (RunLine A)) (ended : Ended) (pending : List ℕ) (a b : List (SeatState A)) (k l m : Option (List ℕ)) → HaveEnded threads lines ended pending a b k l
      → AppendsFront l m pending → RunsLines form threads lines (Err Write) a b k m
  runs_some form threads lines ended pending a b k l m (written, made, wrote) more =
      runs_front form threads lines ended (written ++ pending) a b k m made
      (front_sooner k m (written ++ pending) (ending form ended) (front_more k l m written pending wrote more))

  -- or at the fault behind it
  pub runs_most : (form : ReplyForm) (threads : ℕ) (lines : List (RunLine A)) (ended : Ended) (pending : List ℕ) (a b : List (SeatState A)) (k l m n : Option (List ℕ)) → HaveEnded threads lines ended pending a b k l
      → Appends l m pending → AppendsFront m n (ending form ended) → RunsLines form threads lines (Err Write) a b k n
  runs_most form threads lines ended pending a b k l m n (written, made, wrote) more last =
      runs_front form threads lines ended (written ++ pending) a b k n made
      (front_more k m n (written ++ pending) (ending form ended) (Appends-trans k l m written pending wrote more) last)

  -- ---- the lines of a block

  pub block_none : (first : RunLine A) (rest : List (RunLine A)) (text : LinesLeft) → SpellsRun rest text → IsBlock first rest (first ∷ []) text
  block_none first rest text spelled = record { taken = []; left = rest; block_is = refl; parts = refl; each = tt; spelled = spelled }

  each_more : (lines : List (RunLine A)) (line : RunLine A) → EachAt lines → is_some line.line.worker ≡ true → EachAt (lines ++ line ∷ [])
  each_more [] line each at = (at, tt)
  each_more (x ∷ lines) line each at = (each.0, each_more lines line each.1 at)

  -- a line with `@` is put to the block
  pub block_more : (first : RunLine A) (rest block more : List (RunLine A)) (line : RunLine A) (found : Bool) (text middle behind : LinesLeft) → IsBlock first rest block text
      → ((lines : List (RunLine A)) → SpellsRun lines text → (found ≡ begins_at lines) × SpellsRun lines middle) → found ≡ true
      → ((lines : List (RunLine A)) → SpellsRun lines middle → TakesFirst (Some line) lines behind) → more ≡ block ++ line ∷ [] → IsBlock first rest more behind
  block_more first rest block more line found text middle behind so begins at takes is =
      let begun = begins so.left so.spelled in
      let others = takes so.left begun.1 in
      record {
        taken = so.taken ++ line ∷ [];
        left = others.0;
        block_is = is ∙ ap (λ (l : List (RunLine A)). l ++ line ∷ []) so.block_is;
        parts = so.parts ∙ ap (λ (l : List (RunLine A)). so.taken ++ l) others.1 ∙ sym (append_assoc so.taken (line ∷ []) others.0);
        each = each_more so.taken line so.each (ap begins_at (sym others.1) ∙ sym begun.0 ∙ at);
        spelled = others.2;
      }

  -- a line begins with `@` behind the block, so there is one
  pub block_goes_on : {P : Type 0} (first : RunLine A) (rest block : List (RunLine A)) (found : Bool) (text middle behind : LinesLeft) → IsBlock first rest block text
      → ((lines : List (RunLine A)) → SpellsRun lines text → (found ≡ begins_at lines) × SpellsRun lines middle) → found ≡ true
      → ((lines : List (RunLine A)) → SpellsRun lines middle → TakesFirst None lines behind) → P
  block_goes_on first rest block found text middle behind so begins at takes =
      let begun = begins so.left so.spelled in
      let none = takes so.left begun.1 in
      let ends : true ≡ false = sym at ∙ begun.0 ∙ ap begins_at none in
      absurd (cc ends)

  -- the next line has none
  pub block_whole : (first : RunLine A) (rest block : List (RunLine A)) (found : Bool) (text middle : LinesLeft) → IsBlock first rest block text
      → ((lines : List (RunLine A)) → SpellsRun lines text → (found ≡ begins_at lines) × SpellsRun lines middle) → found ≡ false → IsWholeBlock first rest block middle
  block_whole first rest block found text middle so begins none =
      let begun = begins so.left so.spelled in (
        record { taken = so.taken; left = so.left; block_is = so.block_is; parts = so.parts; each = so.each; spelled = begun.1 },
        sym begun.0 ∙ none,
      )

  -- ---- what a line's calls make of what is pending

  -- a line without `@`
  pub next_alone : (threads : ℕ) (line : RunLine A) (rest : List (RunLine A)) (ended : Ended) (behind : LinesLeft) (old new : List ℕ) (a b : List (SeatState A)) → SpellsRun rest behind
      → ((text : List ℕ) × (new ≡ old ++ text) × HaveCalled threads (line ∷ []) ended text a b) → IsNext threads line rest ended behind old new a b
  next_alone threads line rest ended behind old new a b spelled (text, is, made) =
      record { taken = []; left = rest; parts = refl; text = text; text_is = is; made = made; spelled = of_ended ended spelled }

  -- out of memory for a block
  pub next_refused : (threads : ℕ) (line : RunLine A) (rest : List (RunLine A)) (behind : LinesLeft) (old new : List ℕ) (seats : List (SeatState A)) → new ≡ old
      → IsNext threads line rest (Err OutOfMemory) behind old new seats seats
  next_refused threads line rest behind old new seats same = record {
    taken = [];
    left = rest;
    parts = refl;
    text = [];
    text_is = same ∙ sym (append-nil old);
    made = called_refused threads (line ∷ []) seats (omega arith);
    spelled = tt;
  }

  -- a block
  pub next_block : (threads : ℕ) (line : RunLine A) (rest block : List (RunLine A)) (ended : Ended) (behind : LinesLeft) (old new text : List ℕ) (a b : List (SeatState A)) → IsWholeBlock line rest block behind
      → new ≡ old ++ text → HaveCalled threads block ended text a b → IsNext threads line rest ended behind old new a b
  next_block threads line rest block ended behind old new text a b (so, ends) is made = record {
    taken = so.taken;
    left = so.left;
    parts = so.parts;
    text = text;
    text_is = is;
    made = subst (λ (l : List (RunLine A)). HaveCalled threads l ended text a b) so.block_is made;
    spelled = of_ended ended so.spelled;
  }
