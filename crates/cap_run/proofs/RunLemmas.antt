-- What one more reply makes of a run, and what was written of it.
use Rattle.std.proofs.Common.{◌≡◌, ℕ, ◌<◌, ◌≤◌, List, [], ◌∷◌, ◌++◌, Bool, true, false, Option, None, Some, Result, Ok, Err, IfErr, IfSome, inl, inr, length, take, drop, take-append-drop, refl, sym, ap, subst, ◌∙◌, append_assoc, append-nil, arith}
use Rattle.std.specs.Io.KnownBytes.{Appends}
use Rattle.std.specs.Option.{IsSome}
use Rattle.std.proofs.lemmas.Bool.{cases_lt}
use Rattle.std.proofs.lemmas.List.{length-reverse}
use Rattle.std.proofs.KnownBytes.{Appends-nil, Appends-trans, Keeps-refl}
use Rattle.cap_locked.specs.Fault.{MatchCallFault}
use Rattle.cap_locked.specs.declared.fault.CallFault.{CallFault}
use Rattle.cap_locked.specs.declared.fault.CallFault.TheVariants as call
use Rattle.cap_core.specs.Answer.{State, state}
use Rattle.cap_core.specs.Past.{HasRoom}
use Rattle.cap_core.specs.declared.command.Command.{Command}
use Rattle.cap_interpreter.specs.Interpreter.{InterpreterState}
use Rattle.cap_interpreter.specs.Lines.{Course, IsAt as Stands, IsFull, after_line, after_lines, begin_course, command_of, deed, events_max, on_a_line, text_of}
use Rattle.cap_replies.specs.declared.run_line.ReplyForm.{ReplyForm}
use Rattle.cap_replies.specs.declared.run_line.RunLine.{RunLine}
use Rattle.cap_replies.specs.Lines.{LinesLeft, SpellsRun}
use Rattle.cap_run.specs.declared.fault.RunFault.{RunFault}
use Rattle.cap_run.specs.declared.fault.RunFault.TheVariants.{BlobList, Script, NotUtf8, NotHex, Blob, Patchset, Call, Read, Write, OutOfMemory, Close}
use Rattle.cap_run.specs.Code.Run.{HaveEnded, MayEnd, RunsNext}
use Rattle.cap_run.specs.Run.{BeginsRun, Ended, EndsAt, HasRoomAt, IsLegalRun, NextIs, IsSpelled, Writes, WritesInput, WritesRun, ending, history_of, replies_to, run_outcome, run_text}
use Rattle.cap_stream.specs.Writing.{AppendsFront}
use Rattle.cap_run.specs.RunFault.{RunsNothing}

-- ---- what of the bytes was written

-- all before these bytes was written, and a beginning of them
pub front_more : (a b c : Option (List ℕ)) (before bytes : List ℕ) → Appends a b before → AppendsFront b c bytes → AppendsFront a c (before ++ bytes)
front_more a b c before bytes wrote (front, rest, parts, more) =
    (before ++ front, rest, ap (λ (r : List ℕ). before ++ r) parts ∙ sym (append_assoc before front rest), Appends-trans a b c before front wrote more)

-- a beginning of the bytes is one of longer bytes
pub front_sooner : (a b : Option (List ℕ)) (bytes after : List ℕ) → AppendsFront a b bytes → AppendsFront a b (bytes ++ after)
front_sooner a b bytes after (front, rest, parts, wrote) =
    (front, rest ++ after, ap (λ (r : List ℕ). r ++ after) parts ∙ append_assoc front rest after, wrote)

-- nothing, where it did not begin
pub writes_nothing : (form : ReplyForm) (A : Type 0) (input : Option (List ℕ)) (fault : RunFault) (a : Option (List ℕ)) → RunsNothing fault → WritesInput A form input (Err fault) a a
writes_nothing form A input (Script fault) a early = Keeps-refl a
writes_nothing form A input NotUtf8 a early = Keeps-refl a
writes_nothing form A input NotHex a early = Keeps-refl a
writes_nothing form A input (Blob fault) a early = Keeps-refl a
writes_nothing form A input Patchset a early = Keeps-refl a
writes_nothing form A input (BlobList fault) a early = Keeps-refl a
writes_nothing form A input (Call fault) a early = absurd early
writes_nothing form A input Read a early = Keeps-refl a
writes_nothing form A input Write a early = absurd early
writes_nothing form A input OutOfMemory a early = Keeps-refl a
writes_nothing form A input Close a early = absurd early

abbrev pub failed : CallFault → Ended
failed fault = Err fault

if_some : {X P : Type 0} (found : Option X) → P → IfSome found (λ x. P)
if_some None p = tt
if_some (Some x) p = p

module _ {A : Type 0} where
  -- ---- lines one after the other

  after_more : (course : Course A) (lines more : List (RunLine A)) → after_lines course (lines ++ more) ≡ after_lines (after_lines course lines) more
  after_more course [] more = refl
  after_more course (x ∷ lines) more = after_more (after_line course x) lines more

  replies_more : (course : Course A) (lines more : List (RunLine A)) → replies_to course (lines ++ more) ≡ replies_to course lines ++ replies_to (after_lines course lines) more
  replies_more course [] more = refl
  replies_more course (x ∷ lines) more =
      let first = on_a_line (text_of course x) in
      let rest = after_line course x in
      ap (λ (t : List ℕ). first ++ t) (replies_more rest lines more)
      ∙ sym (append_assoc first (replies_to rest lines) (replies_to (after_lines rest lines) more))

  -- the lines are those and one more, or more
  pub after_parts : (all lines more : List (RunLine A)) → all ≡ lines ++ more → after_lines begin_course all ≡ after_lines (after_lines begin_course lines) more
  after_parts all lines more parts = ap (λ (ls : List (RunLine A)). after_lines begin_course ls) parts ∙ after_more begin_course lines more

  pub replies_parts : (all lines more : List (RunLine A)) → all ≡ lines ++ more → replies_to begin_course all ≡ replies_to begin_course lines ++ replies_to (after_lines begin_course lines) more
  replies_parts all lines more parts = ap (λ (ls : List (RunLine A)). replies_to begin_course ls) parts ∙ replies_more begin_course lines more

  replies_push : (lines : List (RunLine A)) (line : RunLine A) → replies_to begin_course (lines ++ line ∷ []) ≡ replies_to begin_course lines ++ on_a_line (text_of (after_lines begin_course lines) line)
  replies_push lines line =
      replies_more begin_course lines (line ∷ [])
      ∙ ap (λ (t : List ℕ). replies_to begin_course lines ++ t) (append-nil (on_a_line (text_of (after_lines begin_course lines) line)))

  pub legal_run : (lines : List (RunLine A)) (state : InterpreterState A) → Stands (after_lines begin_course lines) state → IsLegalRun lines
  legal_run lines state stands = record { legal = stands.legal; blobs = stands.blobs }

  -- as many events as the history has
  pub stands_events : (course : Course A) (interpreter : InterpreterState A) → Stands course interpreter → interpreter.core.events ≡ length course.history
  unfolding state
  stands_events course interpreter stands = ap (λ (s : State A). s.events) stands.core ∙ length-reverse course.history

  has_room : (found : Option (Command A)) (events : ℕ) → ((IsSome found × (events_max ≤ events)) → ⊥) → IfSome found (λ command. HasRoom events)
  has_room None events not_full = tt
  has_room (Some command) events not_full = elim (cases_lt events events_max) [ inl less ↦ omega arith | inr more ↦ absurd (not_full (refl, more)) ]

  -- no memory to read the next line
  ends_unread : (fault : CallFault) (lines others : List (RunLine A)) (interpreter : InterpreterState A) → Stands (after_lines begin_course lines) interpreter → 0 < length others
      → MatchCallFault fault (HasRoom interpreter.core.events) (λ front. ⊥) (events_max ≤ interpreter.core.events) → EndsAt (Err fault) lines others
  ends_unread fault lines [] interpreter stands some met = absurd (omega (arith, some))
  ends_unread call.OutOfMemory lines (line ∷ others) interpreter stands some met =
      let course = after_lines begin_course lines in
      let room : HasRoom (length course.history) = omega (arith, met, stands_events course interpreter stands) in
      if_some (command_of (deed course.txn line.line)) room
  ends_unread (call.Overtaken front) lines (line ∷ others) interpreter stands some met = absurd met
  ends_unread call.HistoryFull lines (line ∷ others) interpreter stands some met =
      omega (arith, met, stands_events (after_lines begin_course lines) interpreter stands, stands.few)

  pub may_end-unread : (fault : CallFault) (others : List (RunLine A)) (interpreter : InterpreterState A) → 0 < length others → MatchCallFault fault (HasRoom interpreter.core.events) (λ front. ⊥) (events_max ≤ interpreter.core.events) → MayEnd fault others interpreter
  may_end-unread fault others interpreter some met = λ lines stands. ends_unread fault lines others interpreter stands some met

  -- the next line has no reply
  ends_line : (fault : CallFault) (lines rest : List (RunLine A)) (line : RunLine A) (interpreter : InterpreterState A) → Stands (after_lines begin_course lines) interpreter
      → MatchCallFault fault (Unit {0}) (λ front. ⊥) (IsFull interpreter line) → (IsFull interpreter line → failed fault ≡ failed call.HistoryFull) → EndsAt (Err fault) lines (line ∷ rest)
  ends_line call.OutOfMemory lines rest line interpreter stands met full =
      let course = after_lines begin_course lines in
      let same = stands_events course interpreter stands in
      let P : Ended → Type 0 = λ e. IfErr e (λ why. MatchCallFault why (Unit {0}) (λ front. ⊥) ⊥) in
      let not_full : (IsSome (command_of (deed course.txn line.line)) × (events_max ≤ length course.history)) → ⊥ =
      λ (some, more). subst P (full (subst (λ t. IsSome (command_of (deed t line.line))) (sym stands.txn) some, omega (arith, more, same))) tt in
      has_room (command_of (deed course.txn line.line)) (length course.history) not_full
  ends_line (call.Overtaken front) lines rest line interpreter stands met full = absurd met
  ends_line call.HistoryFull lines rest line interpreter stands met full =
      omega (arith, met.1, stands_events (after_lines begin_course lines) interpreter stands, stands.few)

  pub may_end-line : (fault : CallFault) (others rest : List (RunLine A)) (line : RunLine A) (interpreter : InterpreterState A) → others ≡ line ∷ rest → MatchCallFault fault (Unit {0}) (λ front. ⊥) (IsFull interpreter line)
      → (IsFull interpreter line → failed fault ≡ failed call.HistoryFull) → MayEnd fault others interpreter
  may_end-line fault others rest line interpreter parts met full =
      λ lines stands. subst (λ (ls : List (RunLine A)). EndsAt (Err fault) lines ls) (sym parts) (ends_line fault lines rest line interpreter stands met full)

  -- ---- what a run wrote

  -- what a run of the lines wrote that the input spells
  pub writes_input : (form : ReplyForm) (input : Option (List ℕ)) (lines : List (RunLine A)) (outcome : Result (Unit {0}) RunFault) (a b : Option (List ℕ)) → IsSpelled form input lines → Writes form lines outcome a b → WritesInput A form input outcome a b
  writes_input form input lines (Ok done) a b spelled wrote = (lines, spelled, wrote)
  writes_input form input lines (Err (Script fault)) a b spelled wrote = wrote
  writes_input form input lines (Err NotUtf8) a b spelled wrote = wrote
  writes_input form input lines (Err NotHex) a b spelled wrote = wrote
  writes_input form input lines (Err (Blob fault)) a b spelled wrote = wrote
  writes_input form input lines (Err Patchset) a b spelled wrote = wrote
  writes_input form input lines (Err (BlobList fault)) a b spelled wrote = wrote
  writes_input form input lines (Err (Call fault)) a b spelled wrote = (lines, spelled, wrote)
  writes_input form input lines (Err Read) a b spelled wrote = wrote
  writes_input form input lines (Err Write) a b spelled wrote = (lines, spelled, wrote)
  writes_input form input lines (Err OutOfMemory) a b spelled wrote = wrote
  writes_input form input lines (Err Close) a b spelled wrote = wrote

  -- all of it
  pub writes_run : (form : ReplyForm) (lines : List (RunLine A)) (ended : Ended) (pending : List ℕ) (a b c d : Option (List ℕ)) → HaveEnded lines ended pending a b → Appends b c pending → Appends c d (ending form ended)
      → WritesRun form lines ended a d
  writes_run form lines ended pending a b c d so more last =
      let replies = replies_to begin_course so.first in
      let wrote = subst (λ (t : List ℕ). Appends a c t) so.text_is (Appends-trans a b c so.written pending so.wrote more) in
      (so.first, so.others, so.parts, so.run, so.ends, Appends-trans a c d replies (ending form ended) wrote last)

  -- how the run of the lines ended, as the run's own outcome
  pub writes_ended : (form : ReplyForm) (lines : List (RunLine A)) (ended : Ended) (a b : Option (List ℕ)) → WritesRun form lines ended a b → Writes form lines (run_outcome ended) a b
  writes_ended form lines (Ok done) a b wrote = wrote
  writes_ended form lines (Err fault) a b wrote = wrote

  -- a beginning, where the last replies were not all written
  pub begins_front : (form : ReplyForm) (lines first others : List (RunLine A)) (written pending : List ℕ) (a b c : Option (List ℕ)) → lines ≡ first ++ others → IsLegalRun first → written ++ pending ≡ replies_to begin_course first
      → Appends a b written → AppendsFront b c pending → BeginsRun form lines a c
  begins_front form lines first others written pending a b c parts run is wrote front =
      let begun = subst (λ (t : List ℕ). AppendsFront a c t) is (front_more a b c written pending wrote front) in
      (first, others, Ok tt, parts, run, front_sooner a c (replies_to begin_course first) [] begun)

  pub begins_pending : (form : ReplyForm) (lines : List (RunLine A)) (ended : Ended) (pending : List ℕ) (a b c : Option (List ℕ)) → HaveEnded lines ended pending a b → AppendsFront b c pending → BeginsRun form lines a c
  begins_pending form lines ended pending a b c so front = begins_front form lines so.first so.others so.written pending a b c so.parts so.run so.text_is so.wrote front

  pub begins_last : (form : ReplyForm) (lines : List (RunLine A)) (ended : Ended) (pending : List ℕ) (a b c d : Option (List ℕ)) → HaveEnded lines ended pending a b → Appends b c pending → AppendsFront c d (ending form ended)
      → BeginsRun form lines a d
  begins_last form lines ended pending a b c d so more front =
      let replies = replies_to begin_course so.first in
      let wrote = subst (λ (t : List ℕ). Appends a c t) so.text_is (Appends-trans a b c so.written pending so.wrote more) in
      (so.first, so.others, ended, so.parts, so.run, front_more a c d replies (ending form ended) wrote front)

  -- a write failed
  pub writes_front : (form : ReplyForm) (lines : List (RunLine A)) (fault : RunFault) (a b : Option (List ℕ)) → fault ≡ Write → BeginsRun form lines a b → Writes form lines (Err fault) a b
  writes_front form lines fault a b is begun = subst (λ (f : RunFault). Writes form lines (Err f) a b) (sym is) begun

  -- ---- the lines that a text spells

  -- The first of the lines have replies, after which the interpreter stands so. Their text was written, but for what is
  -- pending. The rest of the text spells the others.
  pub record IsAt (lines : List (RunLine A)) (rest : LinesLeft) (state : InterpreterState A) (pending : List ℕ) (old new : Option (List ℕ)) : Type 0 where
    pub first : List (RunLine A)
    pub others : List (RunLine A)
    pub parts : lines ≡ first ++ others
    pub spelled : SpellsRun others rest
    pub stands : Stands (after_lines begin_course first) state
    pub written : List ℕ
    pub text_is : written ++ pending ≡ replies_to begin_course first
    pub wrote : Appends old new written

  pub at_none : (lines : List (RunLine A)) (rest : LinesLeft) (state : InterpreterState A) (pending : List ℕ) (known : Option (List ℕ)) → Stands begin_course state → pending ≡ [] → SpellsRun lines rest
      → IsAt lines rest state pending known known
  at_none lines rest state pending known stands none spelled = record {
    first = [];
    others = lines;
    parts = refl;
    spelled = spelled;
    stands = stands;
    written = [];
    text_is = none;
    wrote = Appends-nil known;
  }

  -- behind the last line
  pub at_end : (lines : List (RunLine A)) (rest left : LinesLeft) (state next : InterpreterState A) (pending more : List ℕ) (a b : Option (List ℕ)) (found : Bool) (so : IsAt lines rest state pending a b) → found ≡ false
      → RunsNext found so.others left state next pending more → HaveEnded lines (Ok tt) more a b
  at_end lines rest left state next pending more a b found so none runs =
      let (last, same) = subst (λ (f : Bool). RunsNext f so.others left state next pending more) none runs in
      record {
        first = so.first;
        others = so.others;
        parts = so.parts;
        run = legal_run so.first state so.stands;
        ends = last;
        written = so.written;
        text_is = ap (λ (t : List ℕ). so.written ++ t) same ∙ so.text_is;
        wrote = so.wrote;
      }

  -- at a line that has no reply
  pub at_fault : (lines : List (RunLine A)) (rest : LinesLeft) (state : InterpreterState A) (pending left : List ℕ) (a b : Option (List ℕ)) (fault : CallFault) (so : IsAt lines rest state pending a b)
      → MayEnd fault so.others state → left ≡ pending → HaveEnded lines (Err fault) left a b
  at_fault lines rest state pending left a b fault so may same = record {
    first = so.first;
    others = so.others;
    parts = so.parts;
    run = legal_run so.first state so.stands;
    ends = may so.first so.stands;
    written = so.written;
    text_is = ap (λ (t : List ℕ). so.written ++ t) same ∙ so.text_is;
    wrote = so.wrote;
  }

  -- the line has its reply
  pub at_next : (lines : List (RunLine A)) (rest left : LinesLeft) (state next : InterpreterState A) (pending more : List ℕ) (a b : Option (List ℕ)) (found : Bool) (so : IsAt lines rest state pending a b) → found ≡ true
      → RunsNext found so.others left state next pending more → IsAt lines left next more a b
  at_next lines rest left state next pending more a b found so one runs =
      let (line, others, is, spelled, step) = subst (λ (f : Bool). RunsNext f so.others left state next pending more) one runs in
      let course = after_lines begin_course so.first in
      let reply = on_a_line (text_of course line) in
      let ran = step course so.stands in
      record {
        first = so.first ++ line ∷ [];
        others = others;
        parts = so.parts ∙ ap (λ (ls : List (RunLine A)). so.first ++ ls) is ∙ sym (append_assoc so.first (line ∷ []) others);
        spelled = spelled;
        stands = subst (λ (c : Course A). Stands c next) (sym (after_more begin_course so.first (line ∷ []))) ran.0;
        written = so.written;
        text_is = ap (λ (t : List ℕ). so.written ++ t) ran.1 ∙ sym (append_assoc so.written pending reply) ∙ ap (λ (t : List ℕ). t ++ reply) so.text_is
            ∙ sym (replies_push so.first line);
        wrote = so.wrote;
      }

  -- a front of what was pending is written
  pub at_written : (lines : List (RunLine A)) (rest : LinesLeft) (state : InterpreterState A) (pending left : List ℕ) (a b c : Option (List ℕ)) → IsAt lines rest state pending a b
      → ((front : List ℕ) × (pending ≡ front ++ left) × Appends b c front) → IsAt lines rest state left a c
  at_written lines rest state pending left a b c so (front, parts, wrote) = record {
    first = so.first;
    others = so.others;
    parts = so.parts;
    spelled = so.spelled;
    stands = so.stands;
    written = so.written ++ front;
    text_is = append_assoc so.written front left ∙ ap (λ (t : List ℕ). so.written ++ t) (sym parts) ∙ so.text_is;
    wrote = Appends-trans a b c so.written front so.wrote wrote;
  }

  -- a beginning, where what was pending was not all written
  pub at_begun : (form : ReplyForm) (lines : List (RunLine A)) (rest : LinesLeft) (state : InterpreterState A) (pending : List ℕ) (a b c : Option (List ℕ)) → IsAt lines rest state pending a b → AppendsFront b c pending → BeginsRun form lines a c
  at_begun form lines rest state pending a b c so front =
      begins_front form lines so.first so.others so.written pending a b c so.parts (legal_run so.first state so.stands) so.text_is so.wrote front
