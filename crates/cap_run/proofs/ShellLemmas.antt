-- What one more line makes of a shell.
use Rattle.std.proofs.Common.{◌≡◌, ◌∙◌, ◌⊎◌, ℕ, suc, ◌+◌, ◌<◌, ◌≤◌, List, [], ◌∷◌, ◌++◌, Option, None, Some, Result, Ok, Err, IfErr, IfOk, IsUtf8, OnOk, length, length-append, append-nil, append_assoc, ap, inl, inr, sym, refl, subst, arith}
use Rattle.std.specs.Io.KnownBytes.{Appends, IsAtEnd, prepend_known}
use Rattle.std.proofs.KnownBytes.{Appends-nil, Appends-trans}
use Rattle.cap_stream.specs.StreamCalls.{AllWent, Calls, LastFailed}
use Rattle.cap_interpreter.specs.Interpreter.{InterpreterState}
use Rattle.cap_interpreter.specs.Lines.{Course, IsAt as Stands, after_line, after_lines, begin_course, on_a_line, text_of}
use Rattle.cap_script.specs.ReadLine.{IsFound}
use Rattle.cap_script.specs.declared.line.Line.{Line}
use Rattle.cap_locked.specs.declared.fault.CallFault.{CallFault}
use Rattle.cap_locked.specs.declared.fault.CallFault.TheVariants as call
use Rattle.cap_replies.specs.Lines.{run_line}
use Rattle.cap_replies.specs.declared.run_line.ReplyForm.TheVariants.{Text}
use Rattle.cap_replies.specs.declared.run_line.RunLine.{RunLine}
use Rattle.cap_run.specs.BlobList.{HasLines}
use Rattle.cap_run.specs.Code.Shell.{HasAnswered, MatchEnd, MayEnd}
use Rattle.cap_run.specs.Code.Unread.{Counted, CutsLine, Failed, HasLine, HasPart}
use Rattle.cap_run.specs.Reads.{EndsAtFault, LimitReached}
use Rattle.cap_run.specs.Run.{Ended, ending, history_of, replies_to}
use Rattle.cap_stream.specs.Writing.{AppendsFront}
use Rattle.cap_run.specs.Shell.{AreReadAs, EndsBefore, HasRun, IsReadAs, Outputs, Prints, PrintsPart, ReadLine, Spelled, WritesShell, fault_of, faults_of, lines_run, of_each, outputs, run_of}
use Rattle.cap_run.specs.Writes.{EndsAtWriteFault, EndsBoth, EndsWrites}
use Rattle.cap_run.specs.declared.fault.RunFault.{RunFault}
use Rattle.cap_run.specs.declared.fault.RunFault.TheVariants.{Blob, Call, Close, BlobList, NotHex, NotUtf8, OutOfMemory, Patchset, Read, Script, Write}
use Rattle.cap_run.proofs.OutputLemmas.{fault_later, writes_later}
use Rattle.cap_stream.proofs.CallLemmas.{went_on}
use Rattle.cap_run.proofs.RunLemmas.{after_parts, front_more, legal_run, replies_parts, stands_events}
use Rattle.cap_run.proofs.UnreadLemmas.{lines_cut, lines_end, lines_kept, lines_known, lines_one}

-- ---- reads and writes

pub failed_reported : {R : Type 0} (gave failed : R → R → Type 0) (x y : R) → Failed gave failed 1099511627776 x y → EndsAtFault gave failed Read x y
failed_reported gave failed x y (inl last) = inl last
failed_reported gave failed x y (inr most) = inr (1099511627776, refl, most)

module _ {W E : Type 0} (went failed : W → W → Type 0) (e_went e_failed : E → E → Type 0) where
  -- only the first writer was called
  pub first_alone : (result : Result (Unit {0}) RunFault) (a b c : W) (x y : E) → AllWent went a b → AllWent e_went x y → EndsWrites went failed result b c → EndsBoth went failed e_went e_failed result a c x y
  first_alone (Ok done) a b c x y some others so = (went_on went failed a b c some so, others)
  first_alone (Err fault) a b c x y some others so = inl (fault_later went failed fault a b c some so, others)

  -- the first writer did not fail
  pub then_second : (result : Result (Unit {0}) RunFault) (a b : W) (x y : E) → AllWent went a b → EndsWrites e_went e_failed result x y → EndsBoth went failed e_went e_failed result a b x y
  then_second (Ok done) a b x y some so = (some, so)
  then_second (Err fault) a b x y some so = inr (some, so)

  -- after writes without a failure
  pub both_later : (result : Result (Unit {0}) RunFault) (a b c : W) (x y z : E) → AllWent went a b → AllWent e_went x y → EndsBoth went failed e_went e_failed result b c y z → EndsBoth went failed e_went e_failed result a c x z
  both_later (Ok done) a b c x y z some others (one, two) = (went_on went failed a b c some one, went_on e_went e_failed x y z others two)
  both_later (Err fault) a b c x y z some others (inl (one, two)) = inl (fault_later went failed fault a b c some one, went_on e_went e_failed x y z others two)
  both_later (Err fault) a b c x y z some others (inr (one, two)) = inr (went_on went failed a b c some one, fault_later e_went e_failed fault x y z others two)

-- ---- a part of what is written

front_all : (a b : Option (List ℕ)) (bytes : List ℕ) → Appends a b bytes → AppendsFront a b bytes
front_all a b bytes wrote = (bytes, [], sym (append-nil bytes), wrote)

module _ {A : Type 0} where
  -- ---- one line more

  each_push : {X : Type 0} (of_one : ℕ → ReadLine A → List X) (lines : List (ReadLine A)) (line : ReadLine A) (number : ℕ) → of_each of_one number (lines ++ line ∷ []) ≡ of_each of_one number lines ++ of_one (number + length lines) line
  each_push of_one [] line number = (let n : number ≡ number + 0 = omega arith in append-nil (of_one number line) ∙ ap (λ (k : ℕ). of_one k line) n)
  each_push {X} of_one (x ∷ lines) line number =
      let n : (number + 1) + length lines ≡ number + suc (length lines) = omega arith in
      let first = of_one number x in
      let others = of_each of_one (number + 1) lines in
      ap (λ (t : List X). first ++ t) (each_push of_one lines line (number + 1) ∙ ap (λ (k : ℕ). others ++ of_one k line) n)
      ∙ sym (append_assoc first others (of_one (number + suc (length lines)) line))

  read_push : (texts : List (List ℕ)) (lines : List (ReadLine A)) (text : List ℕ) (line : ReadLine A) (number : ℕ) → AreReadAs number texts lines → IsReadAs (number + length texts) text line
      → AreReadAs number (texts ++ text ∷ []) (lines ++ line ∷ [])
  read_push [] [] text line number read one = (let n : number + 0 ≡ number = omega arith in subst (λ (k : ℕ). IsReadAs k text line) n one, tt)
  read_push [] (y ∷ lines) text line number read one = absurd read
  read_push (x ∷ texts) [] text line number read one = absurd read
  read_push (x ∷ texts) (y ∷ lines) text line number read one =
      let n : number + suc (length texts) ≡ (number + 1) + length texts = omega arith in
      (read.0, read_push texts lines text line (number + 1) read.1 (subst (λ (k : ℕ). IsReadAs k text line) n one))

  read_length : (texts : List (List ℕ)) (lines : List (ReadLine A)) (number : ℕ) → AreReadAs number texts lines → length lines ≡ length texts
  read_length [] [] number read = refl
  read_length [] (y ∷ lines) number read = absurd read
  read_length (x ∷ texts) [] number read = absurd read
  read_length (x ∷ texts) (y ∷ lines) number read = ap suc (read_length texts lines (number + 1) read.1)

  -- ---- what one line does

  -- nothing was run
  pub no_command : {P E : Type 0} (reply fault : P → List ℕ) (number : ℕ) (text : List ℕ) (line : ReadLine A) (shown : List ℕ) (result : Result P E) (course : Course A) (state : InterpreterState A)
      → run_of number line ≡ [] → fault_of number line ≡ shown → IsReadAs number text line → Stands course state → IfOk result (λ p. (reply p ≡ []) × (fault p ≡ shown))
      → IfOk result (λ p. HasAnswered number text course state (reply p) (fault p))
  no_command reply fault number text line shown (Ok p) course state none fault_is is so (no_reply, fault_shown) = (
    line,
    is,
    subst (λ (ls : List (RunLine A)). Stands (after_lines course ls) state) (sym none) so,
    no_reply ∙ ap (λ (ls : List (RunLine A)). replies_to course ls) (sym none),
    fault_shown ∙ sym fault_is,
  )
  no_command reply fault number text line shown (Err e) course state none fault_is is so met = tt

  -- the line's command was run
  pub answered_command : (number : ℕ) (text : List ℕ) (line : Line A) (course : Course A) (next : InterpreterState A) (reply fault : List ℕ) → IsUtf8 text → IsFound (Some line) text
      → Stands (after_line course (run_line Text number line)) next → reply ≡ on_a_line (text_of course (run_line Text number line)) → fault ≡ [] → HasAnswered number text course next reply fault
  answered_command number text line course next reply fault utf8 found stands is none =
      (Spelled line, (utf8, found), stands, is ∙ sym (append-nil (on_a_line (text_of course (run_line Text number line)))), none)

  -- ---- lines one after the other

  -- The interpreter stands so after the lines that were done, and their replies and faults were written. The
  -- others are what is left of the input.
  pub record IsAt (input left : Option (List ℕ)) (state : InterpreterState A) (number : ℕ) (old new : Outputs) : Type 0 where
    pub lines : List (ReadLine A)
    pub texts : List (List ℕ)
    pub parts : (others : List (List ℕ)) → HasLines left others → HasLines input (texts ++ others)
    pub read : AreReadAs 1 texts lines
    pub counted : number ≡ length texts
    pub stands : Stands (after_lines begin_course (lines_run lines)) state
    pub printed : Appends old.replies new.replies (replies_to begin_course (lines_run lines))
    pub reported : Appends old.faults new.faults (faults_of lines)

  pub at_first : (input left : Option (List ℕ)) (state : InterpreterState A) (old : Outputs) → Stands begin_course state → ((others : List (List ℕ)) → HasLines left others → HasLines input others) → IsAt input left state 0 old old
  at_first input left state old stands parts = record {
    lines = [];
    texts = [];
    parts = parts;
    read = tt;
    counted = refl;
    stands = stands;
    printed = Appends-nil old.replies;
    reported = Appends-nil old.faults;
  }

  -- what there is of the next line, by its number
  each_counted : {X : Type 0} (of_one : ℕ → ReadLine A → List X) (texts : List (List ℕ)) (lines : List (ReadLine A)) (line : ReadLine A) (number count : ℕ) → AreReadAs 1 texts lines → number ≡ length texts → count ≡ number + 1
      → of_each of_one 1 (lines ++ line ∷ []) ≡ of_each of_one 1 lines ++ of_one count line
  each_counted {X} of_one texts lines line number count read counted is =
      let n : 1 + length lines ≡ count = omega (arith, read_length texts lines 1 read, counted, is) in
      each_push of_one lines line 1 ∙ ap (λ (k : ℕ). of_each of_one 1 lines ++ of_one k line) n

  read_counted : (texts : List (List ℕ)) (lines : List (ReadLine A)) (text : List ℕ) (line : ReadLine A) (number count : ℕ) → AreReadAs 1 texts lines → number ≡ length texts → count ≡ number + 1
      → IsReadAs count text line → AreReadAs 1 (texts ++ text ∷ []) (lines ++ line ∷ [])
  read_counted texts lines text line number count read counted is one =
      let n : count ≡ 1 + length texts = omega (arith, counted, is) in
      read_push texts lines text line 1 read (subst (λ (k : ℕ). IsReadAs k text line) n one)

  pub at_next : (input left rest : Option (List ℕ)) (state next : InterpreterState A) (number count : ℕ) (a b c : Outputs) (text reply fault : List ℕ) (so : IsAt input left state number a b)
      → CutsLine text left rest → count ≡ number + 1 → HasAnswered count text (after_lines begin_course (lines_run so.lines)) next reply fault
      → Appends b.replies c.replies reply × Appends b.faults c.faults fault → IsAt input rest next count a c
  at_next input left rest state next number count a b c text reply fault so cut is (line, one, stands, reply_is, fault_is) (printed, reported) =
      let before = lines_run so.lines in
      let run = run_of count line in
      let more = each_counted run_of so.texts so.lines line number count so.read so.counted is in
      let replies = replies_to begin_course before in
      let faults = each_counted fault_of so.texts so.lines line number count so.read so.counted is in
      record {
        lines = so.lines ++ line ∷ [];
        texts = so.texts ++ text ∷ [];
        parts = λ others has. subst (λ (l : List (List ℕ)). HasLines input l) (sym (append_assoc so.texts (text ∷ []) others)) (so.parts (text ∷ others) (lines_cut text left rest others cut has));
        read = read_counted so.texts so.lines text line number count so.read so.counted is one;
        counted = omega (arith, is, so.counted, length-append so.texts (text ∷ []));
        stands = subst (λ (k : Course A). Stands k next) (sym (after_parts (lines_run (so.lines ++ line ∷ [])) before run more)) stands;
        printed = subst (Appends a.replies c.replies) (ap (λ (t : List ℕ). replies ++ t) reply_is ∙ sym (replies_parts (lines_run (so.lines ++ line ∷ [])) before run more)) (Appends-trans a.replies b.replies c.replies replies reply so.printed printed);
        reported = subst (Appends a.faults c.faults) (ap (λ (t : List ℕ). faults_of so.lines ++ t) fault_is ∙ sym faults) (Appends-trans a.faults b.faults c.faults (faults_of so.lines) fault so.reported reported);
      }

  has_run : (input left : Option (List ℕ)) (state : InterpreterState A) (number : ℕ) (a b : Outputs) (so : IsAt input left state number a b) (others : List (List ℕ)) → HasLines left others → HasRun input others so.lines
  has_run input left state number a b so others has = record {
    texts = so.texts;
    parts = so.parts others has;
    read = so.read;
    run = legal_run (lines_run so.lines) state so.stands;
  }

  prints : (input left : Option (List ℕ)) (state : InterpreterState A) (number : ℕ) (a b : Outputs) (so : IsAt input left state number a b) → Prints so.lines (Ok tt) a b
  prints input left state number a b so = (subst (Appends a.replies b.replies) (sym (append-nil (replies_to begin_course (lines_run so.lines)))) so.printed, so.reported)

  -- the input has ended
  pub at_end : (input left : Option (List ℕ)) (state : InterpreterState A) (number : ℕ) (a b : Outputs) → IsAt input left state number a b → IsAtEnd left → WritesShell A input left (Ok tt) a b
  at_end input left state number a b so none = (so.lines, has_run input left state number a b so [] (lines_end left none), prints input left state number a b so)

  -- a read failed
  pub at_unread : (input left rest : Option (List ℕ)) (state : InterpreterState A) (number : ℕ) (a b : Outputs) → IsAt input left state number a b → HasPart left rest → WritesShell A input rest (Err Read) a b
  at_unread input left rest state number a b so (partial, clear, kept) =
      let known = lines_known (prepend_known partial rest) in (
        so.lines,
        known.0,
        has_run input left state number a b so known.0 (lines_kept left (prepend_known partial rest) known.0 kept known.1),
        (partial, clear, known.1),
        prints input left state number a b so,
      )

  -- out of memory for a line, or the history is full
  pub ends_before : (fault : CallFault) (lines : List (RunLine A)) (state : InterpreterState A) (others : List (List ℕ)) → Stands (after_lines begin_course lines) state → MayEnd fault state → 0 < length others → EndsBefore fault (history_of lines) others
  ends_before call.OutOfMemory lines state others stands may some = some
  ends_before (call.Overtaken front) lines state others stands may some = absurd may
  ends_before call.HistoryFull lines state others stands may some = (some, omega (arith, may, stands.few, stands_events (after_lines begin_course lines) state stands))

  -- a write of what is printed for a line failed
  pub at_line : (input left rest known : Option (List ℕ)) (state next : InterpreterState A) (number count : ℕ) (a b c : Outputs) (text reply fault : List ℕ) (so : IsAt input left state number a b)
      → CutsLine text left rest → count ≡ number + 1 → HasAnswered count text (after_lines begin_course (lines_run so.lines)) next reply fault
      → AppendsFront b.replies c.replies reply × AppendsFront b.faults c.faults fault → WritesShell A input known (Err Write) a c
  at_line input left rest known state next number count a b c text reply fault so cut is (line, one, stands, reply_is, fault_is) (printed, reported) =
      let others = lines_known rest in
      let all = lines_run (so.lines ++ line ∷ []) in
      let before = lines_run so.lines in
      let run = run_of count line in
      let more = each_counted run_of so.texts so.lines line number count so.read so.counted is in
      let replies = replies_to begin_course before in
      let faults = each_counted fault_of so.texts so.lines line number count so.read so.counted is in (
        so.lines ++ line ∷ [],
        others.0,
        Ok tt,
        record {
          texts = so.texts ++ text ∷ [];
          parts = subst (λ (l : List (List ℕ)). HasLines input l) (sym (append_assoc so.texts (text ∷ []) others.0)) (so.parts (text ∷ others.0) (lines_cut text left rest others.0 cut others.1));
          read = read_counted so.texts so.lines text line number count so.read so.counted is one;
          run = legal_run all next (subst (λ (k : Course A). Stands k next) (sym (after_parts all before run more)) stands);
        },
        (
          subst (AppendsFront a.replies c.replies) (ap (λ (t : List ℕ). replies ++ t) reply_is ∙ sym (replies_parts all before run more) ∙ sym (append-nil (replies_to begin_course all))) (front_more a.replies b.replies c.replies replies reply so.printed printed),
          subst (AppendsFront a.faults c.faults) (ap (λ (t : List ℕ). faults_of so.lines ++ t) fault_is ∙ sym faults) (front_more a.faults b.faults c.faults (faults_of so.lines) fault so.reported reported),
        ),
      )

  -- what ended the shell was written, or a beginning of it
  pub at_fault : (input left known : Option (List ℕ)) (state : InterpreterState A) (number : ℕ) (a b : Outputs) (after : Option (List ℕ)) (fault : CallFault) (result : Result (Unit {0}) RunFault) → IsAt input left state number a b
      → MayEnd fault state → ((others : List (List ℕ)) × HasLines left others × (0 < length others)) → OnOk result ⊥
      → IfErr result (λ why. MatchEnd why (λ f. (f ≡ fault) × Appends b.replies after (ending Text (Err fault))) (AppendsFront b.replies after (ending Text (Err fault))))
      → WritesShell A input known result a (outputs after b.faults)
  at_fault input left known state number a b after fault (Ok done) so may some fails wrote = absurd fails
  at_fault input left known state number a b after fault (Err (Script f)) so may some fails wrote = absurd wrote
  at_fault input left known state number a b after fault (Err NotUtf8) so may some fails wrote = absurd wrote
  at_fault input left known state number a b after fault (Err NotHex) so may some fails wrote = absurd wrote
  at_fault input left known state number a b after fault (Err (Blob f)) so may some fails wrote = absurd wrote
  at_fault input left known state number a b after fault (Err Patchset) so may some fails wrote = absurd wrote
  at_fault input left known state number a b after fault (Err (BlobList f)) so may some fails wrote = absurd wrote
  at_fault input left known state number a b after fault (Err (Call f)) so may (others, has, some) fails (same, wrote) =
      let P : CallFault → Type 0 = λ g. WritesShell A input known (Err (Call g)) a (outputs after b.faults) in
      subst P (sym same) (
        so.lines,
        others,
        has_run input left state number a b so others has,
        ends_before fault (lines_run so.lines) state others so.stands may some,
        (Appends-trans a.replies b.replies after (replies_to begin_course (lines_run so.lines)) (ending Text (Err fault)) so.printed wrote, so.reported),
      )
  at_fault input left known state number a b after fault (Err Read) so may some fails wrote = absurd wrote
  at_fault input left known state number a b after fault (Err Write) so may (others, has, some) fails wrote = (
    so.lines,
    others,
    Err fault,
    has_run input left state number a b so others has,
    (front_more a.replies b.replies after (replies_to begin_course (lines_run so.lines)) (ending Text (Err fault)) so.printed wrote, front_all a.faults b.faults (faults_of so.lines) so.reported),
  )
  at_fault input left known state number a b after fault (Err OutOfMemory) so may some fails wrote = absurd wrote
  at_fault input left known state number a b after fault (Err Close) so may some fails wrote = absurd wrote

-- the line is there
pub line_there : (text : List ℕ) (left rest : Option (List ℕ)) → CutsLine text left rest → (others : List (List ℕ)) × HasLines left others × (0 < length others)
line_there text left rest cut = let known = lines_known rest in (text ∷ known.0, lines_cut text left rest known.0 cut known.1, omega arith)
