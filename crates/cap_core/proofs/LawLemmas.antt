-- Laws of histories, sessions and captures.
use Rattle.std.proofs.Common.{◌≡◌, ℕ, Bool, true, false, Option, Some, None, List, [], ◌∷◌, ◌++◌, map, refl, sym, ap, ap₂, ◌∙◌, T, IsTrue, arith, subst, ◌<◌, ◌+◌, length, get_or, length-append}
use Rattle.std.specs.Option.{option_map}
use Rattle.cap_row.specs.Fields.{Fields}
use Rattle.cap_row.specs.Key.{fields_cmp, fields_cmp-Equal}
use Rattle.cap_changes.specs.Change.{change_of}
use Rattle.cap_tree.specs.Tree.{get}
use Rattle.cap_table.specs.Table.{TableState}
use Rattle.cap_database.specs.Tables.{Tables, table_of}
use Rattle.cap_session.specs.declared.record.Record.{Record}
use Rattle.cap_session.specs.Records.{Records}
use Rattle.cap_session.specs.Session.{SessionState}
use Rattle.cap_session.specs.Sessions.{session_numbered}
use Rattle.cap_core.specs.declared.command.Command.{Command}
use Rattle.cap_core.specs.declared.command.Command.TheVariants as command
use Rattle.cap_core.specs.declared.session_command.SessionCommand.{SessionCommand}
use Rattle.cap_core.specs.declared.session_command.SessionCommand.TheVariants.{Change}
use Rattle.cap_core.specs.declared.event.Event.{Event}
use Rattle.cap_core.specs.declared.reply.Reply.{Reply}
use Rattle.cap_core.specs.Answer.{IsLegal, IsLegalPast, State, answer, event_by, reply_of, session_answer, session_reply, state, state_after, history_of}
use Rattle.cap_core.specs.Capture.{change_now, changes_of, session_changes, table_changes}
use Rattle.cap_core.specs.History.{main}
use Rattle.cap_core.specs.Past.{Past, is_accepted}
use Rattle.cap_core.specs.Replies.{replies_after}
use Rattle.cap_core.specs.Session.{all_indirect, records_of, session_of}
use Rattle.cap_core.specs.Touch.{Touch, attach_list, touches, touches_of}
use Rattle.cap_core.specs.Transition.{next, one_more}
use Rattle.cap_core.proofs.NextLemmas.{after_refusal, next-is, state-push}
use Rattle.cap_core.proofs.TouchedLemmas.{find-records_of, get-find, records_of-none, touched_at}
use Rattle.std.specs.Prelude.{All, reverse}
use Rattle.std.specs.List.{AllByRecursion}
use Rattle.std.proofs.lemmas.List.{reverse-append}
use Rattle.std.proofs.lemmas.List.Elements.{recursion_from_All}
use Rattle.cap_core.specs.Table.{BlobFits, BlobsFit, BlobsFitPast}

module _ {A : Type 0} where
  pub no_changes : (name : List ℕ) (table : Option (TableState A)) → table_changes (name, []) table ≡ None
  no_changes name table = grind arith

  untouched_tables : (database : Tables A) (records : List ℕ → Records A) → ((name : List ℕ) → records name ≡ []) → (names : List (List ℕ)) → changes_of database (map (λ name. (name, records name)) names) ≡ []
  untouched_tables database records none [] = refl
  untouched_tables database records none (name ∷ names) = grind (arith, none name, no_changes name (table_of database name), untouched_tables database records none names)

  pub untouched : (past : Past A) (session : ℕ) → touches session past ≡ [] → session_changes (main past) (session_of past session) ≡ []
  untouched past session none =
      untouched_tables (main past) (λ name. records_of (touches_of name (touches session past))) (λ name. ap (λ found. records_of (touches_of name found)) none ∙ records_of-none) (attach_list session past)

  pub first_image : (touched : List (Fields A × Touch A)) (key : Fields A) → get fields_cmp (records_of touched) key ≡ option_map (λ touch. record { image = touch.image; indirect = all_indirect touched key }) (get fields_cmp touched key)
  unfolding touched_at
  first_image touched key =
      get-find fields_cmp (records_of touched) key ∙ find-records_of touched key
      ∙ ap (option_map (λ touch. record { image = touch.image; indirect = all_indirect touched key })) (sym (get-find fields_cmp touched key))

  restored_by : (schema : List Bool) (indirect : Bool) (image : Option (Fields A)) → change_of schema indirect image image ≡ None
  restored_by schema indirect None = refl
  restored_by schema indirect (Some row) = let same = (fields_cmp-Equal row row).1 refl in grind arith

  pub restored : (table : TableState A) (key : Fields A) (touched : Record A) → touched.image ≡ get fields_cmp table.keyed key → change_now table (key, touched) ≡ None
  restored table key touched same = ap (change_of table.schema touched.indirect touched.image) (sym same) ∙ restored_by table.schema touched.indirect touched.image

  -- ---- a history that goes on

  pub grown : (h : List (Event A)) (by : ℕ) (c : Command A) → IsLegal h → IsLegal (h ++ event_by by c (reply_of h c) ∷ [])
  unfolding reply_of
  grown h by c legal = (state-push h by c (state h) (next (state h) c) (answer (state h) c) legal refl refl refl).2

  pub grown-state : (h : List (Event A)) (by : ℕ) (c : Command A) → IsLegal h → state (h ++ event_by by c (reply_of h c) ∷ []) ≡ next (state h) c
  unfolding reply_of
  grown-state h by c legal = sym (state-push h by c (state h) (next (state h) c) (answer (state h) c) legal refl refl refl).1

  pub answered : (h : List (Event A)) (c : Command A) → reply_of h c ≡ answer (state h) c
  unfolding reply_of
  answered h c = refl

  -- ---- a refused command, and the commands after it

  abbrev replies_from : State A → List (Command A) → List (Reply A)
  replies_from s [] = []
  replies_from s (c ∷ commands) = answer s c ∷ replies_from (next s c) commands

  from-state : (past : Past A) → IsLegalPast past → (commands : List (Command A)) → replies_after past commands ≡ replies_from (state_after past) commands
  from-state past legal [] = refl
  from-state past legal (c ∷ commands) =
      ap (λ replies. answer (state_after past) c ∷ replies)
      (from-state (event_by 0 c (answer (state_after past) c) ∷ past) (refl, legal) commands ∙ ap (λ s. replies_from s commands) (sym (next-is past 0 c legal)))

  reply-one_more : (s : State A) (told : SessionCommand A) (session : SessionState A) → session_reply (one_more s) told session ≡ session_reply s told session
  reply-one_more s (Change change) session = refl
  reply-one_more s _ session = refl

  answer-one_more : (s : State A) (c : Command A) → answer (one_more s) c ≡ answer s c
  answer-one_more s (command.Session number told) = λ i. session_answer (session_numbered s.sessions number) (λ session. reply-one_more s told session i)
  answer-one_more s c = grind arith

  next-one_more : (s : State A) (c : Command A) → next (one_more s) c ≡ one_more (next s c)
  next-one_more s c = grind arith

  one_more-same : (s : State A) (commands : List (Command A)) → replies_from (one_more s) commands ≡ replies_from s commands
  one_more-same s [] = refl
  one_more-same s (c ∷ commands) =
      ap₂ (λ reply replies. reply ∷ replies) (answer-one_more s c) (ap (λ t. replies_from t commands) (next-one_more s c) ∙ one_more-same (next s c) commands)

  pub refusal_leaves : (past : Past A) (event : Event A) → IsLegalPast (event ∷ past) → is_accepted event.reply ≡ false → (commands : List (Command A)) → replies_after (event ∷ past) commands ≡ replies_after past commands
  refusal_leaves past event legal refused commands =
      from-state (event ∷ past) legal commands ∙ ap (λ s. replies_from s commands) (sym (after_refusal event past refused)) ∙ one_more-same (state_after past) commands ∙ sym (from-state past legal.1 commands)

pub truth : (b : Bool) → T b → IsTrue b
truth true t = refl
truth false t = absurd t

module _ {A : Type 0} where
  fit-both : (xs ys : Past A) → BlobsFitPast xs → BlobsFitPast ys → BlobsFitPast (xs ++ ys)
  fit-both [] ys fits more = more
  fit-both (x ∷ xs) ys fits more = (fits.0, fit-both xs ys fits.1 more)

  fit-rest : (xs ys : Past A) → BlobsFitPast (xs ++ ys) → BlobsFitPast ys
  fit-rest [] ys fits = fits
  fit-rest (x ∷ xs) ys fits = fit-rest xs ys fits.1

  pub fits_push : (h : List (Event A)) (by : ℕ) (c : Command A) (reply : Reply A) → BlobsFit h → BlobFits c → BlobsFit (h ++ event_by by c reply ∷ [])
  unfolding BlobsFit
  fits_push h by c reply fits one = subst BlobsFitPast (sym (reverse-append h (event_by by c reply ∷ []))) (one, fits)

  pub fits-begins : (h more : List (Event A)) → BlobsFit (h ++ more) → BlobsFit h
  unfolding BlobsFit
  fits-begins h more fits = fit-rest (reverse more) (reverse h) (subst BlobsFitPast (reverse-append h more) fits)

  -- the history of commands whose blobs fit
  history-fits-from : (commands : List (Command A)) (replies : List (Reply A)) → AllByRecursion BlobFits commands → BlobsFit (history_of commands replies)
  unfolding BlobsFit
  history-fits-from [] replies fits = tt
  history-fits-from (c ∷ commands) [] fits = tt
  history-fits-from (c ∷ commands) (reply ∷ replies) fits =
      let event = event_by 0 c reply in
      subst BlobsFitPast (sym (reverse-append (event ∷ []) (history_of commands replies)))
      (fit-both (reverse (history_of commands replies)) (event ∷ []) (history-fits-from commands replies fits.1) (fits.0, tt))

  pub history-fits : (commands : List (Command A)) (replies : List (Reply A)) → All BlobFits commands → BlobsFit (history_of commands replies)
  history-fits commands replies fits = history-fits-from commands replies (recursion_from_All BlobFits commands fits)

module _ {A : Type 0} where
  -- these replies are to as many of the commands, and leave this server
  pub record Ran (commands : List (Command A)) (replies : List (Reply A)) (core : State A) : Type 0 where
    pub legal : IsLegal (history_of commands replies)
    pub left : state (history_of commands replies) ≡ core
    pub fits : BlobsFit (history_of commands replies)
    pub events : core.events ≡ length replies

  pub ran-none : (commands : List (Command A)) (core : State A) → core ≡ state [] → Ran commands [] core
  unfolding IsLegal state BlobsFit
  ran-none [] core is = record { legal = tt; left = sym is; fits = tt; events = ap (λ s. s.events) is }
  ran-none (c ∷ commands) core is = record { legal = tt; left = sym is; fits = tt; events = ap (λ s. s.events) is }

  history_of-push : (commands : List (Command A)) (replies : List (Reply A)) (c : Command A) (r : Reply A) → length replies < length commands → c ≡ get_or commands (length replies) c
      → history_of commands (replies ++ r ∷ []) ≡ history_of commands replies ++ event_by 0 c r ∷ []
  history_of-push [] replies c r lt at = absurd (omega arith)
  history_of-push (x ∷ []) [] c r lt at = ap (λ d. event_by 0 d r ∷ []) (sym at)
  history_of-push (x ∷ y ∷ commands) [] c r lt at = ap (λ d. event_by 0 d r ∷ []) (sym at)
  history_of-push (x ∷ commands) (y ∷ replies) c r lt at = ap (λ h. event_by 0 x y ∷ h) (history_of-push commands replies c r (omega arith) at)

  -- one more command
  pub ran-push : (commands : List (Command A)) (replies : List (Reply A)) (core new : State A) (i : ℕ) (c : Command A) (r : Reply A) → Ran commands replies core → length replies ≡ i → i < length commands → c ≡ get_or commands i c
      → BlobFits c → new ≡ next core c → r ≡ answer core c → Ran commands (replies ++ r ∷ []) new
  ran-push commands replies core new i c r ran same lt at fits is answered =
      let h = history_of commands replies in
      let push = history_of-push commands replies c r (omega arith) (subst (λ n. c ≡ get_or commands n c) (sym same) at) in
      let one : (next core c).events ≡ core.events + 1 = grind arith in
      let met = state-push h 0 c core new r ran.legal ran.left is answered in
      record {
        legal = subst IsLegal (sym push) met.2;
        left = ap state push ∙ sym met.1;
        fits = subst BlobsFit (sym push) (fits_push h 0 c r ran.fits fits);
        events = ap (λ (s : State A). s.events) is ∙ one ∙ omega (arith, ran.events, length-append replies (r ∷ []));
      }
