-- The blobs of spelled commands fit their tables.
use Rattle.std.proofs.Common.{◌≡◌, ℕ, Bool, true, false, ◌&&◌, leb, List, [], ◌∷◌, length, Option, Some, Result, Ok, Err, refl, sym, subst, inl, inr}
use Rattle.std.specs.Prelude.{All, ⊤}
use Rattle.std.specs.List.{AllByRecursion, list_all}
use Rattle.std.proofs.lemmas.List.Elements.{All-filter, All-from_recursion}
use Rattle.hex.proofs.HexLemmas.{decode_of-ok}
use Rattle.cap_value.specs.Bytes.{AreBytes, bytes_eq}
use Rattle.cap_value.specs.declared.refusal.Refusal.TheVariants.{TooLong}
use Rattle.cap_database.specs.declared.cause.Cause.TheVariants.{Direct}
use Rattle.cap_database.specs.declared.op.Op.{Op}
use Rattle.cap_session.specs.declared.session_change.SessionChange.{SessionChange}
use Rattle.cap_codec.specs.BlobReading.{blob_at}
use Rattle.cap_codec.specs.Spelling.{Spells as SpellsBlob}
use Rattle.cap_field.specs.declared.fault.BlobFault.{BlobFault}
use Rattle.cap_codec.specs.declared.key_flags.KeyFlags.{KeyFlags}
use Rattle.cap_codec.specs.declared.read.Contents.{Contents}
use Rattle.cap_codec.specs.declared.read.Contents.TheVariants.{Changes, Patches}
use Rattle.cap_changes.specs.Entries.{IsFitting}
use Rattle.cap_changes.specs.Fits.{change_fits, patch_fits}
use Rattle.cap_filter.specs.Accepts.{accepts}
use Rattle.cap_filter.specs.Rule.{Rule}
use Rattle.cap_apply.specs.Fitting.{FitsItsColumns}
use Rattle.cap_apply.specs.declared.policy.Policy.{Policy}
use Rattle.cap_core.specs.declared.command.Command.TheVariants.{Apply}
use Rattle.cap_core.specs.declared.session_command.SessionCommand.{SessionCommand}
use Rattle.cap_core.specs.Table.{BlobFits}
use Rattle.cap_language.specs.Forms.{Words, a_blob, behind, either, one_of}
use Rattle.cap_language.specs.Grammar.{Grammar, Spells, done, exceeds, unfit}
use Rattle.cap_language.specs.Tokens.{Begins, Blob, Integer, Text, Token, Word}
use Rattle.cap_script.specs.Language.{Filtered, Opening, alone, application, apply_each, apply_quiet, applying, attach, called, capturing, captured, cascaded, command, commands, commit, commit_at, contents, contents_of, create, delete, diff, drop_database, dump, each_conflict, ending, filter_behind, flagged, from_diff, from_dump, get, insert, numbered, numbering, opening, put, rollback, save, scan, setting, update, with_words}
use Rattle.cap_script.specs.Script.{Closes, LineSpelled, LinesSpelled, ScriptSpelled, SpellsLine, SpellsScript, filtered_command}
use Rattle.cap_script.specs.declared.command.Filtering.{Filtering}
use Rattle.cap_script.specs.declared.command.Filtering.TheVariants.{Application, EachConflict, Session}
use Rattle.cap_script.specs.declared.command.Spelled.{Spelled}
use Rattle.cap_script.specs.declared.command.Spelled.TheVariants.{Filter, Whole}
use Rattle.cap_script.specs.declared.line.Detail.{Detail}
use Rattle.cap_script.specs.declared.line.Line.{Line}
use Rattle.cap_script.specs.declared.line.Show.{Show}

-- all that the grammar makes
abbrev Makes : {X : Type 0} → (X → Type 0) → Grammar X → Type 0
Makes {X} P g = (x : X) (line rest : List ℕ) → Spells false g x line rest → P x

first_passes : (a b : Bool) → (a && b) ≡ true → a ≡ true
first_passes true b is = refl
first_passes false b is = cc

others_pass : (a b : Bool) → (a && b) ≡ true → b ≡ true
others_pass true b is = is
others_pass false b is = cc

some_bytes : (a b : List ℕ) → ◌≡◌ {A = Option (List ℕ)} (Some a) (Some b) → a ≡ b
some_bytes a b e = cc

module _ {A : Type 0} (fit : (blob : Contents A) (bytes : List ℕ) → SpellsBlob blob bytes → FitsItsColumns blob)
    (spelled : (bytes : List ℕ) (blob : Contents A) → AreBytes bytes → blob_at bytes ≡ Ok blob → SpellsBlob blob bytes) where
  -- what a command is known to be
  abbrev Fits : Spelled A → Type 0
  Fits (Whole command show) = BlobFits command
  Fits (Filter (Session session)) = ⊤
  Fits (Filter (Application blob policy quiet detail)) = FitsItsColumns blob
  Fits (Filter (EachConflict blob)) = ⊤

  blob-fits : (bytes : List ℕ) → AreBytes bytes → (r : Result (Contents A) BlobFault) → blob_at bytes ≡ r → Makes (FitsItsColumns {A = A}) (contents_of r)
  blob-fits bytes are (Ok blob) is x line rest made = subst FitsItsColumns (sym made.0) (fit blob bytes (spelled bytes blob are is))
  blob-fits bytes are (Err why) is x line rest made = absurd made

  short-fits : (bytes : List ℕ) → AreBytes bytes → (short : Bool) → Makes (FitsItsColumns {A = A}) (either short (contents_of (blob_at bytes)) (exceeds TooLong unfit))
  short-fits bytes are true x line rest made = blob-fits bytes are (blob_at bytes) refl x line rest made
  short-fits bytes are false x line rest made = absurd made.1

  token-fits : (token : Token) (bytes line between : List ℕ) → Begins token line between → a_blob token ≡ Some bytes → AreBytes bytes
  token-fits (Blob found) bytes line between begun wanted =
      subst (λ (l : List ℕ). AreBytes l) (some_bytes found bytes wanted) (λ i less. (decode_of-ok begun.0 found begun.2).3 i)
  token-fits (Word w) bytes line between begun wanted = absurd cc
  token-fits (Integer negative n) bytes line between begun wanted = absurd cc
  token-fits (Text t) bytes line between begun wanted = absurd cc

  contents-fit : Makes (FitsItsColumns {A = A}) contents
  unfolding contents
  contents-fit x line rest (token, bytes, between, begun, wanted, made) =
      short-fits bytes (token-fits token bytes _ between begun wanted) (leb (length bytes) 1000000000) x between rest made

  application-fits : (blob : Contents A) (policy : Policy) (quiet : List ℕ) (detail : Detail × Bool) → FitsItsColumns blob → Fits (application blob policy quiet detail)
  application-fits blob policy quiet (detail, false) fits = fits
  application-fits blob policy quiet (detail, true) fits = fits

  apply-fits : (quiet : List ℕ) → Makes Fits (applying quiet)
  unfolding applying
  apply-fits quiet x line rest (blob, a, made, (policy, b, p, (detail, c, q, e))) =
      subst Fits (sym e.0) (application-fits blob policy quiet detail (contents-fit blob line a made))

  apply_quiet-fits : Makes Fits apply_quiet
  unfolding apply_quiet
  apply_quiet-fits x line rest (quiet, a, p, made) = apply-fits quiet x a rest made

  each-fits : (blob : Contents A) (behind : Detail × Bool) → Fits (each_conflict blob behind)
  each-fits blob (detail, false) = tt
  each-fits blob (detail, true) = tt

  apply_each-fits : Makes Fits apply_each
  unfolding apply_each
  apply_each-fits x line rest (blob, a, p, (behind, b, q, e)) = subst Fits (sym e.0) (each-fits blob behind)

  -- ---- commands without a blob

  create-fits : Makes Fits create
  unfolding create
  create-fits x line rest (table, a, p, (schema, b, q, e)) = subst Fits (sym e.0) tt

  commit-fits : Makes Fits commit
  unfolding commit
  commit-fits x line rest (batch, a, p, e) = subst Fits (sym e.0) tt

  commit_at-fits : Makes Fits commit_at
  unfolding commit_at
  commit_at-fits x line rest (base, a, p, (batch, b, q, e)) = subst Fits (sym e.0) tt

  get-fits : Makes Fits get
  unfolding get
  get-fits x line rest (table, a, p, (row, b, q, e)) = subst Fits (sym e.0) tt

  scan-fits : Makes Fits scan
  unfolding scan
  scan-fits x line rest (table, a, p, e) = subst Fits (sym e.0) tt

  save-fits : Makes Fits save
  unfolding save
  save-fits x line rest (database, a, p, e) = subst Fits (sym e.0) tt

  drop_database-fits : Makes Fits drop_database
  unfolding drop_database
  drop_database-fits x line rest (database, a, p, e) = subst Fits (sym e.0) tt

  attach-fits : Makes Fits attach
  unfolding attach
  attach-fits x line rest (session, a, p, (table, b, q, e)) = subst Fits (sym e.0) tt

  setting-fits : (change_to : Option Bool → SessionChange A) → Makes Fits (setting change_to)
  setting-fits change_to x line rest (asked, a, p, e) = subst Fits (sym e.0) tt

  diff-fits : Makes Fits diff
  unfolding diff
  diff-fits x line rest (session, a, p, (from, b, q, (table, c, r, e))) = subst Fits (sym e.0) tt

  capturing-fits : (what : SessionCommand A × (KeyFlags → Show A)) → Makes Fits (capturing what)
  capturing-fits what x line rest (flags, a, p, e) = subst Fits (sym e.0) tt

  dump-fits : Makes Fits dump
  unfolding dump
  dump-fits x line rest (flags, a, p, e) = subst Fits (sym e.0) tt

  called-fits : (operation : Grammar (Op A)) → Makes Fits (called operation)
  called-fits operation x line rest (op, a, p, e) = subst Fits (sym e.0) tt

  rollback-fits : Makes Fits rollback
  unfolding rollback
  rollback-fits x line rest (taken, a, p, e) = subst Fits (sym e.0) tt

  put-fits : Makes Fits put
  unfolding put
  put-fits x line rest (row, a, p, e) = subst Fits (sym e.0) tt

  -- ---- lines

  either-fits : (b : Bool) (first second : Grammar (Spelled A)) → Makes Fits first → Makes Fits second → Makes Fits (either b (behind first) second)
  either-fits true first second one two x line rest (unit, between, nothing, made) = one x line rest (subst (λ (l : List ℕ). Spells false first x l rest) nothing.1 made)
  either-fits false first second one two x line rest made = two x line rest made

  -- what each word begins
  abbrev AreFit : Words (Spelled A) → Type 0
  AreFit [] = Unit {0}
  AreFit ((w, grammar) ∷ others) = Makes Fits grammar × AreFit others

  one_of-fits : (words : Words (Spelled A)) → AreFit words → (w : List ℕ) → Makes Fits (one_of words w)
  one_of-fits [] all w x line rest made = absurd made
  one_of-fits ((v, grammar) ∷ others) (first, all) w x line rest made =
      either-fits (bytes_eq w v) grammar (one_of others w) first (one_of-fits others all w) x line rest made

  -- no blob is applied
  abbrev has_no_blob : Spelled A → Bool
  has_no_blob (Whole (Apply blob policy quiet) show) = false
  has_no_blob (Filter (Application blob policy quiet detail)) = false
  has_no_blob _ = true

  said-fits : (said : Spelled A) → has_no_blob said ≡ true → Fits said
  said-fits (Whole (Apply blob policy quiet) show) is = cc
  said-fits (Filter (Application blob policy quiet detail)) is = cc
  said-fits _ is = tt

  words-fit : {X : Type 0} (grammar : X → Grammar (Spelled A)) → ((x : X) → Makes Fits (grammar x)) → (words : List (List ℕ × X)) (others : Words (Spelled A)) → AreFit others → AreFit (with_words grammar words others)
  words-fit grammar fits [] others all = all
  words-fit grammar fits ((w, x) ∷ words) others all = (fits x, words-fit grammar fits words others all)

  numbered-fit : (words : List (List ℕ × (ℕ → Spelled A))) (others : Words (Spelled A)) → ((session : ℕ) → list_all (λ word. has_no_blob (word.1 session)) words ≡ true) → AreFit others → AreFit (with_words numbering words others)
  numbered-fit [] others none all = all
  numbered-fit ((w, of_session) ∷ words) others none all = (
    (λ x line rest (session, a, p, e). subst Fits (sym e.0) (said-fits (of_session session) (first_passes (has_no_blob (of_session session)) _ (none session)))),
    numbered-fit words others (λ session. others_pass (has_no_blob (of_session session)) _ (none session)) all,
  )

  alone-fit : (words : List (List ℕ × Spelled A)) (others : Words (Spelled A)) → list_all (λ word. has_no_blob word.1) words ≡ true → AreFit others → AreFit (with_words done words others)
  alone-fit [] others none all = all
  alone-fit ((w, said) ∷ words) others none all = (
    (λ x line rest e. subst Fits (sym e.0) (said-fits said (first_passes (has_no_blob said) _ none))),
    alone-fit words others (others_pass (has_no_blob said) _ none) all,
  )

  commands-fit : (w : List ℕ) → Makes Fits (one_of commands w)
  commands-fit = one_of-fits commands (
    create-fits,
    (
      commit-fits,
      (
        commit_at-fits,
        (
          apply-fits [],
          (
            apply_quiet-fits,
            (
              apply_each-fits,
              (
                get-fits,
                (
                  scan-fits,
                  (
                    save-fits,
                    (
                      drop_database-fits,
                      (
                        attach-fits,
                        words-fit setting setting-fits flagged from_diff (
                          diff-fits,
                          words-fit capturing capturing-fits captured from_dump (
                            dump-fits,
                            (
                              called-fits (insert Direct),
                              (
                                called-fits (update Direct),
                                (
                                  called-fits (delete Direct),
                                  (called-fits cascaded, (rollback-fits, (put-fits, numbered-fit numbered (with_words done alone []) (λ _. refl) (alone-fit alone [] refl tt)))),
                                ),
                              ),
                            ),
                          ),
                        ),
                      ),
                    ),
                  ),
                ),
              ),
            ),
          ),
        ),
      ),
    ),
  )

  command-fits : Makes Fits command
  unfolding command
  command-fits x line rest (token, w, between, begun, wanted, made) = commands-fit w x between rest made

  -- what a filter accepts of a blob fits as the blob does
  filtered-fits : (what : Filtering A) (filter : Rule) → Fits (Filter what) → BlobFits (filtered_command what filter)
  filtered-fits (Session session) filter fits = tt
  filtered-fits (EachConflict blob) filter fits = tt
  filtered-fits (Application (Changes list) policy quiet detail) filter fits = All-filter (λ group. accepts filter group.table) (λ group. IsFitting change_fits group) list fits
  filtered-fits (Application (Patches list) policy quiet detail) filter fits = All-filter (λ group. accepts filter group.table) (λ group. IsFitting patch_fits group) list fits

  closed-fits : (w : Option ℕ) (said : Spelled A) (line : Line A) (opened : Opening A) (between rest : List ℕ) → Fits said → Spells false (ending w said) opened between rest → Closes false line opened rest → BlobFits line.command
  closed-fits w (Whole command show) line opened between rest fits (unit, behind, end, is) closes =
      let closes_too : line ≡ record { worker = w; command = command; show = show } = rw is.0 at closes in
      subst (λ (l : Line A). BlobFits l.command) (sym closes_too) fits
  closed-fits w (Filter what) line opened between rest fits is closes =
      let closes_too : Closes false line (Filtered w what) rest = rw is.0 at closes in
      subst (λ (l : Line A). BlobFits l.command) (sym closes_too.3) (filtered-fits what closes_too.0 fits)

  line-fits : (line : Line A) (text : List ℕ) → SpellsLine line text → BlobFits line.command
  unfolding LineSpelled opening
  line-fits line text (opened, rest, (w, between, first, (said, behind, second, third)), closes) =
      closed-fits w said line opened behind rest (command-fits said between behind second) third closes

  lines-fit : (lines : List (Line A)) (texts : List (List ℕ)) → LinesSpelled false lines texts → AllByRecursion (λ line. BlobFits line.command) lines
  lines-fit [] texts spelled = tt
  lines-fit (line ∷ lines) [] spelled = absurd spelled
  lines-fit (line ∷ lines) (text ∷ texts) (inl ignored) = lines-fit (line ∷ lines) texts ignored.1
  lines-fit (line ∷ lines) (text ∷ texts) (inr spelled) = (line-fits line text spelled.0, lines-fit lines texts spelled.1)

  pub script-fits : (text : List ℕ) (lines : List (Line A)) → SpellsScript lines text → All (λ line. BlobFits line.command) lines
  unfolding ScriptSpelled
  script-fits text lines spelled = All-from_recursion (λ line. BlobFits line.command) lines (lines-fit lines spelled.0 spelled.2)
