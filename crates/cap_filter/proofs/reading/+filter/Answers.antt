use Rattle.std.proofs.Common.{◌≡◌, ◌-◌, true, false, List, [], ◌∷◌, ◌++◌, map, refl, sym, ap, ◌∙◌, inl, inr, arith, rules as search_rules}
use Rattle.std.proofs.lemmas.List.{map_push}
use Rattle.std.proofs.lemmas.Result.{err_from_is_err_and}
use Rattle.cap_filter.specs.Limits.{depth_of_all, nodes_of_all}
use Rattle.cap_filter.specs.Plain.{rule_of, rules}
use Rattle.cap_filter.specs.Reading.{negated, listed, behind_filter, list_of, run, keyword_at, text_at, opening_at, separator_at}
use Rattle.cap_filter.specs.Rule.{Rule, is, starts, ends, negation}
use Rattle.cap_filter.specs.Tokens.{tokens_of}
use Rattle.cap_filter.specs.declared.reading.Keyword.TheVariants as keywords
use Rattle.cap_filter.proofs.LevelLemmas.{rule_of-All, rule_of-Nothing, rule_of-Is, rule_of-StartsWith, rule_of-EndsWith, rule_of-Not, rule_of-And, rule_of-Or, depth_push, nodes_push}
use Rattle.cap_filter.proofs.RunLemmas.{run-no_keyword, run-behind_keyword, run-past, run-no_text, run-text, run-no_opening, run-opening, run-closing, run-member, run-no_separator, run-comma, run-last, refused_by, refused_through}
use Rattle.cap_filter.proofs.reading.+filter.Goals as goal
use Rattle.cap_filter.proofs.reading.+filter.Goals.{read_filter-then-levels-eq0-via-then-levels-eq0, read_filter-then-levels-eq0-via-else-levels-eq0+then-room-eq0}

pub read_filter-returns-in_err-keyword-clause-reads : goal.read_filter-returns-in_err-keyword-clause-reads
read_filter-returns-in_err-keyword-clause-reads g t c =
    let p = err_from_is_err_and c.from_residual.result c.from_residual.ensures.1 in
    λ frames fits. rw (p.1, p.2) (refused_by c.in_err-keyword.field-0.0 (keyword_at (tokens_of c.args.text.now)) _ c.in_err-keyword.ensures (λ e h. run-no_keyword frames c.args.room e (tokens_of c.args.text.now) h))

pub read_filter-returns-then-levels-eq0-clause-reads : goal.read_filter-returns-then-levels-eq0-clause-reads
read_filter-returns-then-levels-eq0-clause-reads g t c =
    λ frames fits. run-past frames c.args.room (c.in_ok-keyword.keyword, tokens_of c.in_ok-keyword.rest.now) (tokens_of c.args.text.now) c.in_ok-keyword.ensures
    (elim c.then-levels-eq0.either [ inl none ↦ inr (omega arith) | inr rest ↦ inl rest.1 ])

pub read_filter-returns-in_err-word-in-Is-clause-reads : goal.read_filter-returns-in_err-word-in-Is-clause-reads
read_filter-returns-in_err-word-in-Is-clause-reads g t c =
    let p = err_from_is_err_and c.from_residual-in_err-word-in-Is.result c.from_residual-in_err-word-in-Is.ensures.1 in
    λ frames fits. rw (p.1, p.2) (refused_by c.in_err-word-in-Is.field-0.0 (text_at (tokens_of c.in_ok-keyword.rest.now)) _ c.in_err-word-in-Is.ensures
    (λ e h. run-behind_keyword frames c.args.room c.args.levels c.in_ok-keyword.keyword keywords.Is (tokens_of c.in_ok-keyword.rest.now) (tokens_of c.args.text.now) c.in_ok-keyword.ensures c.in-Is.is c.if-room-eq0.false c.if-levels-eq0.false fits ∙ run-no_text is frames (c.args.room - 1) e (tokens_of c.in_ok-keyword.rest.now) h))

pub read_filter-returns-in_err-word-in-Starts-clause-reads : goal.read_filter-returns-in_err-word-in-Starts-clause-reads
read_filter-returns-in_err-word-in-Starts-clause-reads g t c =
    let p = err_from_is_err_and c.from_residual-in_err-word-in-Starts.result c.from_residual-in_err-word-in-Starts.ensures.1 in
    λ frames fits. rw (p.1, p.2) (refused_by c.in_err-word-in-Starts.field-0.0 (text_at (tokens_of c.in_ok-keyword.rest.now)) _ c.in_err-word-in-Starts.ensures
    (λ e h. run-behind_keyword frames c.args.room c.args.levels c.in_ok-keyword.keyword keywords.Starts (tokens_of c.in_ok-keyword.rest.now) (tokens_of c.args.text.now) c.in_ok-keyword.ensures c.in-Starts.is c.if-room-eq0.false c.if-levels-eq0.false fits ∙ run-no_text starts frames (c.args.room - 1) e (tokens_of c.in_ok-keyword.rest.now) h))

pub read_filter-returns-in_err-word-in-Ends-clause-reads : goal.read_filter-returns-in_err-word-in-Ends-clause-reads
read_filter-returns-in_err-word-in-Ends-clause-reads g t c =
    let p = err_from_is_err_and c.from_residual-in_err-word-in-Ends.result c.from_residual-in_err-word-in-Ends.ensures.1 in
    λ frames fits. rw (p.1, p.2) (refused_by c.in_err-word-in-Ends.field-0.0 (text_at (tokens_of c.in_ok-keyword.rest.now)) _ c.in_err-word-in-Ends.ensures
    (λ e h. run-behind_keyword frames c.args.room c.args.levels c.in_ok-keyword.keyword keywords.Ends (tokens_of c.in_ok-keyword.rest.now) (tokens_of c.args.text.now) c.in_ok-keyword.ensures c.in-Ends.is c.if-room-eq0.false c.if-levels-eq0.false fits ∙ run-no_text ends frames (c.args.room - 1) e (tokens_of c.in_ok-keyword.rest.now) h))

pub read_filter-returns-in_err-value-in-Not-clause-reads : goal.read_filter-returns-in_err-value-in-Not-clause-reads
read_filter-returns-in_err-value-in-Not-clause-reads g t c =
    let p = err_from_is_err_and c.from_residual-in_err-value-in-Not.result c.from_residual-in_err-value-in-Not.ensures.1 in
    λ frames fits.
    let some_level = c.if-levels-eq0.false in
    rw (p.1, p.2) (refused_through c.in_err-value-in-Not.field-0.0 _ _ (c.in_err-value-in-Not.ensures.reads (negated ∷ frames) (omega arith)) (run-behind_keyword frames c.args.room c.args.levels c.in_ok-keyword.keyword keywords.Not (tokens_of c.in_ok-keyword.rest.now) (tokens_of c.args.text.now) c.in_ok-keyword.ensures c.in-Not.is c.if-room-eq0.false c.if-levels-eq0.false fits))

pub read_filter-returns-in_err-value-in-And-clause-reads : goal.read_filter-returns-in_err-value-in-And-clause-reads
read_filter-returns-in_err-value-in-And-clause-reads g t c =
    let p = err_from_is_err_and c.from_residual-in_err-value-in-And.result c.from_residual-in_err-value-in-And.ensures.1 in
    λ frames fits.
    let some_level = c.if-levels-eq0.false in
    rw (p.1, p.2) (refused_through c.in_err-value-in-And.field-0.0 _ _ (c.in_err-value-in-And.ensures.reads true frames (omega arith)) (run-behind_keyword frames c.args.room c.args.levels c.in_ok-keyword.keyword keywords.And (tokens_of c.in_ok-keyword.rest.now) (tokens_of c.args.text.now) c.in_ok-keyword.ensures c.in-And.is c.if-room-eq0.false c.if-levels-eq0.false fits))

pub read_filter-returns-in_err-value-in-Or-clause-reads : goal.read_filter-returns-in_err-value-in-Or-clause-reads
read_filter-returns-in_err-value-in-Or-clause-reads g t c =
    let p = err_from_is_err_and c.from_residual-in_err-value-in-Or.result c.from_residual-in_err-value-in-Or.ensures.1 in
    λ frames fits.
    let some_level = c.if-levels-eq0.false in
    rw (p.1, p.2) (refused_through c.in_err-value-in-Or.field-0.0 _ _ (c.in_err-value-in-Or.ensures.reads false frames (omega arith)) (run-behind_keyword frames c.args.room c.args.levels c.in_ok-keyword.keyword keywords.Or (tokens_of c.in_ok-keyword.rest.now) (tokens_of c.args.text.now) c.in_ok-keyword.ensures c.in-Or.is c.if-room-eq0.false c.if-levels-eq0.false fits))

pub read_filter-returns-in-All-clause-reads : goal.read_filter-returns-in-All-clause-reads
read_filter-returns-in-All-clause-reads g t c =
    let p = c.of.ensures in
    λ frames fits. rw (p.value, p.rest, p.room) (run-behind_keyword frames c.args.room c.args.levels c.in_ok-keyword.keyword keywords.All (tokens_of c.in_ok-keyword.rest.now) (tokens_of c.args.text.now) c.in_ok-keyword.ensures c.in-All.is c.if-room-eq0.false c.if-levels-eq0.false fits ∙ ap (λ (r : Rule). run (behind_filter r frames) (c.args.room - 1) (tokens_of c.in_ok-keyword.rest.now)) (sym (rule_of-All g.row.A.Denot)))

pub read_filter-returns-in-Nothing-clause-reads : goal.read_filter-returns-in-Nothing-clause-reads
read_filter-returns-in-Nothing-clause-reads g t c =
    let p = c.of-in-Nothing.ensures in
    λ frames fits. rw (p.value, p.rest, p.room) (run-behind_keyword frames c.args.room c.args.levels c.in_ok-keyword.keyword keywords.Nothing (tokens_of c.in_ok-keyword.rest.now) (tokens_of c.args.text.now) c.in_ok-keyword.ensures c.in-Nothing.is c.if-room-eq0.false c.if-levels-eq0.false fits ∙ ap (λ (r : Rule). run (behind_filter r frames) (c.args.room - 1) (tokens_of c.in_ok-keyword.rest.now)) (sym (rule_of-Nothing g.row.A.Denot)))

pub read_filter-returns-in_ok-word-in-Is-clause-reads : goal.read_filter-returns-in_ok-word-in-Is-clause-reads
read_filter-returns-in_ok-word-in-Is-clause-reads g t c =
    let p = c.of-in-Is.ensures in
    λ frames fits. rw (p.value, p.rest, p.room) (run-behind_keyword frames c.args.room c.args.levels c.in_ok-keyword.keyword keywords.Is (tokens_of c.in_ok-keyword.rest.now) (tokens_of c.args.text.now) c.in_ok-keyword.ensures c.in-Is.is c.if-room-eq0.false c.if-levels-eq0.false fits
    ∙ run-text is frames (c.args.room - 1) c.in_ok-word-in-Is.word (tokens_of c.in_ok-word-in-Is.rest.now) (tokens_of c.in_ok-keyword.rest.now) c.in_ok-word-in-Is.ensures
    ∙ ap (λ (r : Rule). run (behind_filter r frames) (c.args.room - 1) (tokens_of c.in_ok-word-in-Is.rest.now)) (sym (rule_of-Is g.row.A.Denot c.in_ok-word-in-Is.word)))

pub read_filter-returns-in_ok-word-in-Starts-clause-reads : goal.read_filter-returns-in_ok-word-in-Starts-clause-reads
read_filter-returns-in_ok-word-in-Starts-clause-reads g t c =
    let p = c.of-in-Starts.ensures in
    λ frames fits. rw (p.value, p.rest, p.room) (run-behind_keyword frames c.args.room c.args.levels c.in_ok-keyword.keyword keywords.Starts (tokens_of c.in_ok-keyword.rest.now) (tokens_of c.args.text.now) c.in_ok-keyword.ensures c.in-Starts.is c.if-room-eq0.false c.if-levels-eq0.false fits
    ∙ run-text starts frames (c.args.room - 1) c.in_ok-word-in-Starts.word (tokens_of c.in_ok-word-in-Starts.rest.now) (tokens_of c.in_ok-keyword.rest.now) c.in_ok-word-in-Starts.ensures
    ∙ ap (λ (r : Rule). run (behind_filter r frames) (c.args.room - 1) (tokens_of c.in_ok-word-in-Starts.rest.now)) (sym (rule_of-StartsWith g.row.A.Denot c.in_ok-word-in-Starts.word)))

pub read_filter-returns-in_ok-word-in-Ends-clause-reads : goal.read_filter-returns-in_ok-word-in-Ends-clause-reads
read_filter-returns-in_ok-word-in-Ends-clause-reads g t c =
    let p = c.of-in-Ends.ensures in
    λ frames fits. rw (p.value, p.rest, p.room) (run-behind_keyword frames c.args.room c.args.levels c.in_ok-keyword.keyword keywords.Ends (tokens_of c.in_ok-keyword.rest.now) (tokens_of c.args.text.now) c.in_ok-keyword.ensures c.in-Ends.is c.if-room-eq0.false c.if-levels-eq0.false fits
    ∙ run-text ends frames (c.args.room - 1) c.in_ok-word-in-Ends.word (tokens_of c.in_ok-word-in-Ends.rest.now) (tokens_of c.in_ok-keyword.rest.now) c.in_ok-word-in-Ends.ensures
    ∙ ap (λ (r : Rule). run (behind_filter r frames) (c.args.room - 1) (tokens_of c.in_ok-word-in-Ends.rest.now)) (sym (rule_of-EndsWith g.row.A.Denot c.in_ok-word-in-Ends.word)))

pub read_filter-returns-in_ok-boxed-in-Not-clause-reads : goal.read_filter-returns-in_ok-boxed-in-Not-clause-reads
read_filter-returns-in_ok-boxed-in-Not-clause-reads g t c =
    let p = c.of-in-Not.ensures in
    λ frames fits.
    let some_level = c.if-levels-eq0.false in
    let made : rule_of c.in_ok-boxed-in-Not.boxed.value ≡ rule_of c.in_ok-value-in-Not.field-0.value = ap rule_of c.in_ok-boxed-in-Not.ensures in
    rw (p.value, p.rest, p.room) (run-behind_keyword frames c.args.room c.args.levels c.in_ok-keyword.keyword keywords.Not (tokens_of c.in_ok-keyword.rest.now) (tokens_of c.args.text.now) c.in_ok-keyword.ensures c.in-Not.is c.if-room-eq0.false c.if-levels-eq0.false fits
    ∙ c.in_ok-value-in-Not.ensures.reads (negated ∷ frames) (omega arith)
    ∙ ap (λ (r : Rule). run (behind_filter r frames) c.in_ok-value-in-Not.field-0.room (tokens_of c.in_ok-value-in-Not.field-0.rest.now)) (ap negation (sym made) ∙ sym (rule_of-Not g.row.A.Denot c.in_ok-boxed-in-Not.boxed)))

pub read_filter-returns-in_ok-value-in-And-clause-reads : goal.read_filter-returns-in_ok-value-in-And-clause-reads
read_filter-returns-in_ok-value-in-And-clause-reads g t c =
    let p = c.of-in-And.ensures in
    λ frames fits.
    let some_level = c.if-levels-eq0.false in
    rw (p.value, p.rest, p.room) (run-behind_keyword frames c.args.room c.args.levels c.in_ok-keyword.keyword keywords.And (tokens_of c.in_ok-keyword.rest.now) (tokens_of c.args.text.now) c.in_ok-keyword.ensures c.in-And.is c.if-room-eq0.false c.if-levels-eq0.false fits
    ∙ c.in_ok-value-in-And.ensures.reads true frames (omega arith)
    ∙ ap (λ (r : Rule). run (behind_filter r frames) c.in_ok-value-in-And.field-0.room (tokens_of c.in_ok-value-in-And.field-0.rest.now)) (sym (rule_of-And g.row.A.Denot c.in_ok-value-in-And.field-0.value)))

pub read_filter-returns-in_ok-value-in-Or-clause-reads : goal.read_filter-returns-in_ok-value-in-Or-clause-reads
read_filter-returns-in_ok-value-in-Or-clause-reads g t c =
    let p = c.of-in-Or.ensures in
    λ frames fits.
    let some_level = c.if-levels-eq0.false in
    rw (p.value, p.rest, p.room) (run-behind_keyword frames c.args.room c.args.levels c.in_ok-keyword.keyword keywords.Or (tokens_of c.in_ok-keyword.rest.now) (tokens_of c.args.text.now) c.in_ok-keyword.ensures c.in-Or.is c.if-room-eq0.false c.if-levels-eq0.false fits
    ∙ c.in_ok-value-in-Or.ensures.reads false frames (omega arith)
    ∙ ap (λ (r : Rule). run (behind_filter r frames) c.in_ok-value-in-Or.field-0.room (tokens_of c.in_ok-value-in-Or.field-0.rest.now)) (sym (rule_of-Or g.row.A.Denot c.in_ok-value-in-Or.field-0.value)))

pub read_members-returns-in_err-rest-clause-reads : goal.read_members-returns-in_err-rest-clause-reads
read_members-returns-in_err-rest-clause-reads g t c =
    let p = err_from_is_err_and c.from_residual.result c.from_residual.ensures.1 in
    λ every frames fits. rw (p.1, p.2) (refused_by c.in_err-rest.field-0.0 (opening_at (tokens_of c.args.text.now)) _ c.in_err-rest.ensures (λ e h. run-no_opening every frames c.args.room e (tokens_of c.args.text.now) h))

pub read_members-returns-in-Some-clause-reads : goal.read_members-returns-in-Some-clause-reads
read_members-returns-in-Some-clause-reads g t c =
    λ every frames fits.
    let none : map rule_of c.new-members.result.items ≡ [] = rw c.new-members.ensures.items refl in
    run-opening every frames c.args.room (tokens_of c.in_ok-rest.rest.now) (tokens_of c.args.text.now) c.in_ok-rest.ensures
    ∙ run-closing every frames c.args.room (tokens_of c.in-Some.rest.now) (tokens_of c.in_ok-rest.rest.now) (sym c.in-Some.ensures)
    ∙ ap (λ (rs : List Rule). run (behind_filter (list_of every rs) frames) c.args.room (tokens_of c.in-Some.rest.now)) (sym none)

pub read_members-loop-members-init : goal.read_members-loop-members-init
read_members-loop-members-init g t c =
    let none : map rule_of c.new-members.result.items ≡ [] = rw c.new-members.ensures.items refl in
    record {
      is_text = search search_rules;
      reads = λ every frames fits. rw none (sym (run-opening every frames c.args.room (tokens_of c.in_ok-rest.rest.now) (tokens_of c.args.text.now) c.in_ok-rest.ensures ∙ run-member every frames c.args.room (tokens_of c.in_ok-rest.rest.now) (sym c.in_default.ensures)));
      shallow = rw none (omega arith);
      counted = rw none (omega arith);
    }

pub read_members-returns-in_err-goes_on-clause-reads : goal.read_members-returns-in_err-goes_on-clause-reads
read_members-returns-in_err-goes_on-clause-reads g t c =
    let p = err_from_is_err_and c.from_residual-in_err-goes_on.result c.from_residual-in_err-goes_on.ensures.1 in
    let before = map rule_of c.loop-members.members.items in
    let r = rule_of c.in_ok-member.member.value in
    λ every frames fits. rw (p.1, p.2) (refused_by c.in_err-goes_on.field-0.0 (separator_at (tokens_of c.in_ok-member.member.rest.now)) _ c.in_err-goes_on.ensures
    (λ e h. sym (c.loop-members.invariant.reads every frames fits) ∙ c.in_ok-member.ensures.reads (listed every before ∷ frames) (omega arith) ∙ run-no_separator every (before ++ r ∷ []) frames c.in_ok-member.member.room e (tokens_of c.in_ok-member.member.rest.now) h))

pub read_members-returns-then-not-goes_on-clause-reads : goal.read_members-returns-then-not-goes_on-clause-reads
read_members-returns-then-not-goes_on-clause-reads g t c =
    let before = map rule_of c.loop-members.members.items in
    let r = rule_of c.in_ok-member.member.value in
    let pushed : map rule_of c.push.new.filters.items ≡ before ++ r ∷ [] = rw c.in_ok-push.ensures (map_push rule_of c.loop-members.members.items c.in_ok-member.member.value) in
    let whole_filter = rw c.if-not-goes_on.true at c.in_ok-goes_on.ensures in
    λ every frames fits.
    sym (c.loop-members.invariant.reads every frames fits) ∙ c.in_ok-member.ensures.reads (listed every before ∷ frames) (omega arith)
    ∙ run-last every (before ++ r ∷ []) frames c.in_ok-member.member.room (tokens_of c.in_ok-goes_on.behind.now) (tokens_of c.in_ok-member.member.rest.now) whole_filter
    ∙ ap (λ (rs : List Rule). run (behind_filter (list_of every rs) frames) c.in_ok-member.member.room (tokens_of c.in_ok-goes_on.behind.now)) (sym pushed)

pub read_members-returns-then-not-goes_on-clause-limits : goal.read_members-returns-then-not-goes_on-clause-limits
read_members-returns-then-not-goes_on-clause-limits g t c =
    let before = map rule_of c.loop-members.members.items in
    let r = rule_of c.in_ok-member.member.value in
    let pushed : map rule_of c.push.new.filters.items ≡ before ++ r ∷ [] = rw c.in_ok-push.ensures (map_push rule_of c.loop-members.members.items c.in_ok-member.member.value) in
    let deep = ap (λ (rs : List Rule). depth_of_all (rules rs)) pushed ∙ depth_push before r in
    let many = ap (λ (rs : List Rule). nodes_of_all (rules rs)) pushed ∙ nodes_push before r in
    let so_far = c.loop-members.invariant in
    let limits = c.in_ok-member.ensures.limits in
    (omega arith, omega arith)

pub read_members-loop-members-preserved : goal.read_members-loop-members-preserved
read_members-loop-members-preserved g t c =
    let before = map rule_of c.loop-members.members.items in
    let r = rule_of c.in_ok-member.member.value in
    let pushed : map rule_of c.push.new.filters.items ≡ before ++ r ∷ [] = rw c.in_ok-push.ensures (map_push rule_of c.loop-members.members.items c.in_ok-member.member.value) in
    let deep = ap (λ (rs : List Rule). depth_of_all (rules rs)) pushed ∙ depth_push before r in
    let many = ap (λ (rs : List Rule). nodes_of_all (rules rs)) pushed ∙ nodes_push before r in
    let so_far = c.loop-members.invariant in
    let limits = c.in_ok-member.ensures.limits in
    let goes_on = rw c.if-not-goes_on.false at c.in_ok-goes_on.ensures in
    record {
      is_text = search search_rules;
      reads = λ every frames fits. rw pushed (sym (sym (c.loop-members.invariant.reads every frames fits) ∙ c.in_ok-member.ensures.reads (listed every before ∷ frames) (omega arith)
          ∙ run-comma every (before ++ r ∷ []) frames c.in_ok-member.member.room (tokens_of c.in_ok-goes_on.behind.now) (tokens_of c.in_ok-member.member.rest.now) goes_on));
      shallow = omega arith;
      counted = omega arith;
    }
