use Rattle.std.proofs.Common.{◌≡◌, ◌+◌, ◌++◌, codes, map, drop, string_bytes, sym, ap, ◌∙◌}
use Rattle.cap_filter.specs.Plain.{rule_of, rules}
use Rattle.cap_filter.specs.Printed.{filter_text, members_text, more_text}
use Rattle.cap_filter.specs.Rule.{conjunction, disjunction}
use Rattle.cap_filter.proofs.LevelLemmas.{rule_of-And, rule_of-Or, rules_at}
use Rattle.cap_filter.proofs.PrintedLemmas.{three, one_member_more}
use Rattle.cap_filter.proofs.filter.Filter.+write.Goals as goal

pub write-returns-in_ok-push_str-in-And-2 : goal.write-returns-in_ok-push_str-in-And-2
write-returns-in_ok-push_str-in-And-2 g t c =
    let members = rules (map rule_of c.in-And.filters.items) in
    let is : filter_text (rule_of c.args.self.now) ≡ filter_text (conjunction members) = ap (λ f. filter_text (rule_of f)) c.in-And.is ∙ ap filter_text (rule_of-And g.row.A.Denot c.in-And.filters) in
    let listed = rw c.deref-in-And.ensures.value at c.in_ok-write_list-in-And.ensures in
    rw is (three (string_bytes c.args.out.now) (codes "and(") (members_text members) (codes ")") _ _ _ c.in_ok-push_str-in-And.ensures.bytes listed c.in_ok-push_str-in-And-2.ensures.bytes)

pub write-returns-in_ok-push_str-in-Or-2 : goal.write-returns-in_ok-push_str-in-Or-2
write-returns-in_ok-push_str-in-Or-2 g t c =
    let members = rules (map rule_of c.in-Or.filters.items) in
    let is : filter_text (rule_of c.args.self.now) ≡ filter_text (disjunction members) = ap (λ f. filter_text (rule_of f)) c.in-Or.is ∙ ap filter_text (rule_of-Or g.row.A.Denot c.in-Or.filters) in
    let listed = rw c.deref-in-Or.ensures.value at c.in_ok-write_list-in-Or.ensures in
    rw is (three (string_bytes c.args.out.now) (codes "or(") (members_text members) (codes ")") _ _ _ c.in_ok-push_str-in-Or.ensures.bytes listed c.in_ok-push_str-in-Or-2.ensures.bytes)

pub write_list-loop-filter-preserved : goal.write_list-loop-filter-preserved
write_list-loop-filter-preserved g t c =
    let members = c.in-Some.rest.now in
    let f = c.filter-item.result in
    let i = c.loop-filter.filter-index in
    let here = rules_at g.row.A.Denot members i f c.loop-filter-test.true c.filter-item.is in
    let behind = more_text (rules (map rule_of (drop (i + 1) members))) in
    one_member_more (string_bytes c.loop-filter.out) (codes ",") (filter_text (rule_of f)) behind _ _ c.in_ok-push_str.ensures.bytes c.in_ok-write-2.ensures
    ∙ ap (λ rs. string_bytes c.loop-filter.out ++ more_text rs) (sym here) ∙ c.loop-filter.invariant
