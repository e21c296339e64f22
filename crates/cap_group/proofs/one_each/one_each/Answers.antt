use Rattle.std.proofs.Common.{ap, is_lt, rules, ◌∙◌}
use Rattle.std.specs.Prelude.{map}
use Rattle.std.proofs.lemmas.Fn.{always_returns_same}
use Rattle.std.proofs.lemmas.List.Sorted.{ranks_by}
use Rattle.cap_row.specs.Key.{fields_cmp_total}
use Rattle.cap_changes.specs.Entries.{TableEntries}
use Rattle.cap_group.specs.KeyedChanges.{entries_of, no_changes, with_changes}
use Rattle.cap_group.specs.Place.{Place, place_cmp}
use Rattle.cap_group.proofs.SortLemmas.{places_fit, sorted_same}
use Rattle.cap_group.proofs.one_each.one_each.Goals as goal

pub push_rows-requires-clause-each : goal.push_rows-requires-clause-each
push_rows-requires-clause-each g c =
    rw (c.as_slice.ensures.value, c.flags.ensures.flags, c.schema-2.ensures.schema)
    (places_fit g.C.Combine.key c.args.group.now.schema g.C.Entry.fits_in c.args.group.now.changes _ _ c.in_ok-places.ensures c.in_ok-sort_by.ensures.permutation c.fits.ensures.each)

pub push_rows-requires-clause-sorted : goal.push_rows-requires-clause-sorted
push_rows-requires-clause-sorted g c =
    rw c.as_slice.ensures.value
    (c.in_ok-sort_by.ensures.sorted (λ a b. is_lt (place_cmp a b)) (ranks_by fields_cmp_total (λ p. p.key)) (always_returns_same _ _ _ (λ a r f k. search rules)))

pub returns : goal.returns
returns g c =
    let group = c.args.group.now in
    let table = ap (λ (t : TableEntries g.row.C.Denot). t.table) c.new-made.ensures ∙ c.in_ok-copy.ensures ∙ c.table.ensures in
    let flags = c.flags.ensures.flags ∙ c.schema-2.ensures.schema in
    let stable = c.in_ok-sort_by.ensures.stable (λ a b. is_lt (place_cmp a b)) (ranks_by fields_cmp_total (λ p. p.key)) (always_returns_same _ _ _ (λ a r f k. search rules)) in
    let all =
    (λ i. with_changes g.C.Combine.key g.C.Combine.combined (no_changes (table i) (flags i)) (map (λ (p : Place g.row.A.Denot g.row.C.Denot). p.change) (c.as_slice.ensures.value i)))
    ∙ sorted_same g.C.Combine.key g.C.Combine.combined group.table group.schema group.changes _ _ c.in_ok-places.ensures c.in_ok-sort_by.ensures.permutation stable in
    record { made = c.in_ok-push_rows.ensures.made ∙ ap entries_of all; again = c.in_ok-push_rows.ensures.again ∙ all }
