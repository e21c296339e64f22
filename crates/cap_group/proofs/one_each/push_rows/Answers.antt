use Rattle.std.proofs.Common.{◌≡◌, ◌<◌, ◌+◌, ◌-◌, [], length, None, ap, sym, refl, ◌∙◌, arith}
use Rattle.std.specs.Ordering.{is_eq}
use Rattle.std.proofs.lemmas.Bool.Decides.{nat_tests}
use Rattle.std.proofs.lemmas.List.{get_or_default}
use Rattle.std.proofs.lemmas.Result.{on_ok_weaker}
use Rattle.cap_row.specs.Key.{fields_eq_decides}
use Rattle.cap_group.specs.KeyedChanges.{keyed_of}
use Rattle.cap_group.specs.Place.{place_eq}
use Rattle.cap_group.proofs.RunLemmas.{all_put, put_same, put_other}
use Rattle.cap_group.proofs.one_each.push_rows.Goals as goal
use Rattle.cap_group.proofs.one_each.push_rows.Goals.{then-not-is_eq+in_ok-finish, else-not-is_eq}

pub loop-number-init : goal.loop-number-init
loop-number-init g c =
    let p = c.index-places-0 in
    let lt : 0 < length c.args.places.now = grind (arith, nat_tests, c.is_empty.ensures, c.if-is_empty.false) in
    record {
      table = refl;
      schema = c.requires.columns;
      flags = rw (c.in_ok-add.ensures, c.new-row.ensures) refl;
      put = λ d. rw (get_or_default c.args.places.now 0 d p.result lt, ← p.is, c.requires.none, c.in_ok-add.ensures, c.new-row.ensures, c.change.ensures)
          (put_same g.C.Combine.key g.C.Combine.combined c.args.group.now.table c.args.flags.now g.C.Entry.fits_in c.args.places.now g.C.Entry.has_values c.keeps_row.ensures c.requires.each 0 p.result lt p.is p.result.key [] None refl (record { past = tt; own = tt; left = refl }));
    }

pub loop-number-preserved : goal.loop-number-preserved
loop-number-preserved g c =
    let n = c.loop-number.number in
    let p = c.index-places-number in
    let q = c.index-places-number-in-loop-number in
    let less : (n + 1) - 1 ≡ n = omega arith in
    let before = rw (← q.is) at (c.loop-number.invariant.put q.result) in
    let tested : c.is_eq.result ≡ place_eq q.result p.result = c.is_eq.ensures ∙ ap is_eq c.order.ensures in
    elim c.if-not-is_eq.branch [
      | then-not-is_eq+in_ok-finish w ↦ rw (c.in_ok-add-2.ensures, w.group-is, w.row-is, w.in_ok-finish.ensures.group, w.in_ok-finish.ensures.row, c.change-in-loop-number.ensures) (record {
        table = c.loop-number.invariant.table;
        schema = c.loop-number.invariant.schema;
        flags = c.loop-number.invariant.flags;
        put = λ d. rw (less, get_or_default c.args.places.now n d p.result c.loop-number-test.true, ← p.is)
            (put_other g.C.Combine.key g.C.Combine.combined c.args.group.now.table c.args.flags.now g.C.Entry.fits_in c.args.places.now g.C.Entry.has_values c.keeps_row.ensures c.requires.each n p.result c.loop-number-test.true p.is
            q.result c.loop-number.group.changes c.loop-number.row.change q.is (omega (arith, c.loop-number.auto.number)) c.requires.sorted (sym tested ∙ grind (arith, w.if-not-is_eq.true)) before);
      })
      | else-not-is_eq w ↦ rw (c.in_ok-add-2.ensures, w.group-is, w.row-is, c.change-in-loop-number.ensures, c.loop-number.invariant.flags) (record {
        table = c.loop-number.invariant.table;
        schema = c.loop-number.invariant.schema;
        flags = refl;
        put = λ d. rw (less, get_or_default c.args.places.now n d p.result c.loop-number-test.true, ← p.is)
            (put_same g.C.Combine.key g.C.Combine.combined c.args.group.now.table c.args.flags.now g.C.Entry.fits_in c.args.places.now g.C.Entry.has_values c.keeps_row.ensures c.requires.each n p.result c.loop-number-test.true p.is
            q.result.key c.loop-number.group.changes c.loop-number.row.change ((fields_eq_decides q.result.key p.result.key).0 (sym tested ∙ grind (arith, w.if-not-is_eq.false))) before);
      })
    ]

pub returns : goal.returns
returns g c =
    let some : 0 < length c.args.places.now = grind (arith, nat_tests, c.is_empty.ensures, c.if-is_empty.false) in
    let end : c.loop-number.number ≡ length c.args.places.now = omega (arith, c.loop-number-test.false) in
    let put = all_put g.C.Combine.key g.C.Combine.combined c.args.group.now.table c.args.flags.now g.C.Entry.fits_in c.args.places.now _ c.loop-number.group c.loop-number.row.change
    c.loop-number.invariant.table c.loop-number.invariant.schema (rw end at (c.loop-number.invariant.put c.index-places-0.result)) in
    record {
      made = on_ok_weaker c.finish-2.result (λ made. made ∙ put.0) c.finish-2.ensures.group;
      again = on_ok_weaker c.finish-2.result (λ made. ap (keyed_of g.C.Combine.key g.C.Combine.combined) made ∙ put.1) c.finish-2.ensures.group;
    }
