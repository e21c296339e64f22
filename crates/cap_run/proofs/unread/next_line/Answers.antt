use Rattle.std.proofs.Common.{◌≡◌, ◌<◌, ◌+◌, ◌++◌, List, [], false, true, length, length-append, ℕ, ap, arith, rules, subst, sym}
use Rattle.std.specs.Io.KnownBytes.{prepend_known}
use Rattle.cap_run.specs.Code.Unread.{CutsLine}
use Rattle.cap_run.proofs.UnreadLemmas.{all_taken, clear_taken, counted_one, cut_line, fault_passed, given_so, kept_end, kept_given, kept_same, last_line, taken_so}
use Rattle.cap_run.proofs.unread.next_line.Goals as goal

-- the line ends at a line feed
pub returns-in-Ok-true-clause-line : goal.returns-in-Ok-true-clause-line
returns-in-Ok-true-clause-line g c =
    let remaining = g.R.Source.remaining in
    let so = c.loop-line.invariant in
    let input = prepend_known c.args.unread.now (remaining c.args.reader.now) in
    let left = remaining c.loop-line.reader in
    let t = c.in-Ok-true.ensures.taken in
    let taken = taken_so c.in-Ok-true.field-0 true t.0 c.loop-line.unread c.take_line.new.self c.in-Ok-true.field-0-test t.2 in
    subst (λ (l : List ℕ). CutsLine l input (prepend_known c.take_line.new.self left)) (sym t.1)
    (cut_line input left c.loop-line.line.items t.0 c.take_line.new.self c.loop-line.unread so.kept so.clear taken)

pub loop-line-preserved : goal.loop-line-preserved
loop-line-preserved g c =
    let remaining = g.R.Source.remaining in
    let so = c.loop-line.invariant in
    let input = prepend_known c.args.unread.now (remaining c.args.reader.now) in
    let t = c.in-Ok-false.ensures.taken in
    let taken = taken_so c.in-Ok-false.field-0 false t.0 c.loop-line.unread c.take_line.new.self c.in-Ok-false.field-0-test t.2 in
    let all = all_taken c.loop-line.line.items c.take_line.new.line.items t.0 c.loop-line.unread c.take_line.new.self t.1 taken in
    let given = given_so c.in-Ok.has_more true c.fill.new.unread (remaining c.loop-line.reader) (remaining c.fill.new.reader) (sym c.if-has_more.true) c.in-Ok.ensures.given in record {
      kept = kept_given input (remaining c.loop-line.reader) (remaining c.fill.new.reader) c.take_line.new.line.items c.fill.new.unread
          (kept_same input (remaining c.loop-line.reader) _ c.take_line.new.line.items all so.kept) given.0;
      clear = clear_taken c.loop-line.line.items c.take_line.new.line.items t.0 c.loop-line.unread c.take_line.new.self t.1 taken so.clear;
      counted = counted_one g.R.Source.gave c.args.reads.now c.loop-line.reads c.fill.new.reads c.args.reader.now c.loop-line.reader c.fill.new.reader so.counted c.in-Ok.ensures.gave.1 c.in-Ok.ensures.gave.0;
      few = omega (arith, so.few, given.1, c.in-Ok.ensures.gave.0, ap length all, length-append c.loop-line.line.items c.loop-line.unread);
    }

pub returns-then-is_empty-clause-gave : goal.returns-then-is_empty-clause-gave
returns-then-is_empty-clause-gave g c =
    counted_one g.R.Source.gave c.args.reads.now c.loop-line.reads c.fill.new.reads c.args.reader.now c.loop-line.reader c.fill.new.reader c.loop-line.invariant.counted c.in-Ok.ensures.gave.1 c.in-Ok.ensures.gave.0

-- the last line has no line feed
pub returns-in-loop-line-clause-line : goal.returns-in-loop-line-clause-line
returns-in-loop-line-clause-line g c =
    let remaining = g.R.Source.remaining in
    let so = c.loop-line.invariant in
    let input = prepend_known c.args.unread.now (remaining c.args.reader.now) in
    let t = c.in-Ok-false.ensures.taken in
    let line = c.take_line.new.line.items in
    let taken = taken_so c.in-Ok-false.field-0 false t.0 c.loop-line.unread c.take_line.new.self c.in-Ok-false.field-0-test t.2 in
    let all = all_taken c.loop-line.line.items line t.0 c.loop-line.unread c.take_line.new.self t.1 taken in
    let clear = clear_taken c.loop-line.line.items line t.0 c.loop-line.unread c.take_line.new.self t.1 taken so.clear in
    let given = given_so c.in-Ok.has_more false c.fill.new.unread (remaining c.loop-line.reader) (remaining c.fill.new.reader) (sym c.if-has_more.false) c.in-Ok.ensures.given in
    let kept = kept_end input (remaining c.loop-line.reader) (remaining c.fill.new.reader) line (kept_same input (remaining c.loop-line.reader) _ line all so.kept) given.0 in
    let some : 0 < length line = search rules in
    last_line input (remaining c.fill.new.reader) line c.fill.new.unread kept given.2 given.1 clear some

pub returns-in-loop-line-clause-gave : goal.returns-in-loop-line-clause-gave
returns-in-loop-line-clause-gave g c =
    let gave = c.in-Ok.ensures.gave in
    counted_one g.R.Source.gave c.args.reads.now c.loop-line.reads c.fill.new.reads c.args.reader.now c.loop-line.reader c.fill.new.reader c.loop-line.invariant.counted gave.1 gave.0

pub returns-in-Err-fill-clause-failed : goal.returns-in-Err-fill-clause-failed
returns-in-Err-fill-clause-failed g c =
    let remaining = g.R.Source.remaining in
    let so = c.loop-line.invariant in
    let input = prepend_known c.args.unread.now (remaining c.args.reader.now) in
    let t = c.in-Ok-false.ensures.taken in
    let line = c.take_line.new.line.items in
    let taken = taken_so c.in-Ok-false.field-0 false t.0 c.loop-line.unread c.take_line.new.self c.in-Ok-false.field-0-test t.2 in
    let all = all_taken c.loop-line.line.items line t.0 c.loop-line.unread c.take_line.new.self t.1 taken in
    let clear = clear_taken c.loop-line.line.items line t.0 c.loop-line.unread c.take_line.new.self t.1 taken so.clear in
    fault_passed g.R.Source.gave g.R.Source.failed c.in-Err-fill.fault c.args.reads.now c.loop-line.reads c.fill.new.reads c.args.reader.now c.loop-line.reader c.fill.new.reader
    input (remaining c.loop-line.reader) (remaining c.fill.new.reader) line so.counted (kept_same input (remaining c.loop-line.reader) _ line all so.kept) clear c.in-Err-fill.ensures.failed
