use Rattle.std.proofs.Common.{◌≡◌, ◌+◌, [], ◌∷◌, length, take, arith, refl, sym, ap, subst, ◌∙◌}
use Rattle.std.proofs.lemmas.List.{take_all}
use Rattle.cap_session.specs.Code.Added.{Makes}
use Rattle.cap_session.specs.Recording.{touch_table, touch_tables, touches_of}
use Rattle.cap_session.proofs.AddedLemmas.{reserved-same, none-reserved}
use Rattle.cap_session.proofs.TableLemmas.{no-change, touch_more}
use Rattle.cap_session.proofs.delta.reserve_touches.Goals as goal

pub loop-change-init : goal.loop-change-init
loop-change-init g c =
    let ts = c.args.tables.now.entries in
    let others = c.args.touched.now.items in
    (refl, reserved-same c.args.session ts ts (touch_tables c.args.indirect [] ts) others others (sym (no-change c.args.indirect ts)) (none-reserved c.args.session ts others))

pub loop-change-preserved : goal.loop-change-preserved
loop-change-preserved g c =
    let ts = c.args.tables.now.entries in
    let others = c.args.touched.now.items in
    let changes = c.args.changes.now in
    let i = c.loop-change.change-index in
    let change = c.change-item.result in
    let before = touch_tables c.args.indirect (take i changes) ts in
    let make = touch_table change.table (touches_of c.args.indirect change.table (change ∷ [])) in
    let same = c.loop-change.invariant.0 in
    let makes : Makes c.len.result c.args.session ts make c.loop-change.touched.items c.touch_by.new.touched.items =
    subst (λ ts. Makes c.len.result c.args.session ts make c.loop-change.touched.items c.touch_by.new.touched.items) same c.in_ok-touch_by.ensures.touched in
    let starts : length others ≡ c.len.result = omega (arith, c.len.ensures, c.args.touched.now.ok.0) in (
      c.touch_by.ensures.kept ∙ same,
      reserved-same c.args.session ts (make before) (touch_tables c.args.indirect (take (i + 1) changes) ts) others c.touch_by.new.touched.items
          (touch_more c.args.indirect changes i change ts c.loop-change-test.true c.change-item.is) (makes others before starts c.loop-change.invariant.1),
    )

pub returns-clause-touched : goal.returns-clause-touched
returns-clause-touched g c =
    let ts = c.args.tables.now.entries in
    let made = λ (changes : _). touch_tables c.args.indirect changes ts in
    reserved-same c.args.session ts _ _ c.args.touched.now.items c.loop-change.touched.items (ap made (take_all c.loop-change.change-index c.args.changes.now c.loop-change-test.false)) c.loop-change.invariant.1
