use Rattle.cap_codec.proofs.Common.{◌≡◌, true, false, refl, ◌∙◌, take_rest, is_cut, arith, rules}
use Rattle.cap_codec.proofs.Looking.{passes, stops, is_quiet}
use Rattle.cap_codec.proofs.scan.scan_from.Goals as goal

pub loop-behind-preserved : goal.loop-behind-preserved
loop-behind-preserved g c =
    let place = c.loop-behind.place in
    rw c.place_of.ensures (passes g.row.A.Denot place.kind c.args.bytes.now _ place.flags.items _ place.at _ c.loop-behind.invariant.0 refl c.loop-behind.invariant.1 (rw (take_rest c.args.bytes.now place.at) at c.in-Ok.ensures.gives)).0

pub loop-behind-smaller : goal.loop-behind-smaller
loop-behind-smaller g c =
    let place = c.loop-behind.place in
    let on = passes g.row.A.Denot place.kind c.args.bytes.now _ place.flags.items _ place.at _ c.loop-behind.invariant.0 refl c.loop-behind.invariant.1 (rw (take_rest c.args.bytes.now place.at) at c.in-Ok.ensures.gives) in
    omega (arith, on.1, on.0.0, c.place_of.ensures)

pub returns-then-eq : goal.returns-then-eq
returns-then-eq g c =
    let bytes = c.args.bytes.now in
    let place = c.loop-behind.place in
    let is = c.loop-behind.invariant in
    let read = rw (c.in-Err-Refused.field-0-is, take_rest bytes place.at) at c.in-Err-Refused.ensures.gives in
    let cut : is_cut c.in-Err-Refused.fault.kind ≡ true = search rules in
    let lacks = rw (take_rest bytes place.at) at c.missing-missing.ensures in
    rw c.in-Err-Refused.ensures.kept (
      stops g.row.A.Denot place.kind bytes _ place.flags.items _ is.1 read ∙ rw cut refl,
      (is, is_quiet g.row.A.Denot place.kind bytes _ place.flags.items c.missing-missing.result _ _ read cut is.1 lacks (omega (arith, c.saturating_add.ensures))),
    )

pub returns-in-Err-Refused : goal.returns-in-Err-Refused
returns-in-Err-Refused g c =
    let place = c.loop-behind.place in
    let whole : is_cut c.in-Err-Refused.fault.kind ≡ false = search rules in
    let read = rw (c.in-Err-Refused.field-0-is, take_rest c.args.bytes.now place.at) at c.in-Err-Refused.ensures.gives in
    rw c.in-Err-Refused.fault-is (stops g.row.A.Denot place.kind c.args.bytes.now _ place.flags.items _ c.loop-behind.invariant.1 read ∙ rw whole refl)
