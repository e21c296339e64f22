use Rattle.std.proofs.Common.{◌≡◌, false, drop, get_or, if◌then◌else◌, arith}
use Rattle.cap_apply.proofs.Common.{flags-past}
use Rattle.cap_apply.proofs.FieldLemmas.{bytes_put, no_kept, no_set}
use Rattle.cap_apply.proofs.fields.set_fields.Goals as goal

pub loop-flag-preserved : goal.loop-flag-preserved
loop-flag-preserved g c =
    let flags = c.args.flags.now in
    let i = c.loop-flag.flag-index in
    let kept = c.in-Some-Some.kept.now in
    let set = c.in-Some-Some.set.now in
    let chosen : c.if-flag.push_field.now ≡ (if get_or flags i false then kept else set) = grind arith in
    bytes_put flags i c.loop-flag.key c.next_bytes.new.self c.loop-flag.new c.next_bytes-in-loop-flag.new.self kept set c.if-flag.push_field.now c.loop-flag.rest c.push_field.new.rest
    c.loop-flag.builder c.push_field.new.builder _ c.loop-flag-test.true c.in-Some-Some.ensures c.in-Some-Some.ensures' chosen c.in_ok-push_field.ensures.field c.in_ok-push_field.ensures.passed c.loop-flag.invariant

pub returns : goal.returns
returns g c =
    let flags = c.args.flags.now in
    let i = c.loop-flag.flag-index in
    let left = drop i flags in
    grind (arith, flags-past flags i, no_set left c.loop-flag.key, no_kept left c.loop-flag.new)
