use Rattle.cap_codec.proofs.Common.{arith, append_assoc, false, map-range_with_len_more, count_by_more_yes, count_by_more_no, key_place}
use Rattle.std.proofs.lemmas.Grind.{common_steps}
use Rattle.cap_codec.proofs.write.push_flags.Goals as goal

pub loop-flag-preserved : goal.loop-flag-preserved
loop-flag-preserved g c =
    let flags = c.args.flags.now in
    let i = c.loop-flag.flag-index in
    let yes = count_by_more_yes (λ key. key) flags i false c.loop-flag-test.true in
    let no = count_by_more_no (λ key. key) flags i false c.loop-flag-test.true in
    let more = map-range_with_len_more (key_place flags) 0 i i (omega arith) in
    grind (arith, common_steps, append_assoc, yes, no, more)
