use Rattle.std.proofs.Common.{sym, rules}
use Rattle.std.proofs.Output.{has_written_append, has_written_of_eq}
use Rattle.cap_show.proofs.TextLemmas.{hex_at, hex_nil}
use Rattle.cap_show.proofs.text.write_hex.Goals as goal

pub loop-byte-init : goal.loop-byte-init
loop-byte-init g c = λ plain. has_written_of_eq _ _ _ _ _ (sym hex_nil) (search rules)

pub loop-byte-preserved : goal.loop-byte-preserved
loop-byte-preserved g c = λ plain.
    let so_far = c.loop-byte.invariant plain in
    let next = c.write_byte.ensures so_far.plain (search rules) in
    has_written_of_eq _ _ _ _ _ (hex_at c.args.bytes.now c.loop-byte.byte-index c.loop-byte-test.true) (has_written_append _ _ _ _ _ _ so_far next)
