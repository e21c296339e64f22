use Rattle.std.proofs.Common.{refl, sym}
use Rattle.std.specs.Option.{option_copied}
use Rattle.cap_session.specs.Records.{Touch}
use Rattle.cap_session.proofs.touch.new_record.Goals as goal

pub returns-then-changes_nothing : goal.returns-then-changes_nothing
returns-then-changes_nothing g c =
    let t : Touch _ = record { key = c.args.key.now; image = option_copied c.args.image; indirect = c.args.indirect } in
    sym (c.changes_nothing.ensures c.if-changes_nothing.true c.args.records.now t c.get-found.ensures.ordered (sym c.get-found.ensures.found) refl)
