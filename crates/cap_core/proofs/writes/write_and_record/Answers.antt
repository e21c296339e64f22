use Rattle.std.proofs.Common.{◌≡◌, [], ap, ◌∙◌}
use Rattle.cap_session.specs.Delta.{published}
use Rattle.cap_session.specs.Sessions.{record_commit_each}
use Rattle.cap_core.proofs.SmallLemmas.{shown-recorded}
use Rattle.cap_core.proofs.writes.write_and_record.Goals as goal

pub returns-in-Ok-Some : goal.returns-in-Ok-Some
returns-in-Ok-Some g c =
    let live = c.args.sessions.now in
    let delta = c.in-Ok-Some.delta in
    let told = rw c.in-Ok-Some.is at c.in_ok-delta.ensures.written in
    let moved : published delta live ≡ record_commit_each told.1 [] live = let some = rw c.in-Ok-Some.field-0-is at told.4 in cc in
    (told.0, told.2, c.publish.ensures ∙ ap (published delta) c.in_ok-delta.ensures.kept ∙ moved ∙ shown-recorded told.1 told.0 live told.3, told.5)
