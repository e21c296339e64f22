use Rattle.std.proofs.Common.{◌≡◌, ◌++◌, subst, sym}
use Rattle.std.specs.Prelude.{string_bytes}
use Rattle.cap_core.specs.Answer.{State, snapshot_of}
use Rattle.cap_core.specs.declared.command.Command.TheVariants.{Read}
use Rattle.cap_replies.specs.Stops.{stop_text}
use Rattle.cap_interpreter.specs.Application.{opened}
use Rattle.cap_interpreter.specs.Lines.{on_a_line}
use Rattle.cap_interpreter.proofs.LineLemmas.{one_event}
use Rattle.cap_interpreter.proofs.commands.apply_each.Goals as goal

pub returns-in-Ok-clause-served : goal.returns-in-Ok-clause-served
returns-in-Ok-clause-served g c = λ h legal is. (
  one_event h Read c.args.core.now c.apply_each_with_room.new.core is c.in-Ok.ensures.core (c.legal_histories_grow.ensures.next h 0 Read legal),
  subst (λ (s : State g.row.A.Denot). string_bytes c.apply_each_with_room.new.output ≡ string_bytes c.args.output.now ++ on_a_line (stop_text c.args.line.now (opened (snapshot_of s) c.args.blob.now c.args.filter.now).applier)) (sym is) c.in-Ok.ensures.text,
)
