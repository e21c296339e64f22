use Rattle.std.proofs.Common.{◌≡◌, rules}
use Rattle.std.specs.Prelude.{Err}
use Rattle.cap_locked.specs.declared.fault.HookFault.TheVariants as hook
use Rattle.cap_connection.proofs.CallLemmas.{line_stops}
use Rattle.cap_connection.proofs.connection.Connection.run_line.Goals as goal

pub returns : goal.returns
returns c =
    let is : c.call_with_hook-answer.result ≡ Err (hook.Call c.in-Err-Call.fault) = search rules in
    line_stops c.args.line.now c.self.inside.client c.call_with_hook-answer.new.self c.self.inside.output.items c.args.self.now c.call_with_hook-answer.result c.in-Err-Call.fault c.fault_of.result
    c.self.view_is is c.fault_of.ensures c.call_with_hook-answer.ensures.history c.call_with_hook-answer.ensures.refused c.call_with_hook-answer.ensures.cause
