use Rattle.std.proofs.Common.{◌≡◌, ◌++◌, drop, string_bytes}
use Rattle.std.specs.List.{flat_map}
use Rattle.cap_script.specs.ListText.{session_line}
use Rattle.cap_script.proofs.list_text.write_sessions.Given as goal

abbrev pub invariant-loop-session : goal.invariant-loop-session
invariant-loop-session g l = string_bytes l.out ++ flat_map session_line (drop l.session-index l.sessions) ≡ string_bytes l.initial.out ++ flat_map session_line l.sessions
