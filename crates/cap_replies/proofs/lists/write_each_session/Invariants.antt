use Rattle.std.proofs.Common.{◌≡◌, ◌++◌, take}
use Rattle.std.specs.List.{flat_map}
use Rattle.cap_replies.specs.ReplyJson.{session as session_tokens}
use Rattle.cap_replies.proofs.lists.write_each_session.Given as goal

abbrev pub invariant-loop-session : goal.invariant-loop-session
invariant-loop-session g l = record {
  written : l.writer.tokens ≡ l.fn.writer.tokens ++ flat_map session_tokens (take l.session-index l.sessions);
  behind : l.writer.before ≡ l.fn.writer.before;
}
