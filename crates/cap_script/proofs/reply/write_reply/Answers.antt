use Rattle.std.proofs.Common.{◌≡◌, sym, ap, ◌∙◌, string_bytes}
use Rattle.cap_script.specs.ReplyText.{reply_text}
use Rattle.cap_script.proofs.RowLemmas.{pushed}
use Rattle.cap_script.proofs.reply.write_reply.Goals as goal

pub returns-in_ok-text-in-Snapshot : goal.returns-in_ok-text-in-Snapshot
unfolding reply_text
returns-in_ok-text-in-Snapshot g c =
    let text : string_bytes c.in_ok-text-in-Snapshot.text ≡ reply_text c.args.line.now c.args.reply.now = c.in_ok-text-in-Snapshot.ensures ∙ ap (reply_text c.args.line.now) (sym c.in-Snapshot.is) in
    rw (sym text) (pushed c.push_str-in-Snapshot.result (string_bytes c.push_str-in-Snapshot.new.self) (string_bytes c.args.out.now) (string_bytes c.in_ok-text-in-Snapshot.text) (rw c.as_str-in-Snapshot.ensures.value at c.push_str-in-Snapshot.ensures.bytes))

pub returns-in_ok-text-in-Capture : goal.returns-in_ok-text-in-Capture
unfolding reply_text
returns-in_ok-text-in-Capture g c =
    let text : string_bytes c.in_ok-text-in-Capture.text ≡ reply_text c.args.line.now c.args.reply.now = c.in_ok-text-in-Capture.ensures ∙ ap (reply_text c.args.line.now) (sym c.in-Capture.is) in
    rw (sym text) (pushed c.push_str-in-Capture.result (string_bytes c.push_str-in-Capture.new.self) (string_bytes c.args.out.now) (string_bytes c.in_ok-text-in-Capture.text) (rw c.as_str-in-Capture.ensures.value at c.push_str-in-Capture.ensures.bytes))

pub returns-in_ok-text-in-Dump : goal.returns-in_ok-text-in-Dump
unfolding reply_text
returns-in_ok-text-in-Dump g c =
    let text : string_bytes c.in_ok-text-in-Dump.text ≡ reply_text c.args.line.now c.args.reply.now = c.in_ok-text-in-Dump.ensures ∙ ap (reply_text c.args.line.now) (sym c.in-Dump.is) in
    rw (sym text) (pushed c.push_str-in-Dump.result (string_bytes c.push_str-in-Dump.new.self) (string_bytes c.args.out.now) (string_bytes c.in_ok-text-in-Dump.text) (rw c.as_str-in-Dump.ensures.value at c.push_str-in-Dump.ensures.bytes))
