-- The reply to a line of a run, as it is printed.
use Rattle.std.specs.Prelude.{◌≡◌, ◌++◌, ◌∷◌, ◌+◌, ◌≤◌, ℕ, List, [], length}
use Rattle.std.specs.Prelude.{String, string_bytes, string_capacity, string_len}
use Rattle.cap_core.specs.declared.reply.Reply.{Reply}
use Rattle.cap_replies.specs.ReplyJson.{reply_json}
use Rattle.cap_replies.specs.declared.run_line.ReplyForm.{ReplyForm}
use Rattle.cap_replies.specs.declared.run_line.ReplyForm.TheVariants.{Json, Text}
use Rattle.cap_replies.specs.declared.run_line.RunLine.{RunLine}
use Rattle.cap_script.specs.ReplyText as script
use Rattle.cap_script.specs.declared.line.Line.{Line}

module _ {A : Type 0} where
  abbrev pub text_in : ReplyForm → ℕ → Line A → Reply A → List ℕ
  text_in Text number line reply = script.reply_text line reply
  text_in Json number line reply = reply_json number line reply

  -- its text, or the JSON of it
  abbrev pub reply_text : RunLine A → Reply A → List ℕ
  reply_text line reply = text_in line.form line.number line.line reply

  -- this text is the reply, as a line
  abbrev pub IsMade : RunLine A → Reply A → String A → Type 0
  IsMade line reply made = string_bytes made ≡ reply_text line reply ++ 10 ∷ []

-- the output has room for the text
abbrev pub HasRoomFor : {A : Type 0} → String A → String A → Type 0
HasRoomFor made output = string_len output + length (string_bytes made) ≤ string_capacity output
