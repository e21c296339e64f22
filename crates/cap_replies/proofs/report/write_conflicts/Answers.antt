use Rattle.std.proofs.Common.{[], ◌∷◌, codes, refl}
use Rattle.json.specs.Token as token
use Rattle.cap_replies.specs.ReplyJson.{conflicts_member}
use Rattle.cap_replies.proofs.TokenLemmas.{appends_more}
use Rattle.cap_replies.proofs.report.write_conflicts.Goals as goal

pub returns : goal.returns
unfolding conflicts_member
returns g c = appends_more c.write_conflict_array.result c.args.writer.now c.write_key.new.writer c.write_conflict_array.new.writer (token.key (codes "conflicts") ∷ []) _ _ c.in_ok-write_key.ensures c.write_conflict_array.ensures refl
