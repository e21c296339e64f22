use Rattle.std.proofs.Common.{◌∙◌, ℕ, Vec, ap}
use Rattle.cap_run.proofs.PieceLemmas.{begun}
use Rattle.cap_run.proofs.pieces.Pieces.begin_piece.Goals as goal

pub returns : goal.returns
returns g c =
    begun c.self.inside.full.items c.push_back.new.self.items c.self.inside.last c.replace-last.result c.replace-last.new.dest c.args.self.now
    c.self.view_is c.replace-last.ensures.value c.in_ok-push_back.ensures.items
    (ap (λ (v : Vec ℕ g.row.A.Denot). v.items) c.replace-last.ensures.after ∙ c.in_ok-piece.ensures.items)
