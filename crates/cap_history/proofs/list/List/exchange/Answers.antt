use Rattle.std.proofs.Common.{sym, ap, ◌∙◌, ◌≡◌, ◌+◌, ◌<◌, ◌^◌, length, arith}
use Rattle.cap_core.specs.Answer.{reply_of}
use Rattle.cap_history.specs.Beginnings.{prefix-trans}
use Rattle.cap_history.proofs.Adding.{adds_moves}
use Rattle.cap_history.proofs.list.List.exchange.Goals as goal

pub compare_exchange-found-requires : goal.compare_exchange-found-requires
compare_exchange-found-requires g c =
    let word = c.front.invariant in
    let learned = c.learn.ensures in
    let offer = c.plain-offer.ensures in
    let pen = c.no_pen-pen.ensures in
    let book = learned.0 ∙ (ap (λ s. s.book) c.self.view_is ∙ c.requires.this) ∙ sym c.front.view_is in
    let at = c.at.inside.seen.log in
    let log : at ≡ c.args.at.now.log = ap (λ s. s.log) c.at.view_is in
    let replied : c.args.reply.now ≡ reply_of at c.args.command.now = c.requires.reply ∙ ap (λ l. reply_of l c.args.command.now) (sym log) in
    let room : c.at.inside.len + 1 < 2 ^ 63 = omega (arith, c.at.invariant.0, ap length log, c.requires.room) in (
      ap (λ w. w.tracked) word,
      book,
      pen.0 ∙ book,
      offer.0,
      rw (ap (λ w. w.key) word, pen.1, offer.1, offer.3)
          (adds_moves c.learn.new.self.log at c.args.by c.args.command.now c.args.reply.now c.at.inside.len c.legal_histories_grow.ensures.more c.fitting_histories_grow.ensures.more c.blob_fits.ensures (sym c.at.invariant.0) room replied learned.3),
    )

pub returns-clause-seen : goal.returns-clause-seen
returns-clause-seen g c =
    rw (← c.self.view_is) (prefix-trans c.self.inside.seen.log c.learn.new.self.log c.compare_exchange-found.new.seen.log c.learn.ensures.2 c.compare_exchange-found.ensures.6)
