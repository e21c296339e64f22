use Rattle.cap_server.proofs.Committing.{commits}
use Rattle.cap_server.proofs.server.Server.commit.Goals as goal

pub returns-clause-judged : goal.returns-clause-judged
returns-clause-judged g c =
    commits c.call.result c.args.seat.now c.call.new.seat c.args.batch c.transactions_commit_if_unchanged.ensures c.legal_histories_were_legal.ensures.reply
    c.legal_histories_grow.ensures.reply c.fitting_histories_grow.ensures.begins c.rows_are_under_own_keys.ensures.rising c.sound_reads_law.ensures c.call.ensures.called
