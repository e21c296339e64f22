use Rattle.cap_txn.specs.Transaction.{batch_of}
use Rattle.cap_core.specs.declared.command.Command.TheVariants.{Commit}
use Rattle.cap_interpreter.specs.Lines.{after_lines, begin_course}
use Rattle.cap_interpreter.proofs.OpenLemmas.{commits, open_on}
use Rattle.cap_interpreter.proofs.laws.transactions_of_lines_commit_if_unchanged.Goals as goal

pub returns : goal.returns
returns g c =
    let traced = c.transactions_are_traced.ensures in
    let keeps = c.applications_keep_to_the_rows_that_they_look_at.ensures in
    let on = open_on traced.call traced.begin keeps.first keeps.step keeps.merged in
    record {
      base = on;
      commit = λ lines txn is fits.
          let h = (after_lines begin_course lines).history in
          commits h txn (on lines txn is) fits c.rows_are_under_own_keys.ensures.rising c.fitting_histories_grow.ensures.begins traced.batch
          c.transactions_commit_if_unchanged.ensures (c.legal_histories_grow.ensures.reply h (Commit (batch_of txn)));
    }
