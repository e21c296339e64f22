use Rattle.cap_txn.specs.Transaction.{batch_of}
use Rattle.cap_core.specs.declared.command.Command.TheVariants.{Commit}
use Rattle.cap_interpreter.specs.Lines.{after_lines, begin_course}
use Rattle.cap_interpreter.proofs.LedLemmas.{committed_on}
use Rattle.cap_interpreter.proofs.OpenLemmas.{applying_on, commits}
use Rattle.cap_interpreter.proofs.laws.applications_of_lines_commit_if_unchanged.Goals as goal

pub returns : goal.returns
returns g c =
    let traced = c.transactions_are_traced.ensures in
    let keeps = c.applications_keep_to_the_rows_that_they_look_at.ensures in
    let on = applying_on traced.call traced.begin keeps.first keeps.step keeps.merged in
    record {
      keeps = on;
      commit = λ lines app txn is made fits.
          let h = (after_lines begin_course lines).history in
          commits h txn (committed_on traced.call traced.begin h app txn (on lines app is) made) fits c.rows_are_under_own_keys.ensures.rising c.fitting_histories_grow.ensures.begins traced.batch
          c.transactions_commit_if_unchanged.ensures (c.legal_histories_grow.ensures.reply h (Commit (batch_of txn)));
    }
