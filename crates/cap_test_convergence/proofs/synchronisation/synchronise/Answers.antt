use Rattle.cap_codec.specs.declared.key_flags.KeyFlags.TheVariants.{Ones}
use Rattle.cap_core.proofs.KeyedLemmas.{main-rises}
use Rattle.cap_test_convergence.proofs.ConvergenceLemmas.{synchronises}
use Rattle.cap_test_convergence.proofs.synchronisation.synchronise.Goals as goal

pub returns-clause-synchronised : goal.returns-clause-synchronised
returns-clause-synchronised g c =
    λ p q p_left q_left one.
    let order = c.tables_keep_order.ensures in
    let keep = c.tables_keep_columns.ensures in
    synchronises keep.run keep.create c.applied_blobs_keep_columns.ensures c.a_rebased_changeset_leads_from_the_hub_to_the_client.ensures.hub
    (main-rises order.empty order.run order.create c.applied_blobs_keep_order.ensures)
    (λ past session capture is writable. c.bytes_of_a_capture_give_the_rows_now.ensures.changeset_read past session capture Ones is writable)
    p q c.args.client.now c.args.hub.now c.in_ok-made.made.client c.in_ok-made.made.hub c.args.client_session c.args.hub_session c.args.policy c.in_ok-made.made.exchange
    c.in_ok-made.ensures.exchanged p_left q_left one
