use Rattle.cap_database.specs.Read.{row_at}
use Rattle.cap_rebase.specs.Rebaser.{rebased_list}
use Rattle.cap_convergence.proofs.LeadsLemmas.{applied_whole}
use Rattle.cap_convergence.proofs.RebasedLemmas.{is_rebased, rebased_leads, rebased_once}
use Rattle.cap_convergence.proofs.TurnLemmas.{in_turn}
use Rattle.cap_convergence.proofs.laws.a_rebased_changeset_leads_from_the_hub_to_the_client.Goals as goal

pub returns : goal.returns
returns g c =
    let keep = c.applied_blobs_keep_order.ensures in
    record {
      rebased = λ columns base hub client last local remotes buffers rise has leads once applied.
          let turn = in_turn keep columns base client remotes buffers hub last rise has leads.rows.under applied in (
            rebased_list buffers local,
            is_rebased columns base hub client last buffers local rise leads once turn,
            rebased_leads columns base hub client last buffers local rise leads once turn,
            rebased_once columns base hub client last buffers local rise leads once turn,
          );
      hub = λ columns base hub client last main local remotes buffers policy rise has leads once applied main_rise main_has same.
          let turn = in_turn keep columns base client remotes buffers hub last rise has leads.rows.under applied in (
            rebased_list buffers local,
            is_rebased columns base hub client last buffers local rise leads once turn,
            applied_whole policy columns main hub (row_at last) (rebased_list buffers local) main_rise main_has same (rebased_leads columns base hub client last buffers local rise leads once turn),
          );
    }
