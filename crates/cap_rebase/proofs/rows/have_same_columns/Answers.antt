use Rattle.std.proofs.Common.{◌≡◌, true, sym, subst}
use Rattle.std.specs.Prelude.{IsTrue, slice_index_or}
use Rattle.cap_row.specs.Schema.{flags_eq}
use Rattle.cap_changes.specs.Fits.{change_fits}
use Rattle.cap_group.proofs.GroupLemmas.{flags_same}
use Rattle.cap_rebase.proofs.rows.have_same_columns.Goals as goal

pub returns-clause-fit : goal.returns-clause-fit
returns-clause-fit g c = λ same k d within.
    let is : flags_eq c.args.group.now.schema c.args.other.now.schema ≡ true = cc in
    subst (λ flags. IsTrue (change_fits flags (slice_index_or c.args.other.now.changes k d)))
    (sym (flags_same c.args.group.now.schema c.args.other.now.schema is)) (c.changes-changes.ensures.fit k d within)
