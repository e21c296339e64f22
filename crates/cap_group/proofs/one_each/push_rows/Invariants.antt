use Rattle.std.proofs.Common.{◌≡◌, ◌-◌, get_or}
use Rattle.cap_group.specs.Place.{Place}
use Rattle.cap_group.proofs.RunLemmas.{IsPut}
use Rattle.cap_group.proofs.one_each.push_rows.Given as goal

abbrev pub invariant-loop-number : goal.invariant-loop-number
invariant-loop-number g l = record {
  table : l.group.table ≡ l.fn.group.table;
  schema : l.group.schema ≡ l.flags;
  flags : l.row.flags ≡ l.flags;
  put : (d : Place g.row.A.Denot g.row.C.Denot) →
      IsPut g.C.Combine.key g.C.Combine.combined l.fn.group.table l.flags g.C.Entry.fits_in l.places (get_or l.places (l.number - 1) d).key l.number l.group.changes l.row.change;
}
