use Rattle.std.proofs.Common.{Err, sym, ap, ◌∙◌}
use Rattle.cap_filter.proofs.RunLemmas.{filter_of-ok, filter_of-err}
use Rattle.cap_filter.proofs.table_filter.TableFilter.read.Goals as goal

pub returns-in-Ok-clause-reading : goal.returns-in-Ok-clause-reading
returns-in-Ok-clause-reading g c = filter_of-ok c.args.text.now _ c.in-Ok.ensures.reads

pub returns-in-Err-Refused-clause-reading : goal.returns-in-Err-Refused-clause-reading
returns-in-Err-Refused-clause-reading g c = filter_of-err c.args.text.now c.in-Err-Refused.stop (rw c.in-Err-Refused.field-0-is at c.in-Err-Refused.ensures.reads) ∙ ap Err (sym c.refusal.ensures)
