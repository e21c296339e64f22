use Rattle.std.proofs.Common.{◌≡◌, ◌<◌, ◌+◌, ◌∷◌, ◌++◌, [], ℕ, length, ap, sym, subst, ◌∙◌, arith, slice_set}
use Rattle.std.proofs.lemmas.Grind.{get_or_default_zero}
use Rattle.cap_core.specs.Answer.{event_by, state}
use Rattle.cap_history.specs.Beginnings.{prefix-length}
use Rattle.cap_history.specs.Own.{own-few}
use Rattle.cap_locked.specs.Counts.{IsCounted}
use Rattle.cap_locked.specs.Locked.{LockedState}
use Rattle.cap_locked.proofs.Causes.{overtaken_after}
use Rattle.cap_locked.proofs.Counting.{counted-push}
use Rattle.cap_locked.proofs.locked.Locked.step_with_hook.Goals as goal

pub returns-then-len-ge-EVENTS_MAX-clause-refused : goal.returns-then-len-ge-EVENTS_MAX-clause-refused
returns-then-len-ge-EVENTS_MAX-clause-refused g c =
    (c.see.ensures.seen, omega (arith, c.len.ensures.length, c.see.ensures.history.few, prefix-length c.self.inside.list.log c.see.new.self.state.seen c.see.ensures.list))

pub overflow_add-count : goal.overflow_add-count
overflow_add-count g c =
    let number = c.number-number.result in
    let counts = c.self.inside.counts.items in
    let seats = ap (λ (s : LockedState g.row.A.Denot). s.seats) c.self.view_is in
    let within : number < length counts = omega (arith, seats, c.requires.known, c.number-number.ensures.number) in
    let count = c.index-count.ensures ∙ get_or_default_zero counts number c.index-count.result.now within ∙ c.self.invariant.1.each number within in
    omega (arith, c.len.ensures.history.few, count, own-few number c.self.inside.list.log)

pub invariant_of-self : goal.invariant_of-self
invariant_of-self g c =
    let number = c.number-number.result in
    let counts = c.self.inside.counts.items in
    let list = c.self.inside.list.log in
    let command = c.args.command.now in
    let seats = ap (λ (s : LockedState g.row.A.Denot). s.seats) c.self.view_is in
    let within : number < length counts = omega (arith, seats, c.requires.known, c.number-number.ensures.number) in
    let count = c.index-count.ensures ∙ get_or_default_zero counts number c.index-count.result.now within ∙ c.self.invariant.1.each number within in
    let push : c.list.result.log ≡ list ++ event_by number command c.in-Ok.reply ∷ [] =
    c.list.ensures.log ∙ c.in-Ok.ensures.added ∙ ap (λ n. list ++ event_by n command c.in-Ok.reply ∷ []) (sym c.number-number.ensures.number) in
    let counted = counted-push (length counts) number c.index-count.result.now counts list c.list.result.log command c.in-Ok.reply c.self.invariant.1 within count push in (
      c.in-Ok.ensures.state ∙ ap state (sym c.list.ensures.log),
      subst (λ (n : ℕ). IsCounted n (slice_set counts number (c.index-count.result.now + 1)) c.list.result.log) (sym counted.long) counted,
    )

pub returns-then-len-ge-EVENTS_MAX-clause-cause : goal.returns-then-len-ge-EVENTS_MAX-clause-cause
returns-then-len-ge-EVENTS_MAX-clause-cause g c =
    rw (← c.self.view_is) (c.len.ensures.history, omega (arith, c.len.ensures.length, c.len.ensures.history.few))

pub returns-in-Err-Refused-Call-clause-cause : goal.returns-in-Err-Refused-Call-clause-cause
returns-in-Err-Refused-Call-clause-cause g c =
    let refused = rw c.in-Err-Refused-Call.field-0-is at c.in-Err-Refused-Call.ensures.refused in
    let told = rw c.in-Err-Refused-Call.field-0-0-is at refused in
    rw (← c.self.view_is)
    (c.len.ensures.history, overtaken_after c.args.seat.now.state c.self.inside.list.log c.in-Err-Refused-Call.overtaken.front c.calls_are_in.ensures told.2)
