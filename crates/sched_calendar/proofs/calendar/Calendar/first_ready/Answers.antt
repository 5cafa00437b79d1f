-- The last of the keys that are ready is the least.
use Rattle.std.proofs.Common.{◌≡◌, ◌-◌, length, Some, sym, subst}
use Rattle.std.specs.List.{slice_get}
use Rattle.sched_calendar.proofs.Least.{least_last}
use Rattle.sched_calendar.proofs.calendar.Calendar.first_ready.Goals as goal

pub returns : goal.returns
returns c =
    least_last c.args.self.now.ready.items c.in_ok-key.field-0.now c.args.self.now.descend
    (subst (λ xs. slice_get xs (length xs - 1) ≡ Some c.in_ok-key.field-0.now) c.deref.ensures.value
    (sym c.in_ok-key.ensures.value))
