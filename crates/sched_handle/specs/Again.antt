-- A retry that begins again with the pass that it has.
use Rattle.std.specs.Prelude.{◌≡◌, ℕ, Option, Result, Ok}
use Rattle.sched_run_machine.specs.Again.{BeginsAgain}
use Rattle.sched_ticket_draws.specs.Drawing.{drawing_grants}
use Rattle.sched_handle.specs.Held.{OtherKind}
use Rattle.sched_handle.specs.Retries.{Hosted}
use Rattle.sched_handle.specs.declared.held.Held.{Held}
use Rattle.sched_handle.specs.declared.held.Held.TheVariants.{Retry}
use Rattle.sched_handle.specs.declared.status.Status.{Status}

abbrev pub Again : Option ℕ → Held → Result (Unit {0}) Status → Held → Type 0
Again deadline (Retry m) r v = (r ≡ Ok tt) × (n : Hosted) × (v ≡ Retry n) × BeginsAgain drawing_grants deadline m n
Again deadline u r v = OtherKind u r v
