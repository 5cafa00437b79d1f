-- What is put into a block of its own is the new pace.
use Rattle.std.specs.Prelude.{◌≡◌, None, Result, Ok, Err, IfOk, IfErr}
use Rattle.std.specs.Global.{Global}
use Rattle.std_alloc.specs.declared.boxed.Box.{Box}
use Rattle.sched_limit_word.specs.View.{first_view}
use Rattle.sched_pace.specs.Held.{OfPace}
use Rattle.sched_pace.specs.declared.pace.Pace.{Pace as Terms}
use Rattle.sched_handle.specs.Paces.{MakesPace}
use Rattle.sched_handle.specs.declared.held.Held.{Held}
use Rattle.sched_handle.specs.declared.held.Held.TheVariants.{Pace}
use Rattle.sched_handle.specs.declared.status.Status.{Status}
use Rattle.sched_handle.specs.declared.status.Status.TheVariants.{NoMemory}

pub made : (p : Terms) (r : Result (Box Held Global) Status) (d : OfPace) → IfOk r (λ b. b.value ≡ Pace d)
    → IfErr r (λ s. s ≡ NoMemory) → d.limit.machine ≡ p → d.pass.has ≡ first_view 0 → d.last ≡ None → MakesPace p r
made p (Ok b) d ok err machine first last = (d, ok, machine, first, last)
made p (Err s) d ok err machine first last = err
