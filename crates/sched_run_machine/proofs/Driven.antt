-- A task whose driver keeps its journal is that of its journal alone.
use Rattle.std.proofs.Common.{Bool, sym, subst}
use Rattle.sched_time.specs.declared.numbers.Tick.{Tick}
use Rattle.sched_driver.specs.Driven.{Driven}
use Rattle.sched_ticket_draws.specs.Grants.{Grants}
use Rattle.sched_task_law.specs.Kind.{Kind}
use Rattle.sched_run_machine.specs.Drives.{by_driver}
use Rattle.sched_run_machine.specs.Retrying.{Retrying, RetryPoll, along, IsAlong, KeepsLaw, TaskPoll}

module _ {D : Type 0} (grants : Grants D) (kind : Kind) where
  pub driven_may : (v : Retrying D) → KeepsLaw by_driver grants kind v → IsAlong by_driver grants kind v v.past.driver
  driven_may v is = subst (λ (d : Driven). IsAlong by_driver grants kind v d) (sym is.1.stands) is.1

  pub driven_poll : (v : Retrying D) (t : Tick) (ready : Bool) (u : Retrying D) →
      TaskPoll by_driver grants kind v t ready u →
      RetryPoll grants kind v t ready u
  driven_poll v t ready u poll =
      let was = poll.leads v.past.driver (driven_may v poll.keeps) in
      subst (λ (e : Driven). RetryPoll grants kind v t ready (along u e)) (sym was.2.stands) was.1
