-- The ending of calls is that of the last run.
use Rattle.std.proofs.Common.{◌≡◌, ℕ, Bool, true, false, List, Option, Some, None, Result, sym, subst}
use Rattle.sched_effect.specs.Runs.{ran_by}
use Rattle.sched_effect.specs.declared.ran.Ran.{Ran}
use Rattle.sched_effect.specs.declared.ran.Ran.TheVariants.{Won, Lost}
use Rattle.sched_task.specs.declared.endings.How.{How}
use Rattle.sched_task.specs.declared.endings.How.TheVariants as how
use Rattle.sched_task_law.specs.Lists.{last_element}
use Rattle.sched_run_machine.specs.Aims.{MayStop, EndsAs}
use Rattle.sched_closure.specs.Endings.{EndsWith, MayStopCalls, EndsCalls}

-- what an ending hands out in the place of what the last call gave
pub ends_with : {I F : Type 0} (item_code : I → ℕ) (fault_code : F → ℕ) (over : Option How) (runs : List Ran)
    (how : How)
    (handed outcome : Result I F) → handed ≡ outcome → over ≡ Some how →
    last_element runs ≡ Some (ran_by item_code fault_code outcome) → EndsWith item_code fault_code over runs how handed
ends_with {I} {F} item_code fault_code over runs how handed outcome same ends last =
    (ends, subst (λ (o : Result I F). last_element runs ≡ Some (ran_by item_code fault_code o)) (sym same) last)

-- calls may end as a run may end them
stops_calls : (repeats : Bool) (over : Option How) → MayStop repeats over → MayStopCalls repeats over
stops_calls repeats None is = tt
stops_calls repeats (Some how.ScheduleDone) is = tt
stops_calls repeats (Some how.BudgetRefused) is = is
stops_calls repeats (Some (how.Broken fault)) is = tt
stops_calls repeats (Some _) is = absurd is

pub ends_calls : (repeats : Bool) (ran : Ran) (over : Option How) → EndsAs repeats ran over → EndsCalls repeats ran over
ends_calls false (Won code) over is = is
ends_calls false (Lost code) over is = stops_calls false over is
ends_calls true (Won code) over is = stops_calls true over is
ends_calls true (Lost code) over is = is
