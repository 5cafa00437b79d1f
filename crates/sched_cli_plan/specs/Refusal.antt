-- What printing refuses where reading refused.
use Rattle.sched_plan.specs.declared.plans.PlanFault.TheVariants as builder
use Rattle.sched_plan_json.specs.declared.faults.ReadFault.{ReadFault}
use Rattle.sched_plan_json.specs.declared.faults.ReadFault.TheVariants as reading
use Rattle.sched_cli_plan.specs.declared.faults.PrintFault.{PrintFault}
use Rattle.sched_cli_plan.specs.declared.faults.PrintFault.TheVariants.{NotAPlan, OutOfRange, TooDeep, TooMany}
use Rattle.sched_cli_plan.specs.declared.faults.PrintFault.TheVariants.{NoMemory}

abbrev pub refusal_of : ReadFault → PrintFault
refusal_of reading.NotAPlan = NotAPlan
refusal_of (reading.Plan builder.OutOfRange) = OutOfRange
refusal_of (reading.Plan builder.TooDeep) = TooDeep
refusal_of (reading.Plan builder.TooMany) = TooMany
refusal_of (reading.Plan builder.NoMemory) = NoMemory
