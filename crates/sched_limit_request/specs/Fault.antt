-- What a refused split says.
use Rattle.std.specs.Prelude.{ℕ, List, codes}
use Rattle.sched_limit_request.specs.declared.fault.SplitFault.{SplitFault}
use Rattle.sched_limit_request.specs.declared.fault.SplitFault.TheVariants.{NoMemory, TooManyPasses}

-- the reason, in words
abbrev pub fault_text : SplitFault → List ℕ
fault_text NoMemory = codes "no memory"
fault_text TooManyPasses = codes "the pass has one part, which it keeps"
