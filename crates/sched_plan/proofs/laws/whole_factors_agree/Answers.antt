-- `exponential_milli` of 1,000 times a factor answers as `exponential` of that factor does.
use Rattle.std.proofs.Common.{ap, length}
use Rattle.sched_plan.specs.Answer.{go_after}
use Rattle.sched_plan.specs.Datum.{num}
use Rattle.sched_plan.proofs.SequenceLaws.{milli_at-exponential}
use Rattle.sched_plan.proofs.laws.whole_factors_agree.Goals as goal

pub returns : goal.returns
returns c = λ base factor small least most h.
    ap (λ x. record { output = num x; decision = go_after x h }) (milli_at-exponential base factor (length h) small)
