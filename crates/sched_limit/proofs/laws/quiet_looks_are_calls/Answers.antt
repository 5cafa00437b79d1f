-- The law of looks at quiet words.
use Rattle.sched_limit.proofs.QuietWords as quiet
use Rattle.sched_limit.proofs.laws.quiet_looks_are_calls.Goals as goal

pub returns : goal.returns
returns c = quiet.quiet_looks_are_calls
