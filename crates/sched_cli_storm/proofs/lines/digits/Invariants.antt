-- The loop ends, since each turn leaves a smaller rest.
use Rattle.sched_cli_storm.proofs.lines.digits.Given as goal

abbrev pub decreases-loop-rest : goal.decreases-loop-rest
decreases-loop-rest l = l.rest
