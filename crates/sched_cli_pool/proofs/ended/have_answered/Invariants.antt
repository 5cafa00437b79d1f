-- All jobs have answered if the rest have.
use Rattle.std.proofs.Common.{◌≡◌, drop}
use Rattle.sched_cli_pool.specs.JobsPrinting.{all_answered}
use Rattle.sched_cli_pool.proofs.ended.have_answered.Given as goal

-- the rest tells of all
abbrev pub invariant-loop-end : goal.invariant-loop-end
invariant-loop-end l = all_answered l.ends ≡ all_answered (drop l.end-index l.ends)
