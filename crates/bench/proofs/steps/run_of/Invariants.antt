-- The state fits the plan from the start on that was planned last.
use Rattle.std.proofs.Common.{ℕ, ◌≤◌, IsTrue}
use Rattle.sched_step.specs.Progress.{fits}
use Rattle.bench.proofs.steps.run_of.Given as goal

-- the state fits from the start on that was planned last
abbrev pub invariant-loop : goal.invariant-loop
invariant-loop l = (later : ℕ) → l.now ≤ later → IsTrue (fits l.plan l.state later)
