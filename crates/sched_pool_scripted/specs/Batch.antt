-- What is true of jobs that were run on one budget.
use Rattle.std.specs.Prelude.{◌≡◌, ℕ, ◌≤◌, true, List, [], All}
use Rattle.sched_ticket.specs.Lists.{total}
use Rattle.sched_ticket.specs.Held.{Name, Held}
use Rattle.sched_task_law.specs.Kind.{retry}
use Rattle.sched_task_law.specs.Past.{Past}
use Rattle.sched_task_law.specs.Law.{Law}
use Rattle.sched_pool.specs.Ends.{has_refused, IsEnd}
use Rattle.sched_pool_json.specs.Job.{Job}
use Rattle.sched_pool_scripted.specs.Ends.{AreEndsOf}

-- The jobs ended so on a budget of this limit, which gave out so many tickets.
pub record AreRun (jobs : List Job) (limit : ℕ) (ends : List Past) (granted : ℕ) : Type 0 where
  pub each : AreEndsOf jobs ends
  -- each keeps the law of a retry
  pub laws : All (Law retry) ends
  -- the tickets are those that the jobs were granted
  pub sum : granted ≡ total (λ (v : Past). v.granted) ends
  -- they don't pass the limit, and are the limit where a job ended as refused by the budget
  pub within : granted ≤ limit
  pub full : has_refused ends ≡ true → granted ≡ limit

-- the ends of so many jobs on this budget, whose pass had no tickets before
abbrev pub IsNewEnd : Name → ℕ → List Past → Held → ℕ → Type 0
IsNewEnd budget jobs ends pass granted =
    (before : Held) × (before.has.tickets ≡ []) × IsEnd budget jobs before ends pass granted
