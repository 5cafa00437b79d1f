-- Jobs that were read and how they ended.
use Rattle.std.specs.Prelude.{◌≡◌, List, [], ◌∷◌}
use Rattle.sched_effect.specs.Played.{Follows}
use Rattle.sched_task_law.specs.Past.{Past}
use Rattle.sched_pool_json.specs.Job.{Job}

-- a job ended so: with its plan, and its finished runs are its script's in order, the last one repeated
pub record IsEndOf (job : Job) (v : Past) : Type 0 where
  pub plan : v.driver.plan ≡ job.plan
  pub runs : Follows job.script v.runs

-- each job has its end, in order
abbrev pub AreEndsOf : List Job → List Past → Type 0
AreEndsOf [] [] = Unit {0}
AreEndsOf (job ∷ jobs) (v ∷ ends) = IsEndOf job v × AreEndsOf jobs ends
AreEndsOf [] (v ∷ ends) = ⊥
AreEndsOf (job ∷ jobs) [] = ⊥
