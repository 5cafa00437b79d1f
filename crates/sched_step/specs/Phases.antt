-- A state while a step is under way: what it is, and what the step makes of it.
use Rattle.std.specs.Prelude.{refl}
use Rattle.std.specs.Coded.{Coded, code_by, coded×}
use Rattle.sched_step.specs.Progress.{Kept, Progress}
use Rattle.sched_step.specs.ProgressCode.{coded_kept, coded_progress}

pub record Phases : Type 0 where
  pub present : Progress
  pub next : Progress

-- the same of what a node over one schedule keeps
pub record KeptPhases : Type 0 where
  pub present : Kept
  pub next : Kept

abbrev pub coded_phases : Coded Phases
coded_phases =
    code_by (Progress × Progress) (coded× coded_progress coded_progress)
    (λ s. (s.present, s.next)) (λ p. record { present = p.0; next = p.1 }) (λ _. refl)

abbrev pub coded_kept_phases : Coded KeptPhases
coded_kept_phases =
    code_by (Kept × Kept) (coded× coded_kept coded_kept)
    (λ s. (s.present, s.next)) (λ p. record { present = p.0; next = p.1 }) (λ _. refl)
