-- What is due, by its kind.
use Rattle.std.proofs.Common.{◌≡◌, List, sym, subst}
use Rattle.sched_plan.specs.declared.history.Event.{Event}
use Rattle.sched_storm_report.specs.declared.moments.Failure.{Failure}
use Rattle.sched_storm.specs.Plays.{Stage, begins, retries, succeeds, fails}
use Rattle.sched_storm.specs.Turns.{kind_of}
use Rattle.sched_storm.specs.declared.turns.Kind.TheVariants.{Begins, Retries, Succeeds, Fails}

same_failure : (f g : Failure) → Fails f ≡ Fails g → f ≡ g
same_failure f g h = cc

module _ (P : Stage → Type 0) where
  pub of_begins : P begins → (what : Stage) → kind_of what ≡ Begins → P what
  of_begins p begins h = p
  of_begins p (retries g) h = cc
  of_begins p succeeds h = cc
  of_begins p (fails f g) h = cc

  pub of_retries : ((g : List Event) → P (retries g)) → (what : Stage) → kind_of what ≡ Retries → P what
  of_retries p begins h = cc
  of_retries p (retries g) h = p g
  of_retries p succeeds h = cc
  of_retries p (fails f g) h = cc

  pub of_succeeds : P succeeds → (what : Stage) → kind_of what ≡ Succeeds → P what
  of_succeeds p begins h = cc
  of_succeeds p (retries g) h = cc
  of_succeeds p succeeds h = p
  of_succeeds p (fails f g) h = cc

  pub of_fails : (f : Failure) → ((g : List Event) → P (fails f g)) → (what : Stage) → kind_of what ≡ Fails f → P what
  of_fails f p begins h = cc
  of_fails f p (retries g) h = cc
  of_fails f p succeeds h = cc
  of_fails f p (fails e g) h = subst (λ x. P (fails x g)) (sym (same_failure e f h)) (p g)
