-- A step takes at the moment that C gives.
use Rattle.std.proofs.Common.{subst, ℕ}
use Rattle.hikebox_c.specs.PacesKept.{Took}
use Rattle.hikebox_c.proofs.paces_kept.hikebox_pace_step.Goals as goal

pub returns-clause-takes : goal.returns-clause-takes
returns-clause-takes c = λ _ _. (
  c.in-Some.pace,
  c.in-Some.ensures.some,
  subst
      (λ (n : ℕ). Took c.in-Some.pace n c.args.cost c.step.result (c.args.kept.now, c.args.mark.now, c.args.at.now)
      (c.step.new.kept, c.step.new.mark, c.step.new.at)) c.in-Some-new.ensures.value c.step.ensures,
)
