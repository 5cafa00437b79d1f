-- An end that is said to be of a job has its plan, and runs that follow its script.
use Rattle.std.proofs.Common.{List, subst, sym, ap, ◌∙◌}
use Rattle.sched_effect.specs.Played.{Follows}
use Rattle.sched_effect.specs.declared.ran.Ran.{Ran}
use Rattle.sched_driver.specs.Driven.{Driven}
use Rattle.sched_pool_scripted.proofs.ends.is_end_of.Goals as goal

pub returns-then-same : goal.returns-then-same
returns-then-same c h = record {
  plan = ap (λ (d : Driven). d.plan) (sym c.driver.ensures) ∙ sym c.plan-2.ensures
      ∙ sym (c.same.ensures.0 c.if-same.true) ∙ c.plan.ensures;
  runs =
      subst (λ (runs : List Ran). Follows c.args.job.now.script runs) c.effect.ensures
      (subst (λ (s : List Ran). Follows s c.effect.result.now.runs)
      (sym c.script-then-same.ensures.script ∙ sym (c.same_runs.ensures h) ∙ c.script.ensures.script)
      c.script-then-same.ensures.followed);
}
