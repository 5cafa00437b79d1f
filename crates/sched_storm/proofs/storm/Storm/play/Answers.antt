-- Each population has the plan.
use Rattle.std.proofs.Common.{◌≡◌, ℕ, zero, suc, [], None, IfOk, refl, subst, ap, ◌∙◌}
use Rattle.sched_plan.specs.Schedule.{Schedule}
use Rattle.sched_storm.specs.Clients.{plan_at}
use Rattle.sched_storm.specs.Storms.{ReportsOn}
use Rattle.sched_storm.proofs.storm.Storm.play.Goals as goal

one_plan : (plan : Schedule) (k : ℕ) →
    plan_at k (record { first = plan; second = plan; third = plan; fourth = plan }) ≡ plan
one_plan plan zero = refl
one_plan plan (suc zero) = refl
one_plan plan (suc (suc zero)) = refl
one_plan plan (suc (suc (suc k))) = refl

pub returns-clause-reports : goal.returns-clause-reports
returns-clause-reports c =
    let are : (λ k. plan_at k c.in_ok-plans.plans) ≡ (λ k. c.args.plan) =
    λ i. λ k. (ap (plan_at k) c.in_ok-plans.ensures ∙ one_plan c.args.plan k) i in
    subst (λ ps. IfOk c.play_populations.result (ReportsOn [] c.args.self.now ps None)) are
    c.play_populations.ensures.reports
