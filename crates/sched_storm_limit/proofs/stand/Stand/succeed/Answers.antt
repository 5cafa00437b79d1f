-- A success is told, and the request ends.
use Rattle.std.proofs.Common.{Bool, ap, ◌∙◌}
use Rattle.sched_limit.specs.declared.request.Told.TheVariants.{Ended}
use Rattle.sched_storm_limit.specs.Limits.{LimitState, asking}
use Rattle.sched_storm_limit.proofs.stand.Stand.succeed.Goals as goal

pub returns-in_ok-ask : goal.returns-in_ok-ask
returns-in_ok-ask c = rw c.in-Limited.is (ap (λ (p : Bool × LimitState). p.1) c.in_ok-ask.ensures
    ∙ ap (λ (s : LimitState). (asking c.in-Limited.limit Ended c.args.request s).1) c.tell.ensures)
