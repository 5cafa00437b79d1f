-- A driver plans nothing before its last event.
use Rattle.std.proofs.Common.{◌≡◌, rules}
use Rattle.sched_storm.proofs.Starts.{starts_after}
use Rattle.sched_storm.proofs.drivers.next_start.Goals as goal

pub returns-in-Ok-clause-later : goal.returns-in-Ok-clause-later
returns-in-Ok-clause-later c =
    let now : c.args.at ≡ c.unwrap-now.result = search rules in
    starts_after _ c.args.at c.in-Ok.decision _ c.in-Ok.ensures.start c.start.ensures now
