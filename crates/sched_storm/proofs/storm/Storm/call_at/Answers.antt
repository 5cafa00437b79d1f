-- What becomes of a call is what the definition computes.
use Rattle.std.proofs.Common.{rules}
use Rattle.sched_storm.specs.Calls.{IsCalled}
use Rattle.sched_storm.proofs.Called.{called_is}
use Rattle.sched_storm.proofs.storm.Storm.call_at.Goals as goal

pub returns-then-is_away-clause-value : goal.returns-then-is_away-clause-value
returns-then-is_away-clause-value c = called_is c.args.self.now c.args.replica c.args.busy c.args.at _ (search rules)

pub returns-then-is_full-clause-value : goal.returns-then-is_full-clause-value
returns-then-is_full-clause-value c = called_is c.args.self.now c.args.replica c.args.busy c.args.at _ (search rules)

pub returns-clause-value : goal.returns-clause-value
returns-clause-value c =
    let called : IsCalled c.args.self.now c.args.replica c.args.busy c.args.at c.take.result = search rules in
    called_is c.args.self.now c.args.replica c.args.busy c.args.at c.take.result called
