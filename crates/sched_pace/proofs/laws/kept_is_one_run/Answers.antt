-- The steps on a word that a store keeps.
use Rattle.sched_pace.proofs.Kept as kept
use Rattle.sched_pace.proofs.laws.kept_is_one_run.Goals as goal

pub returns-clause-run : goal.returns-clause-run
returns-clause-run c = kept.kept_is_one_run

pub returns-clause-few : goal.returns-clause-few
returns-clause-few c = kept.kept_starts_are_fewer

pub returns-clause-small : goal.returns-clause-small
returns-clause-small c = kept.kept_is_small
