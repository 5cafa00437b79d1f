-- The law of a word that a store keeps.
use Rattle.sched_limit_kept.proofs.Runs as runs
use Rattle.sched_limit_kept.proofs.laws.tokens_are_kept.Goals as goal

pub returns : goal.returns
returns c = runs.tokens_are_kept
