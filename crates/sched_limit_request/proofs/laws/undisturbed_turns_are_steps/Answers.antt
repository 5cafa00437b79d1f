-- The law of turns that no other call disturbs.
use Rattle.sched_limit_request.proofs.Undisturbed as turns
use Rattle.sched_limit_request.proofs.laws.undisturbed_turns_are_steps.Goals as goal

pub returns : goal.returns
returns c = turns.undisturbed_is_turned
