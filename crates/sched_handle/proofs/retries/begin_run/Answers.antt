-- A poll of the machine is one of the retry.
use Rattle.sched_handle.proofs.retries.begin_run.Goals as goal

pub returns : goal.returns
returns c =
    record { polls = c.poll.ensures.polls; deadline = c.poll.ensures.deadline; in_time = c.poll.ensures.in_time }
