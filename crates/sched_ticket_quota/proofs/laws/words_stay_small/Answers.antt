-- No word wraps.
use Rattle.sched_ticket_quota.proofs.Views.{words_stay_small}
use Rattle.sched_ticket_quota.proofs.laws.words_stay_small.Goals as goal

pub returns : goal.returns
returns c = words_stay_small
