-- An adaptive limit admits up to its level, which stays in its bounds, and counts each request once.
use Rattle.sched_limit.proofs.Adaptives.{levels_stay_within, admits_are_under_the_level, levels_learn_in_use}
use Rattle.sched_limit.proofs.Adaptives.{inside_is_counted}
use Rattle.sched_limit.proofs.laws.adaptive_limits_hold.Goals as goal

pub returns-clause-within : goal.returns-clause-within
returns-clause-within c = levels_stay_within

pub returns-clause-under : goal.returns-clause-under
returns-clause-under c = admits_are_under_the_level

pub returns-clause-learns : goal.returns-clause-learns
returns-clause-learns c = levels_learn_in_use

pub returns-clause-counted : goal.returns-clause-counted
returns-clause-counted c = inside_is_counted
