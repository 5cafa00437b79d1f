-- The status of what refuses the terms of a quota says why no quota is made of them.
use Rattle.std.proofs.Common.{◌≤◌}
use Rattle.sched_time.specs.declared.numbers.TheConstants.{FAR}
use Rattle.sched_ticket_quota.specs.Calls.{RefusesTerms}
use Rattle.sched_ticket_quota.specs.declared.view.Terms.{Terms}
use Rattle.sched_ticket_quota.specs.declared.fault.QuotaFault.{QuotaFault}
use Rattle.sched_ticket_quota.specs.declared.fault.QuotaFault.TheVariants as quota
use Rattle.sched_handle.specs.Passes.{NoQuota}
use Rattle.sched_handle.specs.Status.{of_quota}

pub no_quota : (k : Terms) (fault : QuotaFault) → k.period ≤ FAR → RefusesTerms k fault → NoQuota k (of_quota fault)
no_quota k quota.NoMemory far why = (why, far)
no_quota k quota.TooManyPasses far why = absurd why
no_quota k _ far why = why
