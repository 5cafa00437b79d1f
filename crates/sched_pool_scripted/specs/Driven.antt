-- A quota's passes before and while the jobs run.
use Rattle.std.specs.Prelude.{◌≡◌, [], length, is_some}
use Rattle.sched_ticket.specs.Lists.{Each}
use Rattle.sched_ticket_quota.specs.Windows.{window_of}
use Rattle.sched_ticket_quota.specs.Held.{Name}
use Rattle.sched_ticket_quota.specs.declared.view.View.{View}
use Rattle.sched_ticket_draws.specs.Quotas.{OfQuota}
use Rattle.sched_run_machine.specs.Retrying.{Retrying}

-- a pass with which nothing was drawn, no request was counted and no terms were set
pub record IsUnused (v : View) : Type 0 where
  pub told : v.told ≡ 0
  pub tickets : v.tickets ≡ []
  pub requests : v.requests ≡ []
  pub unchanged : v.changes ≡ []

-- a retry on this quota, with a pass that had no ticket before it, has counted one request, in the window 0, and set no
-- terms; its ending is there where it is over
pub record IsOnQuota (quota : Name) (v : Retrying OfQuota) : Type 0 where
  pub of : v.drawing.quota ≡ quota
  pub had : v.had ≡ 0
  pub untaken : v.untaken ≡ is_some v.past.over
  pub asked : length v.drawing.pass.has.requests ≡ 1
  pub unchanged : v.drawing.pass.has.changes ≡ []
  pub early : Each (λ n. window_of n ≡ 0) v.drawing.pass.has.requests
