-- What the rule of the claims' budget says of the jobs claimed, of all shares at once.
use Rattle.std.specs.Prelude.{◌≡◌, ℕ, ◌<◌, ◌≤◌, false, List, length}
use mathlib.Core.Option.{some}
use lib.ListN.{get_elem?}
use Rattle.atomic_table.specs.Table.{State}
use Rattle.sched_ticket.specs.Lists.{total, times, once_below}
use Rattle.sched_ticket.specs.View.{terms}
use Rattle.sched_ticket.specs.Rule.{IsKept}
use Rattle.sched_ticket.specs.declared.view.View.{View}

-- how often the job is claimed
abbrev pub claimed : ℕ → List View → ℕ
claimed job views = total (λ (v : View). times job v.tickets) views

-- between any two atomic steps no job is claimed twice over all shares
abbrev pub ClaimsStandOnce : Type 0
ClaimsStandOnce = (jobs : ℕ) (s : State ℕ View) → IsKept (terms jobs false) s → (job : ℕ) → claimed job s.views ≤ 1

-- where a share was answered None, every job is claimed, once, and nothing else is
abbrev pub NoneWhereAllAreClaimed : Type 0
NoneWhereAllAreClaimed =
    (jobs : ℕ) (s : State ℕ View) → IsKept (terms jobs false) s
    → (by : ℕ) (v : View) → get_elem? s.views by ≡ some v → 0 < length v.refusals
    → (job : ℕ) → claimed job s.views ≡ once_below job jobs
