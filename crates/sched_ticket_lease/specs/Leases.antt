-- What a window may give, and what a lease takes of it.
use Rattle.std.specs.Prelude.{◌≡◌, ℕ, ◌+◌, ◌-◌, min, if◌then◌else◌, nat_lt}
use Rattle.sched_time.specs.Capped.{capped}
use Rattle.sched_ticket_quota.specs.Windows.{allowed}
use Rattle.sched_ticket_lease.specs.declared.lease.Grants.{Grants}
use Rattle.sched_ticket_lease.specs.declared.lease.Grants.TheVariants.{Budget, Quota}
use Rattle.sched_ticket_lease.specs.declared.lease.Stored.{Stored}
use Rattle.sched_ticket_lease.specs.declared.lease.Ask.{Ask}
use Rattle.sched_ticket_lease.specs.declared.lease.Lease.{Lease}

-- the tickets that a window of so many requests may give: of a budget its limit, of a quota what its terms allow for
-- the requests, of which 4294967296 count
abbrev pub allows : Grants → ℕ → ℕ
allows (Budget limit) asked = limit
allows (Quota k) asked = allowed k (min asked 4294967296)

-- the tickets that a store has given of this window: none where it is later than the store's
abbrev pub given_of : Stored → ℕ → ℕ
given_of s w = if nat_lt s.window w then 0 else s.given

-- the requests of this window that a store was told
abbrev pub asked_of : Stored → ℕ → ℕ
asked_of s w = if nat_lt s.window w then 0 else s.asked

abbrev pub count_of : Stored → ℕ → Stored
count_of s w = record { window = w; given = given_of s w; asked = asked_of s w }

-- A lease has the tickets that follow those given of its window, as many of those wanted as the window may yet give,
-- its requests told. The store keeps both counts.
pub record IsLease (s : Stored) (a : Ask) (l : Lease) : Type 0 where
  pub window : l.stored.window ≡ a.window
  pub told : l.stored.asked ≡ capped (asked_of s a.window + a.told)
  pub first : l.first ≡ given_of s a.window
  pub tickets : l.tickets ≡ min a.wanted (allows a.grants l.stored.asked - l.first)
  pub given : l.stored.given ≡ l.first + l.tickets
