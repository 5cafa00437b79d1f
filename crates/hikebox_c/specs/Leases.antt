-- What the calls that take a lease do and tell.
use Rattle.std.specs.Prelude.{◌≡◌, ℕ, ◌<◌, ◌≤◌}
use Rattle.sched_ticket_lease.specs.Leases.{IsLease}
use Rattle.sched_ticket_lease.specs.declared.lease.Grants.{Grants}
use Rattle.sched_ticket_lease.specs.declared.lease.Grants.TheVariants.{Quota}
use Rattle.sched_ticket_lease.specs.declared.lease.Stored.{Stored}
use Rattle.sched_ticket_lease.specs.declared.lease.Ask.{Ask}
use Rattle.sched_handle.specs.Status.{code_of}
use Rattle.sched_handle.specs.declared.status.Status.TheVariants.{Backwards}
use Rattle.hikebox_c.specs.declared.leases.Asking.{Asking}
use Rattle.hikebox_c.specs.declared.leases.Range.{Range}

-- a quota with this reserve and this share. How long its windows are is for the store to know.
abbrev pub quota_of : ℕ → ℕ → Grants
quota_of reserve share = Quota (record { reserve = reserve; share = share; period = 1000 })

-- what is asked, of this budget or quota
abbrev pub ask_of : Grants → Asking → Ask
ask_of g a = record { grants = g; window = a.window; told = a.told; wanted = a.wanted }

-- in a window that is not before the store's a lease is taken: the store is to keep t, and the range is r
abbrev pub Leases : Grants → Asking → Stored → ℕ → Stored → Range → Type 0
Leases g a s code t r = s.window ≤ a.window →
    (code ≡ 0) × IsLease s (ask_of g a) (record { stored = t; first = r.first; tickets = r.tickets })

-- in a window before the store's there is none, and nothing is written
abbrev pub LeasesNone : Asking → Stored → Range → ℕ → Stored → Range → Type 0
LeasesNone a s r code t q = a.window < s.window → (code ≡ code_of Backwards) × (t ≡ s) × (q ≡ r)
