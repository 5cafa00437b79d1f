-- What holds of leases that a store takes one after another. Each law is the contract of a function of the module
-- `laws`.
use Rattle.std.specs.Prelude.{◌≡◌, ℕ, ◌<◌, ◌≤◌, ◌⊎◌, List, [], ◌∷◌, if◌then◌else◌, ◌==◌}
use Rattle.sched_ticket.specs.Lists.{total, Each}
use Rattle.sched_ticket_quota.specs.Windows.{within}
use Rattle.sched_ticket_lease.specs.Leases.{allows, IsLease}
use Rattle.sched_ticket_lease.specs.declared.lease.Grants.{Grants}
use Rattle.sched_ticket_lease.specs.declared.lease.Stored.{Stored}
use Rattle.sched_ticket_lease.specs.declared.lease.Ask.{Ask}
use Rattle.sched_ticket_lease.specs.declared.lease.Lease.{Lease}

-- a lease that a store took: of which numbers, and for whom
pub record Taken : Type 0 where
  pub from : Stored
  pub ask : Ask
  pub lease : Lease

-- A store keeps its numbers until the next lease: it may pass over tickets and lose requests, and it may come to a
-- later window, of which it was told no request. It never goes back.
abbrev pub Keeps : Stored → Stored → Type 0
Keeps s t =
    ((s.window ≡ t.window) × (s.given ≤ t.given) × (t.asked ≤ s.asked)) ⊎ ((s.window < t.window) × (t.asked ≡ 0))

-- leases in the order in which a store took them, from these numbers on
abbrev pub AreTaken : Stored → List Taken → Type 0
AreTaken s [] = Unit {0}
AreTaken s (t ∷ ts) =
    Keeps s t.from × (t.from.window ≤ t.ask.window) × IsLease t.from t.ask t.lease × AreTaken t.lease.stored ts

-- 1 where the range has this number of this window
abbrev pub has : ℕ → ℕ → Taken → ℕ
has w n t = if t.ask.window == w then within t.lease.first t.lease.tickets n else 0

-- the tickets of this window that a lease has, and the requests that were told in it
abbrev pub tickets_in : ℕ → Taken → ℕ
tickets_in w t = if t.ask.window == w then t.lease.tickets else 0

abbrev pub told_in : ℕ → Taken → ℕ
told_in w t = if t.ask.window == w then t.ask.told else 0

-- each number of a window is in at most one range
abbrev pub RangesStandOnce : Type 0
RangesStandOnce = (s : Stored) (ts : List Taken) → AreTaken s ts → (w n : ℕ) → total (has w n) ts ≤ 1

-- where all who ask in a window have the same terms, its ranges have no more tickets than it may give for the requests
-- told, of a store that was told none before
abbrev pub WindowsAreKept : Type 0
WindowsAreKept = (s : Stored) (ts : List Taken) → s.asked ≡ 0 → AreTaken s ts → (g : Grants) (w : ℕ) →
    Each (λ t. t.ask.window ≡ w → t.ask.grants ≡ g) ts → total (tickets_in w) ts ≤ allows g (total (told_in w) ts)
