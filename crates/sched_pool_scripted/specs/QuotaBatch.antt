-- What is true of jobs that were run on one quota.
use Rattle.std.specs.Prelude.{◌≡◌, ℕ, ◌≤◌, ◌==◌, true, List, [], map, length, All, if◌then◌else◌}
use Rattle.sched_plan.specs.History.{last_moment}
use Rattle.sched_ticket.specs.Lists.{total, times, Each, IsSame}
use Rattle.sched_ticket_quota.specs.Windows.{window_of, window_at, allowed, count_in}
use Rattle.sched_ticket_quota.specs.Held.{Name, Held, IsOf}
use Rattle.sched_ticket_quota.specs.declared.view.Terms.{Terms}
use Rattle.sched_ticket_quota.specs.declared.view.View.{View}
use Rattle.sched_task_law.specs.Kind.{retry}
use Rattle.sched_task_law.specs.Past.{Past}
use Rattle.sched_task_law.specs.Law.{Law, is_refused}
use Rattle.sched_pool_json.specs.Job.{Job}
use Rattle.sched_pool_scripted.specs.Ends.{AreEndsOf}
use Rattle.sched_pool_scripted.specs.Windows.{HasDistinct}

-- the window in which a job failed last, by a clock from 0
abbrev pub last_window : Terms → Past → ℕ
last_window k v = window_at k 0 (last_moment v.driver.journal)

-- a window gave as many tickets as its requests allow, all passes of the quota having these
abbrev pub IsFull : Terms → View → ℕ → Type 0
IsFull k all w = count_in w all.tickets ≡ allowed k (count_in w all.requests)

-- The jobs ended so on a quota of these terms, which gave out so many tickets in so many windows.
pub record AreRunOnQuota (jobs : List Job) (k : Terms) (ends : List Past) (granted windows : ℕ) : Type 0 where
  pub each : AreEndsOf jobs ends
  -- each keeps the law of a retry
  pub laws : All (Law retry) ends
  -- the tickets are those that the jobs were granted
  pub sum : granted ≡ total (λ (v : Past). v.granted) ends
  -- what all passes of the quota had when it was closed: these tickets, each once, and one request for each job
  pub all : View
  pub tickets : length all.tickets ≡ granted
  pub once : (x : ℕ) → times x all.tickets ≤ 1
  pub requests : length all.requests ≡ length jobs
  -- in each window no more tickets than the reserve and the share of the requests counted in it
  pub within : (w : ℕ) → count_in w all.tickets ≤ allowed k (count_in w all.requests)
  -- so many windows have a ticket
  pub windows_are : HasDistinct windows (map window_of all.tickets)
  -- a job ended as refused only where the window in which it failed last gave as many tickets as its requests allow
  pub full : All (λ (v : Past). is_refused v.over ≡ true → IsFull k all (last_window k v)) ends

-- the retries that ended so were taken back, with one pass for all of them, and the windows of its tickets were noted
pub record AreTaken (quota : Name) (ends : List Past) (pass : Held) (windows : List ℕ) : Type 0 where
  pub laws : All (Law retry) ends
  pub of : IsOf quota pass
  pub sum : length pass.has.tickets ≡ total (λ (v : Past). v.granted) ends
  pub once : (x : ℕ) → times x pass.has.tickets ≤ 1
  pub asked : length pass.has.requests ≡ length ends
  pub unchanged : pass.has.changes ≡ []
  pub early : Each (λ n. window_of n ≡ 0) pass.has.requests
  pub noted : IsSame windows (map window_of pass.has.tickets)

-- the requests of a window, of so many that were all counted in the window 0
abbrev pub asked_in : ℕ → ℕ → ℕ
asked_in requests w = if w == 0 then requests else 0

-- where a job was refused, these windows of all tickets have the one in which it failed last as often as so many
-- requests in the window 0 allow
abbrev pub IsJust : Terms → ℕ → List ℕ → Past → Type 0
IsJust k requests windows v = is_refused v.over ≡ true →
    times (last_window k v) windows ≡ allowed k (asked_in requests (last_window k v))
