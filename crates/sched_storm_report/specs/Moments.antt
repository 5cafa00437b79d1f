-- What is counted of a list of moments.
use Rattle.std.specs.Prelude.{ℕ, ◌-◌, ◌/◌, Bool, true, false, ◌==◌, ◌&&◌, nat_lt, if◌then◌else◌}
use Rattle.std.specs.Prelude.{List, [], ◌∷◌, Option, Some, None, filter_map, count_by}
use Rattle.sched_storm_report.specs.declared.moments.Failure.TheVariants as failed
use Rattle.sched_storm_report.specs.declared.moments.Then.TheVariants.{Lost, Denied, Waits}
use Rattle.sched_storm_report.specs.declared.moments.Happening.{Happening}
use Rattle.sched_storm_report.specs.declared.moments.Happening.TheVariants.{Request, Retry, Won, Failed, Refused}
use Rattle.sched_storm_report.specs.declared.moments.Moment.{Moment}
use Rattle.sched_storm_report.specs.declared.counts.Counts.{Counts}
use Rattle.sched_storm_report.specs.declared.counts.Score.{Score}
use Rattle.sched_storm_report.specs.declared.peer.Busy.{Busy}

-- What happens: a request comes, a call begins or ends, a request is lost or denied, a retry is granted, a ticket is
-- given for it.
abbrev pub is_request : Happening → Bool
is_request Request = true
is_request Refused = true
is_request _ = false

abbrev pub is_retry : Happening → Bool
is_retry Retry = true
is_retry _ = false

abbrev pub is_call : Happening → Bool
is_call Request = true
is_call Retry = true
is_call _ = false

abbrev pub is_success : Happening → Bool
is_success (Won began) = true
is_success _ = false

abbrev pub is_refused : Happening → Bool
is_refused (Failed failed.Refused next) = true
is_refused _ = false

abbrev pub is_shed : Happening → Bool
is_shed (Failed failed.Shed next) = true
is_shed _ = false

abbrev pub is_late : Happening → Bool
is_late (Failed failed.Late next) = true
is_late _ = false

abbrev pub is_lost : Happening → Bool
is_lost (Failed failure Lost) = true
is_lost _ = false

abbrev pub is_denied : Happening → Bool
is_denied (Failed failure Denied) = true
is_denied Refused = true
is_denied _ = false

abbrev pub is_granted : Happening → Bool
is_granted (Failed failure (Waits ticket)) = true
is_granted _ = false

abbrev pub is_ticket : Happening → Bool
is_ticket (Failed failure (Waits ticket)) = ticket
is_ticket _ = false

-- a request is won that began at a moment that passes the test
abbrev pub is_won_from : (ℕ → Bool) → Happening → Bool
is_won_from here (Won began) = here began
is_won_from here _ = false

-- What is counted of the moments that pass a test; a request that is won counts where it began.
abbrev pub counts_where : (ℕ → Bool) → List Moment → Counts
counts_where here told = record {
  requests = count_by (λ m. here m.at && is_request m.what) told;
  won = count_by (λ m. is_won_from here m.what) told;
  retries = count_by (λ m. here m.at && is_retry m.what) told;
  succeeded = count_by (λ m. here m.at && is_success m.what) told;
  refused = count_by (λ m. here m.at && is_refused m.what) told;
  shed = count_by (λ m. here m.at && is_shed m.what) told;
  late = count_by (λ m. here m.at && is_late m.what) told;
}

-- the moment lies in the window of this number
abbrev pub is_in_window : ℕ → ℕ → ℕ → Bool
is_in_window window number at = at / window == number

abbrev pub always : ℕ → Bool
always at = true

abbrev pub score_of : List Moment → Score
score_of told = record {
  all = counts_where always told;
  calls = count_by (λ m. is_call m.what) told;
  lost = count_by (λ m. is_lost m.what) told;
  denied = count_by (λ m. is_denied m.what) told;
  granted = count_by (λ m. is_granted m.what) told;
  tickets = count_by (λ m. is_ticket m.what) told;
}

-- how long each request took that was won, from its first call's beginning to its success
abbrev pub time_at : ℕ → Happening → Option ℕ
time_at at (Won began) = Some (at - began)
time_at at _ = None

abbrev pub times_of : List Moment → List ℕ
times_of told = filter_map (λ m. time_at m.at m.what) told

-- the moment of the last that was told
abbrev pub latest : ℕ → List Moment → ℕ
latest at [] = at
latest at (m ∷ ms) = latest m.at ms

-- what the peer's replicas had taken before a moment
abbrev pub busy_by : ℕ → Busy → List Moment → Busy
busy_by end busy [] = busy
busy_by end busy (m ∷ ms) = busy_by end (if nat_lt m.at end then m.busy else busy) ms
