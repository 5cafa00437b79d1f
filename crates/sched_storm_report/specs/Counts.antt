-- Counts: what one moment adds to them, and which of them add up.
use Rattle.std.specs.Prelude.{◌≡◌, ℕ, ◌+◌, ◌<◌, ◌≤◌, true, false, List, sum_by}
use Rattle.sched_storm_report.specs.declared.moments.Failure.{Failure}
use Rattle.sched_storm_report.specs.declared.moments.Failure.TheVariants as failed
use Rattle.sched_storm_report.specs.declared.moments.Then.{Then}
use Rattle.sched_storm_report.specs.declared.moments.Then.TheVariants.{Lost, Denied, Waits}
use Rattle.sched_storm_report.specs.declared.moments.Happening.{Happening}
use Rattle.sched_storm_report.specs.declared.moments.Happening.TheVariants.{Request, Retry, Won, Failed, Refused}
use Rattle.sched_storm_report.specs.declared.counts.Counts.{Counts}
use Rattle.sched_storm_report.specs.declared.counts.Score.{Score}
use Rattle.sched_storm_report.specs.declared.tally.Window.{Window}

abbrev pub no_counts : Counts
no_counts = record { requests = 0; won = 0; retries = 0; succeeded = 0; refused = 0; shed = 0; late = 0 }

-- the requests and retries that began, the calls that failed, and those that ended
abbrev pub calls_in : Counts → ℕ
calls_in c = c.requests + c.retries

abbrev pub failed_in : Counts → ℕ
failed_in c = c.refused + c.shed + c.late

abbrev pub ended_in : Counts → ℕ
ended_in c = c.succeeded + failed_in c

-- one of each more
abbrev pub with_request : Counts → Counts
with_request c = record c { requests = c.requests + 1 }

abbrev pub with_retry : Counts → Counts
with_retry c = record c { retries = c.retries + 1 }

abbrev pub with_won : Counts → Counts
with_won c = record c { won = c.won + 1 }

abbrev pub with_success : Counts → Counts
with_success c = record c { succeeded = c.succeeded + 1 }

abbrev pub with_failure : Failure → Counts → Counts
with_failure failed.Refused c = record c { refused = c.refused + 1 }
with_failure failed.Shed c = record c { shed = c.shed + 1 }
with_failure failed.Late c = record c { late = c.late + 1 }

-- what happens counts where it happens; a request that is won counts besides where it began
abbrev pub with_happening : Happening → Counts → Counts
with_happening Request c = with_request c
with_happening Retry c = with_retry c
with_happening (Won began) c = with_success c
with_happening (Failed failure next) c = with_failure failure c
with_happening Refused c = with_request c

abbrev pub score_then : Then → Score → Score
score_then Lost s = record s { lost = s.lost + 1 }
score_then Denied s = record s { denied = s.denied + 1 }
score_then (Waits true) s = record s { granted = s.granted + 1; tickets = s.tickets + 1 }
score_then (Waits false) s = record s { granted = s.granted + 1 }

-- what it adds to the score of all requests, but for a request that is won
abbrev pub score_after : Happening → Score → Score
score_after Request s = record s { all = with_request s.all; calls = s.calls + 1 }
score_after Retry s = record s { all = with_retry s.all; calls = s.calls + 1 }
score_after (Won began) s = record s { all = with_success s.all }
score_after (Failed failure next) s = score_then next (record s { all = with_failure failure s.all })
score_after Refused s = record s { all = with_request s.all; denied = s.denied + 1 }

-- the counts of all windows, and of what is not in a window yet, are these
pub record AddUpTo (windows : List Window) (here all : Counts) : Type 0 where
  pub requests : sum_by (λ (w : Window). w.counts.requests) windows + here.requests ≡ all.requests
  pub won : sum_by (λ (w : Window). w.counts.won) windows + here.won ≡ all.won
  pub retries : sum_by (λ (w : Window). w.counts.retries) windows + here.retries ≡ all.retries
  pub succeeded : sum_by (λ (w : Window). w.counts.succeeded) windows + here.succeeded ≡ all.succeeded
  pub refused : sum_by (λ (w : Window). w.counts.refused) windows + here.refused ≡ all.refused
  pub shed : sum_by (λ (w : Window). w.counts.shed) windows + here.shed ≡ all.shed
  pub late : sum_by (λ (w : Window). w.counts.late) windows + here.late ≡ all.late

-- no count is as great as this
pub record AreBelow (most : ℕ) (c : Counts) : Type 0 where
  pub requests : c.requests < most
  pub won : c.won < most
  pub retries : c.retries < most
  pub succeeded : c.succeeded < most
  pub refused : c.refused < most
  pub shed : c.shed < most
  pub late : c.late < most

pub record IsBelow (most : ℕ) (s : Score) : Type 0 where
  pub all : AreBelow most s.all
  pub calls : s.calls < most
  pub lost : s.lost < most
  pub denied : s.denied < most
  pub granted : s.granted < most
  pub tickets : s.tickets < most

-- no count is greater than the number of moments
pub record AreWithin (said : ℕ) (s : Score) : Type 0 where
  pub requests : s.all.requests ≤ said
  pub won : s.all.won ≤ said
  pub retries : s.all.retries ≤ said
  pub succeeded : s.all.succeeded ≤ said
  pub refused : s.all.refused ≤ said
  pub shed : s.all.shed ≤ said
  pub late : s.all.late ≤ said
  pub calls : s.calls ≤ said
  pub lost : s.lost ≤ said
  pub denied : s.denied ≤ said
  pub granted : s.granted ≤ said
  pub tickets : s.tickets ≤ said
