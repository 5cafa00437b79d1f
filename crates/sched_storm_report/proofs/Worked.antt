-- Worked reports, computed with the definitions alone.
use Rattle.std.specs.Prelude.{◌≡◌, ℕ, true, false, List, [], ◌∷◌, Some, None, refl}
use Rattle.sched_storm_report.specs.Counts.{no_counts}
use Rattle.sched_storm_report.specs.Peer.{none_busy}
use Rattle.sched_storm_report.specs.Moments.{score_of, times_of}
use Rattle.sched_storm_report.specs.Report.{windows_of, in_order, totals_of}
use Rattle.sched_storm_report.specs.declared.moments.Failure.TheVariants as failed
use Rattle.sched_storm_report.specs.declared.moments.Then.TheVariants.{Lost, Denied, Waits}
use Rattle.sched_storm_report.specs.declared.moments.Happening.{Happening}
use Rattle.sched_storm_report.specs.declared.moments.Happening.TheVariants.{Request, Retry, Won, Failed, Refused}
use Rattle.sched_storm_report.specs.declared.moments.Moment.{Moment}
use Rattle.sched_storm_report.specs.declared.counts.Counts.{Counts}
use Rattle.sched_storm_report.specs.declared.peer.Busy.{Busy}
use Rattle.sched_storm_report.specs.declared.peer.Peer.{Peer}
use Rattle.sched_storm_report.specs.declared.report.Ends.{Ends}
use Rattle.sched_storm_report.specs.declared.report.Totals.{Totals}
use Rattle.sched_storm_report.specs.declared.tally.Window.{Window}

-- what happens at a moment, and the unit at which a peer of one replica is then done
abbrev moment : ℕ → Happening → ℕ → Moment
moment at what busy = record { at = at; what = what; busy = record none_busy { first = busy } }

-- requests, won, retries, succeeded, refused, shed and late
abbrev counts : ℕ → ℕ → ℕ → ℕ → ℕ → ℕ → ℕ → Counts
counts requests won retries succeeded refused shed late = record {
  requests = requests;
  won = won;
  retries = retries;
  succeeded = succeeded;
  refused = refused;
  shed = shed;
  late = late;
}

abbrev window : ℕ → Counts → ℕ → Window
window from counts waiting = record { from = from; counts = counts; waiting = waiting }

abbrev totals : Peer → Ends → ℕ → List Moment → Totals
totals peer ends w told = totals_of ends (windows_of peer w told) (score_of told) (in_order (times_of told))

-- a call takes it 10 ms
abbrev slow_peer : Peer
slow_peer = record { capacity = 100; slow = None }

-- Three requests; the third is given up after 15 ms, and its retry is won. The call that the second has begun stands at
-- the peer at 20 ms, half done; it ends in the second window, and counts as won in the first.
abbrev with_retry : List Moment
with_retry =
    moment 0 Request 100000 ∷ moment 5 Request 200000 ∷ moment 8 Request 300000 ∷ moment 10 (Won 0) 300000 ∷
    moment 20 (Won 5) 300000 ∷ moment 23 (Failed failed.Late (Waits true)) 300000 ∷ moment 25 Retry 400000 ∷
    moment 40 (Won 8) 400000 ∷ []

windows_with_retry : windows_of slow_peer 20 with_retry ≡
    window 0 (counts 3 3 0 1 0 0 0) 1 ∷ window 20 (counts 0 0 1 1 0 0 1) 0 ∷ window 40 (counts 0 0 0 1 0 0 0) 0 ∷ []
windows_with_retry = refl

-- four calls for three requests; they took 10, 15 and 32 ms
totals_with_retry : totals slow_peer (record { trouble = 0; is_cut = false }) 20 with_retry ≡ record {
  counts = counts 3 3 1 3 0 0 1;
  lost = 0;
  denied = 0;
  «open» = 0;
  calls = 4;
  hundredths = 133;
  most_calls = 3;
  most_from = 0;
  tickets = 1;
  p50 = Some 15;
  p99 = Some 32;
  slowest = Some 32;
  recovered = Some 0;
  is_cut = false;
}
totals_with_retry = refl

-- Two requests in an outage; a ticket is given for the first's retry, and the second's is granted without one.
abbrev with_one_ticket : List Moment
with_one_ticket =
    moment 0 Request 0 ∷ moment 0 (Failed failed.Refused (Waits true)) 0 ∷ moment 2 Request 0 ∷
    moment 2 (Failed failed.Refused (Waits false)) 0 ∷ moment 10 Retry 200000 ∷ moment 12 Retry 300000 ∷
    moment 20 (Won 0) 300000 ∷ moment 30 (Won 2) 300000 ∷ []

score_with_one_ticket : score_of with_one_ticket ≡ record {
  all = counts 2 2 2 2 2 0 0;
  calls = 4;
  lost = 0;
  denied = 0;
  granted = 2;
  tickets = 1;
}
score_with_one_ticket = refl

-- they took 20 and 28 ms
totals_with_one_ticket : totals slow_peer (record { trouble = 5; is_cut = false }) 40 with_one_ticket ≡ record {
  counts = counts 2 2 2 2 2 0 0;
  lost = 0;
  denied = 0;
  «open» = 0;
  calls = 4;
  hundredths = 200;
  most_calls = 4;
  most_from = 0;
  tickets = 1;
  p50 = Some 20;
  p99 = Some 28;
  slowest = Some 28;
  recovered = None;
  is_cut = false;
}
totals_with_one_ticket = refl

-- One request is lost in an outage, one refused before its first call, one shed and denied, one won and one open.
abbrev that_fail : List Moment
that_fail =
    moment 0 Request 0 ∷ moment 0 (Failed failed.Refused Lost) 0 ∷ moment 3 Refused 0 ∷ moment 10 Request 200000 ∷
    moment 10 Request 200000 ∷ moment 10 (Failed failed.Shed Denied) 200000 ∷ moment 12 Request 300000 ∷
    moment 20 (Won 10) 300000 ∷ []

windows_that_fail : windows_of slow_peer 10 that_fail ≡
    window 0 (counts 2 0 0 0 1 0 0) 0 ∷ window 10 (counts 3 1 0 0 0 1 0) 1 ∷ window 20 (counts 0 0 0 1 0 0 0) 0 ∷ []
windows_that_fail = refl

-- no request begins after the window that does not pass, so it has not recovered
totals_that_fail : totals slow_peer (record { trouble = 10; is_cut = true }) 10 that_fail ≡ record {
  counts = counts 5 1 0 1 1 1 0;
  lost = 1;
  denied = 2;
  «open» = 1;
  calls = 4;
  hundredths = 80;
  most_calls = 3;
  most_from = 10;
  tickets = 0;
  p50 = Some 10;
  p99 = Some 10;
  slowest = Some 10;
  recovered = None;
  is_cut = true;
}
totals_that_fail = refl

-- In a brown-out until 20 ms the same peer takes 20 ms for a call: two requests come in each of two windows. At 25 ms
-- half a call stands at the peer, at 50 ms none.
abbrev browned_out : Peer
browned_out = record { capacity = 100; slow = Some (record { span = record { from = 0; to = 20 }; percent = 50 }) }

abbrev in_pairs : List Moment
in_pairs =
    moment 0 Request 100000 ∷ moment 0 Request 200000 ∷ moment 20 (Won 0) 200000 ∷ moment 25 Request 300000 ∷
    moment 25 Request 400000 ∷ moment 30 (Won 0) 400000 ∷ moment 40 (Won 25) 400000 ∷ moment 50 (Won 25) 400000 ∷ []

windows_in_pairs : windows_of browned_out 25 in_pairs ≡
    window 0 (counts 2 2 0 1 0 0 0) 0 ∷ window 25 (counts 2 2 0 2 0 0 0) 0 ∷ window 50 (counts 0 0 0 1 0 0 0) 0 ∷ []
windows_in_pairs = refl

-- the first of two equal windows has the most calls; of 15, 20, 25 and 30 ms half is the second
totals_in_pairs : totals browned_out (record { trouble = 20; is_cut = false }) 25 in_pairs ≡ record {
  counts = counts 4 4 0 4 0 0 0;
  lost = 0;
  denied = 0;
  «open» = 0;
  calls = 4;
  hundredths = 100;
  most_calls = 2;
  most_from = 0;
  tickets = 0;
  p50 = Some 20;
  p99 = Some 30;
  slowest = Some 30;
  recovered = Some 25;
  is_cut = false;
}
totals_in_pairs = refl

-- nothing happens: one window
windows_of_nothing : windows_of slow_peer 10 [] ≡ window 0 no_counts 0 ∷ []
windows_of_nothing = refl

totals_of_nothing : totals slow_peer (record { trouble = 0; is_cut = false }) 10 [] ≡ record {
  counts = no_counts;
  lost = 0;
  denied = 0;
  «open» = 0;
  calls = 0;
  hundredths = 0;
  most_calls = 0;
  most_from = 0;
  tickets = 0;
  p50 = None;
  p99 = None;
  slowest = None;
  recovered = None;
  is_cut = false;
}
totals_of_nothing = refl

-- Three requests at one moment on two replicas: at 5 ms one and a half call stand at the first and half a one at the
-- second, each rounded down.
abbrev of_two : ℕ → ℕ → Busy
of_two one other = record none_busy { first = one; second = other }

abbrev on_two_replicas : List Moment
on_two_replicas =
    record { at = 0; what = Request; busy = of_two 100000 0 } ∷
    record { at = 0; what = Request; busy = of_two 100000 100000 } ∷
    record { at = 0; what = Request; busy = of_two 200000 100000 } ∷ []

windows_on_two : windows_of slow_peer 5 on_two_replicas ≡ window 0 (counts 3 0 0 0 0 0 0) 1 ∷ []
windows_on_two = refl
