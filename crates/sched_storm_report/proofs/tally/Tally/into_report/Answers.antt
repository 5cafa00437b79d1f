-- The report is that of the moments that were told.
use Rattle.std.proofs.Common.{ap, subst, ◌∙◌}
use Rattle.std.specs.List.Sorted.{IsPermutation}
use Rattle.sched_storm_report.specs.Moments.{score_of, times_of}
use Rattle.sched_storm_report.specs.Report.{windows_of, totals_of}
use Rattle.sched_storm_report.proofs.Sums.{pushed, few_calls}
use Rattle.sched_storm_report.proofs.Standing.{windows_are}
use Rattle.sched_storm_report.proofs.Sorted.{sorted_is}
use Rattle.sched_storm_report.proofs.tally.Tally.into_report.Goals as goal

pub in_all-totals-requires-clause-windows : goal.in_all-totals-requires-clause-windows
in_all-totals-requires-clause-windows c = let t = c.args.self in let last = c.window_here-last in
    rw (c.deref.ensures.value, c.in_ok-push.ensures.items) (few_calls _ _ t.score.all t.said
    (pushed t.windows.items last.result t.here t.score.all last.ensures.counts t.sums) t.few.requests t.few.retries
    c.requires.few)

pub returns-clause-sums : goal.returns-clause-sums
returns-clause-sums c = let t = c.args.self in let last = c.window_here-last in
    let all = ap (λ t. t.counts) c.in_all-totals.ensures in
    rw (c.in_ok-push.ensures.items, all) (pushed t.windows.items last.result t.here t.score.all last.ensures.counts
    t.sums)

pub returns-clause-report : goal.returns-clause-report
returns-clause-report c = λ told are.
    let t = c.args.self in
    let last = c.window_here-last in
    let windows = c.in_ok-push.ensures.items ∙ windows_are c.args.peer.now told t are last.result t.in_line
    last.ensures.from
    last.ensures.counts last.ensures.waiting in
    let permuted = subst (λ ts. IsPermutation ts c.sort_unstable.new.self.items) are.stands.times
    c.sort_unstable.ensures.permutation in
    let times = c.deref-2.ensures.value ∙ sorted_is (times_of told) c.sort_unstable.new.self.items permuted
    c.sort_unstable.ensures.sorted in
    record {
      windows = windows;
      totals = c.in_all-totals.ensures
          ∙ (ap (λ ws. totals_of c.args.ends ws t.score c.deref-2.result.now) (c.deref.ensures.value ∙ windows)
          ∙ (ap (λ s. totals_of c.args.ends (windows_of c.args.peer.now t.window told) s c.deref-2.result.now)
          are.stands.score
          ∙ ap (totals_of c.args.ends (windows_of c.args.peer.now t.window told) (score_of told)) times));
    }
