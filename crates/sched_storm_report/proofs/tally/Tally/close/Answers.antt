-- The window that ends is one of the windows.
use Rattle.std.proofs.Common.{vec_len, refl}
use Rattle.sched_storm_report.proofs.Sums.{pushed, in_line_more}
use Rattle.sched_storm_report.proofs.Standing.{stands_closed}
use Rattle.sched_storm_report.proofs.tally.Tally.close.Goals as goal

pub invariant_of-self-2-clause-in_line : goal.invariant_of-self-2-clause-in_line
invariant_of-self-2-clause-in_line c =
    in_line_more (vec_len c.args.self.now.windows) _ c.args.self.now.window c.args.self.now.from
    c.in_ok-push.ensures.len
    c.args.self.now.in_line

pub invariant_of-self-2-clause-sums : goal.invariant_of-self-2-clause-sums
invariant_of-self-2-clause-sums c =
    rw c.in_ok-push.ensures.items (pushed c.args.self.now.windows.items c.window_here-window.result c.args.self.now.here
    c.args.self.now.score.all c.window_here-window.ensures.counts c.args.self.now.sums)

pub returns-clause-stands : goal.returns-clause-stands
returns-clause-stands c = λ told s.
    stands_closed c.args.peer.now told c.args.self.now _ c.window_here-window.result s c.args.self.now.in_line
    c.args.self.now.some refl c.in_ok-push.ensures.items
    c.in_ok-push.ensures.len refl refl refl refl refl c.window_here-window.ensures.from
    c.window_here-window.ensures.counts
    c.window_here-window.ensures.waiting
