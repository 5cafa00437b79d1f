-- A moment is in the window that is guessed, where the borders of that lie around it.
use Rattle.std.proofs.Common.{arith}
use Rattle.sched_limit.proofs.Throttles.{is_window}
use Rattle.sched_limit.proofs.throttle.Throttle.window_near.Goals as goal

pub returns-then-guess-le-LAST_WINDOW-clause-window : goal.returns-then-guess-le-LAST_WINDOW-clause-window
returns-then-guess-le-LAST_WINDOW-clause-window c =
    let size = c.in-Some.ensures.1 in
    is_window c.args.self.now c.args.now c.args.guess
    (omega (arith, size, c.if-since-end.true, c.saturating_sub-since.ensures, c.get.ensures.value))
    (omega (arith, size, c.if-end-since.true, c.saturating_sub-since.ensures, c.get.ensures.value))
    c.if-guess-le-LAST_WINDOW.true
