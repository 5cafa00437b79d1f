-- A poll of the future is one poll of its task, at the clock's moment, with four fresh words.
use Rattle.std.proofs.Common.{rules, ◌≡◌, true, false, [], ◌∷◌, Some, refl}
use Rattle.sched_task.specs.Course.{Turn, IsPoll}
use Rattle.sched_task.proofs.Courses.{is_poll, course_on}
use Rattle.sched_task.proofs.timed.TimedFuture.poll.Goals as goal

pub returns-in-Ready-clause-value : goal.returns-in-Ready-clause-value
returns-in-Ready-clause-value g c =
    let turn : Turn g.row.T.Denot g.row.C.Denot =
    record {
      tick = record { now = c.moment_at-now.result; words = c.four_words-words.result };
      task = c.poll_at.new.self;
      clock = c.moment_at-now.new.clock;
    } in
    let poll : IsPoll g.T.Task.waits_for g.T.Task.one_poll g.C.Clock.tells g.C.Clock.waits c.in-Some.task
    c.self.inside.clock (g.G.Rng.stream c.self.inside.rng) true turn =
    is_poll _ _ _ _ _ _ _ _ _ turn _ c.due.ensures c.moment_at-now.ensures c.four_words-words.ensures (search rules) in
    let held : c.args.self.now.task ≡ Some c.in-Some.task = cc in
    (search rules, rw held (turn ∷ [], (rw (← c.self.view_is) poll, refl)))

pub returns-in-Pending-clause-same : goal.returns-in-Pending-clause-same
returns-in-Pending-clause-same g c =
    let turn : Turn g.row.T.Denot g.row.C.Denot =
    record {
      tick = record { now = c.moment_at-now.result; words = c.four_words-words.result };
      task = c.poll_at.new.self;
      clock = c.moment_at-now.new.clock;
    } in
    let poll : IsPoll g.T.Task.waits_for g.T.Task.one_poll g.C.Clock.tells g.C.Clock.waits c.in-Some.task
    c.self.inside.clock (g.G.Rng.stream c.self.inside.rng) false turn =
    is_poll _ _ _ _ _ _ _ _ _ turn _ c.due.ensures c.moment_at-now.ensures c.four_words-words.ensures (search rules) in
    let held : c.args.self.now.task ≡ Some c.in-Some.task = cc in
    rw c.yield_now.ensures.pending (λ out given. (
      given.0,
      rw held (
        turn ∷ given.1.0,
        rw (← c.self.view_is) (course_on _ _ _ _ _ _ _ _ turn _ _ c.four_words-words.ensures poll given.1.1),
      ),
    ))
