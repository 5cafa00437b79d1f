-- A turn polls one task when its moment has come, or none where no task is left.
use Rattle.std.proofs.Common.{rules, ◌≡◌, ◌<◌, length, slice_index_or, subst}
use Rattle.std.specs.Prelude.{HoldsAt}
use Rattle.sched_time.specs.declared.numbers.Tick.{Tick}
use Rattle.sched_task.specs.Course.{is_ready}
use Rattle.sched_wheel.specs.Polled.{IsOpen}
use Rattle.sched_wheel.proofs.Polls.{asked_then, course_of_none, course_of_poll, of_each_ok}
use Rattle.sched_wheel.proofs.loops.take_turn.Goals as goal

pub returns-in_default-clause-polled : goal.returns-in_default-clause-polled
returns-in_default-clause-polled g c =
    course_of_none _ _ _ _ _ _ _ _ _ _ (asked_then _ _ _ _ _ c.next_due.ensures.asked c.wait_for_least.ensures.asked)

pub returns-in_default-clause-none : goal.returns-in_default-clause-none
returns-in_default-clause-none g c =
    of_each_ok c.wait_for_least.result _
    (λ some none. course_of_none _ _ _ _ _ _ _ _ _ _
    (asked_then _ _ _ _ _ c.next_due.ensures.asked c.wait_for_least.ensures.asked))

pub returns-in_err-put-clause-polled : goal.returns-in_err-put-clause-polled
returns-in_err-put-clause-polled g c =
    let number = c.in-Some.number in
    let task = c.index-tasks-number.result in
    let inside : number < length c.args.tasks.now = search rules in
    let there : slice_index_or c.args.tasks.now number task ≡ task = search rules in
    let tick : Tick = record { now = c.moment-now.result; words = c.four_words-words.result } in
    let told : g.C.Clock.tells c.args.clock.now c.moment-now.result c.next_due.new.clock = search rules in
    let can : HoldsAt (IsOpen g.T.Task.ended g.T.Task.waits_for c.moment-now.result) c.args.tasks.now number =
    search rules in
    course_of_poll _ _ _ _ _ c.args.tasks.now _ _ _ _ number task _ tick
    (is_ready c.poll_at.result) inside there told c.four_words-words.ensures
    (subst (IsOpen g.T.Task.ended g.T.Task.waits_for c.moment-now.result) there (can task))
    (subst (λ t. g.T.Task.one_poll t tick (is_ready c.poll_at.result) c.poll_at.new.self) there c.poll_at.ensures.poll)

pub returns-in_ok-put-clause-polled : goal.returns-in_ok-put-clause-polled
returns-in_ok-put-clause-polled g c =
    let number = c.in-Some.number in
    let task = c.index-tasks-number.result in
    let inside : number < length c.args.tasks.now = search rules in
    let there : slice_index_or c.args.tasks.now number task ≡ task = search rules in
    let tick : Tick = record { now = c.moment-now.result; words = c.four_words-words.result } in
    let told : g.C.Clock.tells c.args.clock.now c.moment-now.result c.next_due.new.clock = search rules in
    let can : HoldsAt (IsOpen g.T.Task.ended g.T.Task.waits_for c.moment-now.result) c.args.tasks.now number =
    search rules in
    course_of_poll _ _ _ _ _ c.args.tasks.now _ _ _ _ number task _ tick
    (is_ready c.poll_at.result) inside there told c.four_words-words.ensures
    (subst (IsOpen g.T.Task.ended g.T.Task.waits_for c.moment-now.result) there (can task))
    (subst (λ t. g.T.Task.one_poll t tick (is_ready c.poll_at.result) c.poll_at.new.self) there c.poll_at.ensures.poll)

pub returns-in_default-poll_at-clause-polled : goal.returns-in_default-poll_at-clause-polled
returns-in_default-poll_at-clause-polled g c =
    let number = c.in-Some.number in
    let task = c.index-tasks-number.result in
    let inside : number < length c.args.tasks.now = search rules in
    let there : slice_index_or c.args.tasks.now number task ≡ task = search rules in
    let tick : Tick = record { now = c.moment-now.result; words = c.four_words-words.result } in
    let told : g.C.Clock.tells c.args.clock.now c.moment-now.result c.next_due.new.clock = search rules in
    let can : HoldsAt (IsOpen g.T.Task.ended g.T.Task.waits_for c.moment-now.result) c.args.tasks.now number =
    search rules in
    course_of_poll _ _ _ _ _ c.args.tasks.now _ _ _ _ number task _ tick
    (is_ready c.poll_at.result) inside there told c.four_words-words.ensures
    (subst (IsOpen g.T.Task.ended g.T.Task.waits_for c.moment-now.result) there (can task))
    (subst (λ t. g.T.Task.one_poll t tick (is_ready c.poll_at.result) c.poll_at.new.self) there c.poll_at.ensures.poll)
