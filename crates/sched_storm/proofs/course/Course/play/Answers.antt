-- Each kind of what is due is answered by its own method.
use Rattle.std.proofs.Common.{IfOk, OnOk, subst, sym, ◌∙◌}
use Rattle.sched_storm.specs.Course.{client_of, answer_to, slot_of, Drives, HasAnswered, IsPlacedAt, IsDrivenAt}
use Rattle.sched_storm.specs.Course.{IsCounted}
use Rattle.sched_storm.proofs.OfKind.{of_begins, of_retries, of_succeeds, of_fails}
use Rattle.sched_storm.proofs.course.Course.play.Goals as goal

pub begin-requires-clause-placed : goal.begin-requires-clause-placed
begin-requires-clause-placed c =
    subst (λ k. IsPlacedAt k c.args.turn.request c.args.self.now.requests) c.in-Begins.is c.requires.placed

pub returns-in-Begins-clause-answered : goal.returns-in-Begins-clause-answered
returns-in-Begins-clause-answered c = λ what kind.
    of_begins (λ what. Drives (client_of c.args.self.now c.args.turn.request).plan
    (slot_of c.args.self.now c.args.turn.request) c.args.turn.at what →
    IfOk c.begin.result (HasAnswered (answer_to (client_of c.args.self.now c.args.turn.request) c.args.self.now
    c.args.turn.request c.args.turn.at what) c.args.turn.at c.args.turn.request c.args.self.now c.begin.new.self))
    (λ _. c.begin.ensures.answered) what (kind ∙ c.in-Begins.is)

pub returns-in-Begins-clause-counts : goal.returns-in-Begins-clause-counts
returns-in-Begins-clause-counts c =
    subst (λ k. OnOk c.begin.result (IsCounted k c.args.self.now c.begin.new.self))
    (sym c.in-Begins.is) c.begin.ensures.counts

pub retry-requires-clause-placed : goal.retry-requires-clause-placed
retry-requires-clause-placed c =
    subst (λ k. IsPlacedAt k c.args.turn.request c.args.self.now.requests) c.in-Retries.is c.requires.placed

pub returns-in-Retries-clause-answered : goal.returns-in-Retries-clause-answered
returns-in-Retries-clause-answered c = λ what kind.
    of_retries (λ what. Drives (client_of c.args.self.now c.args.turn.request).plan
    (slot_of c.args.self.now c.args.turn.request) c.args.turn.at what →
    IfOk c.retry.result (HasAnswered (answer_to (client_of c.args.self.now c.args.turn.request) c.args.self.now
    c.args.turn.request c.args.turn.at what) c.args.turn.at c.args.turn.request c.args.self.now c.retry.new.self))
    c.retry.ensures.answered what (kind ∙ c.in-Retries.is)

pub returns-in-Retries-clause-counts : goal.returns-in-Retries-clause-counts
returns-in-Retries-clause-counts c =
    subst (λ k. OnOk c.retry.result (IsCounted k c.args.self.now c.retry.new.self))
    (sym c.in-Retries.is) c.retry.ensures.counts

pub win-requires-clause-placed : goal.win-requires-clause-placed
win-requires-clause-placed c =
    subst (λ k. IsPlacedAt k c.args.turn.request c.args.self.now.requests) c.in-Succeeds.is c.requires.placed

pub returns-in-Succeeds-clause-answered : goal.returns-in-Succeeds-clause-answered
returns-in-Succeeds-clause-answered c = λ what kind.
    of_succeeds (λ what. Drives (client_of c.args.self.now c.args.turn.request).plan
    (slot_of c.args.self.now c.args.turn.request) c.args.turn.at what →
    IfOk c.win.result (HasAnswered (answer_to (client_of c.args.self.now c.args.turn.request) c.args.self.now
    c.args.turn.request c.args.turn.at what) c.args.turn.at c.args.turn.request c.args.self.now c.win.new.self))
    (λ _. c.win.ensures.answered) what (kind ∙ c.in-Succeeds.is)

pub returns-in-Succeeds-clause-counts : goal.returns-in-Succeeds-clause-counts
returns-in-Succeeds-clause-counts c =
    subst (λ k. OnOk c.win.result (IsCounted k c.args.self.now c.win.new.self))
    (sym c.in-Succeeds.is) c.win.ensures.counts

pub fail-requires-clause-placed : goal.fail-requires-clause-placed
fail-requires-clause-placed c =
    subst (λ k. IsPlacedAt k c.args.turn.request c.args.self.now.requests) c.in-Fails.is c.requires.placed

pub fail-requires-clause-may : goal.fail-requires-clause-may
fail-requires-clause-may c =
    subst (λ k. IsDrivenAt k c.args.self.now c.args.turn.at c.args.turn.request) c.in-Fails.is c.requires.may

pub returns-in-Fails-clause-answered : goal.returns-in-Fails-clause-answered
returns-in-Fails-clause-answered c = λ what kind.
    of_fails (λ what. Drives (client_of c.args.self.now c.args.turn.request).plan
    (slot_of c.args.self.now c.args.turn.request) c.args.turn.at what →
    IfOk c.fail.result (HasAnswered (answer_to (client_of c.args.self.now c.args.turn.request) c.args.self.now
    c.args.turn.request c.args.turn.at what) c.args.turn.at c.args.turn.request c.args.self.now c.fail.new.self))
    c.in-Fails.failure
    c.fail.ensures.answered what (kind ∙ c.in-Fails.is)

pub returns-in-Fails-clause-counts : goal.returns-in-Fails-clause-counts
returns-in-Fails-clause-counts c =
    subst (λ k. OnOk c.fail.result (IsCounted k c.args.self.now c.fail.new.self))
    (sym c.in-Fails.is) c.fail.ensures.counts
