-- A poll steps the retry at its moment with its words and its report, and what comes of that is told.
use Rattle.std.proofs.Common.{◌≡◌, ℕ, List, Result, Ok, Err, IfErr, refl, subst}
use Rattle.sched_time.specs.declared.numbers.Tick.{Tick}
use Rattle.sched_handle.specs.Replies.{answer_in}
use Rattle.sched_handle.specs.Retries.{Polls}
use Rattle.sched_handle.specs.Status.{told}
use Rattle.sched_handle.specs.declared.status.Status.{Status}
use Rattle.hikebox_c.specs.Calls.{Tells}
use Rattle.hikebox_c.proofs.retries.poll.Goals as goal

-- a tick is its moment and its words
tick_is : (t : Tick) (now : ℕ) (words : List ℕ) → t.now ≡ now → t.words ≡ words →
    t ≡ record { now = now; words = words }
tick_is t now words at with = rw (← at, ← with) refl

-- what is told of an answer
tells : {A : Type 0} (r : Result (Unit {0}) Status) (code : ℕ) (old new : A) → code ≡ told r →
    IfErr r (λ _. new ≡ old) → Tells code old new (answer_in r new)
tells (Ok x) code old new is err = (is, refl)
tells (Err s) code old new is err = (is, err)

pub returns-clause-poll : goal.returns-clause-poll
returns-clause-poll c = λ _.
    let report = c.in-Ok-reported.report in
    let answer = answer_in c.poll-answer.result c.poll-answer.new.next in
    let left = c.poll-answer.new.self in
    let polls =
    subst (λ (t : Tick). Polls t report c.in-Some.held.now answer left)
    (tick_is c.in-Ok.tick c.args.now c.args.words.now c.in-Ok.ensures.now c.in-Ok.ensures.words)
    c.poll-answer.ensures.polls in
    let said = tells c.poll-answer.result c.tell_status.result c.args.next.now c.poll-answer.new.next
    c.tell_status.ensures c.poll-answer.ensures.refused in
    rw (← c.in-Some.ensures.held)
    (Ok report, c.in-Ok-reported.ensures, (answer, left, refl, polls, said))
