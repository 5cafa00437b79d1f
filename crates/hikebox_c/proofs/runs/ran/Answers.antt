-- A whole run steps the retry at its beginning and at its end, with its words and its report, and what comes is told.
use Rattle.std.proofs.Common.{◌≡◌, ℕ, List, Result, Ok, Err, IfErr, refl, subst}
use Rattle.sched_time.specs.declared.numbers.Tick.{Tick}
use Rattle.sched_handle.specs.Replies.{answer_in}
use Rattle.sched_handle.specs.Retries.{Rans}
use Rattle.sched_handle.specs.Status.{told}
use Rattle.sched_handle.specs.declared.status.Status.{Status}
use Rattle.hikebox_c.specs.Calls.{Tells}
use Rattle.hikebox_c.specs.Runs.{ticked}
use Rattle.hikebox_c.proofs.runs.ran.Goals as goal

-- a tick is its moment and its words
tick_is : (t : Tick) (now : ℕ) (words : List ℕ) → t.now ≡ now → t.words ≡ words → t ≡ ticked now words
tick_is t now words at with = rw (← at, ← with) refl

-- what is told of an answer
tells : {A : Type 0} (r : Result (Unit {0}) Status) (code : ℕ) (old new : A) → code ≡ told r →
    IfErr r (λ _. new ≡ old) → Tells code old new (answer_in r new)
tells (Ok x) code old new is err = (is, refl)
tells (Err s) code old new is err = (is, err)

pub returns-clause-ran : goal.returns-clause-ran
returns-clause-ran c = λ _ _.
    let report = c.in-Ok-reported.report in
    let answer = answer_in c.ran-answer.result c.ran-answer.new.next in
    let left = c.ran-answer.new.self in
    let run = c.args.run.now in
    let begun = subst (λ (t : Tick). Rans t c.in-Ok-tick_at.ended report c.in-Some.held.now answer left)
    (tick_is c.in-Ok.began run.began run.words c.in-Ok.ensures.now c.in-Ok.ensures.words)
    c.ran-answer.ensures.rans in
    let rans =
    subst (λ (t : Tick). Rans (ticked run.began run.words) t report c.in-Some.held.now answer left)
    (tick_is c.in-Ok-tick_at.ended run.ended run.words c.in-Ok-tick_at.ensures.now c.in-Ok-tick_at.ensures.words)
    begun in
    let said = tells c.ran-answer.result c.tell_status.result c.args.next.now c.ran-answer.new.next
    c.tell_status.ensures c.ran-answer.ensures.refused in
    rw (← c.in-Some.ensures.held)
    (Ok report, c.in-Ok-reported.ensures, (answer, left, refl, rans, said))
