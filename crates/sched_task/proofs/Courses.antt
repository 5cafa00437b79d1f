-- How a course begins.
use Rattle.std.proofs.Common.{◌≡◌, ℕ, Bool, false, List, [], ◌∷◌, Option, ap, subst}
use Rattle.rand_core.specs.Stream.{Stream}
use Rattle.sched_time.specs.declared.numbers.Tick.{Tick}
use Rattle.sched_task.specs.Words.{next_four}
use Rattle.sched_task.specs.Course.{Turn, Answered, IsPoll, Course}

module _ {T C : Type 0} (waits_for : T → Option ℕ) (one_poll : T → Tick → Bool → T → Type 0)
    (tells : C → ℕ → C → Type 0) (waits : C → ℕ → ℕ → C → Type 0) where
  -- a poll of a course, from what its calls answered
  pub is_poll : (task : T) (clock : C) (words left : Stream) (ready : Bool) (turn : Turn T C) (due : Option ℕ) →
      due ≡ waits_for task → Answered tells waits due clock turn.tick.now turn.clock →
      (turn.tick.words, left) ≡ next_four words → one_poll task turn.tick ready turn.task →
      IsPoll waits_for one_poll tells waits task clock words ready turn
  is_poll task clock words left ready turn due waiting answered drawn poll = record {
    moment = subst (λ d. Answered tells waits d clock turn.tick.now turn.clock) waiting answered;
    lanes = ap (λ p. p.0) drawn;
    poll = poll;
  }

  -- a pending poll, and then a course from where it left off
  pub course_on : (task : T) (clock : C) (words left : Stream) (turn : Turn T C) (turns : List (Turn T C)) (out : T) →
      (turn.tick.words, left) ≡ next_four words → IsPoll waits_for one_poll tells waits task clock words false turn →
      Course waits_for one_poll tells waits turn.task turn.clock left turns out →
      Course waits_for one_poll tells waits task clock words (turn ∷ turns) out
  course_on task clock words left turn [] out drawn poll course = absurd course
  course_on task clock words left turn (next ∷ turns) out drawn poll course = (
    poll,
    subst (λ s. Course waits_for one_poll tells waits turn.task turn.clock s (next ∷ turns) out)
        (ap (λ p. p.1) drawn) course,
  )
