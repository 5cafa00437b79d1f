-- Polls one after the other, and what they leave.
use Rattle.std.proofs.Common.{◌≡◌, ℕ, zero, suc, ◌+◌, ◌<◌, ◌≤◌, Bool, List, [], ◌∷◌, ◌++◌, length, slice_index_or}
use Rattle.std.proofs.Common.{slice_set, Option, Some, None, refl, sym, ap, ◌∙◌, subst, arith, length-append}
use Rattle.std.specs.Prelude.{Result, IfOk}
use Rattle.rand_core.specs.Stream.{Stream}
use Rattle.sched_time.specs.declared.numbers.Tick.{Tick}
use Rattle.sched_task.specs.Words.{next_four}
use Rattle.sched_task.specs.declared.endings.How.{How}
use Rattle.sched_wheel.specs.Polled.{after_polls, IsLeft, IsOpen, Standing, standing, Reading, Answers, IsAsked, IsIdle}
use Rattle.sched_wheel.specs.Polled.{Poll, polled, IsPoll, ArePolls, IsCourse}

-- what holds of every value holds of the one answered, if any
pub of_each_ok : {T E : Type 0} (r : Result T E) (P : T → Type 0) → ((value : T) → P value) → IfOk r P
of_each_ok (Result.Ok value) P each = each value
of_each_ok (Result.Err fault) P each = tt

-- no word was drawn
pub left_same : (words : Stream) → IsLeft 0 words words
left_same words = record { polls = zero; few = omega arith; left_is = refl }

pub left_within : (few most : ℕ) (words left : Stream) → few ≤ most → IsLeft few words left → IsLeft most words left
left_within few most words left within was = record {
  polls = was.polls;
  few = omega (arith, within, was.few);
  left_is = was.left_is;
}

more_polls : (first rest : ℕ) (words : Stream) →
    (polls : ℕ) × (polls ≡ first + rest) × (after_polls rest (after_polls first words) ≡ after_polls polls words)
more_polls zero rest words = (rest, omega arith, refl)
more_polls (suc first) rest words =
    let more = more_polls first rest (next_four words).1 in
    (suc more.0, omega (arith, more.1), more.2)

-- words of some polls, and then of further polls
pub left_then : (first rest most : ℕ) (words middle left : Stream) → first + rest ≤ most → IsLeft first words middle
    → IsLeft rest middle left →
    IsLeft most words left
left_then first rest most words middle left within was then =
    let more = more_polls was.polls then.polls words in
    record {
      polls = more.0;
      few = omega (arith, within, was.few, then.few, more.1);
      left_is = rw (then.left_is, was.left_is) more.2;
    }

module _ {C : Type 0} (tells : C → ℕ → C → Type 0) (waits : C → ℕ → ℕ → C → Type 0) where
  answers_then : (clock middle after : C) (first rest : List (Reading C)) → Answers tells waits clock first middle →
      Answers tells waits middle rest after → Answers tells waits clock (first ++ rest) after
  answers_then clock middle after [] rest was then = subst (λ c. Answers tells waits c rest after) (sym was) then
  answers_then clock middle after (reading ∷ first) rest was then =
      (was.0, answers_then reading.clock middle after first rest was.1 then)

  -- the clock was not asked
  pub asked_none : (clock : C) → IsAsked tells waits clock clock
  asked_none clock = record { readings = []; are = refl }

  -- the clock told the moment
  pub asked_now : (clock after : C) (moment : ℕ) → tells clock moment after → IsAsked tells waits clock after
  asked_now clock after moment told = record {
    readings = record { until = None; moment = moment; clock = after } ∷ [];
    are = (told, refl);
  }

  -- the clock was waited for
  pub asked_until : (clock after : C) (until moment : ℕ) → waits clock until moment after
      → IsAsked tells waits clock after
  asked_until clock after until moment waited = record {
    readings = record { until = Some until; moment = moment; clock = after } ∷ [];
    are = (waited, refl);
  }

  pub asked_then : (clock middle after : C) → IsAsked tells waits clock middle → IsAsked tells waits middle after
      → IsAsked tells waits clock after
  asked_then clock middle after was then = record {
    readings = was.readings ++ then.readings;
    are = answers_then clock middle after was.readings then.readings was.are then.are;
  }

  module _ {T : Type 0} where
    idle_then : (loop middle after : Standing T C) → IsIdle tells waits loop middle → IsIdle tells waits middle after
        → IsIdle tells waits loop after
    idle_then loop middle after was then = record {
      clock = asked_then loop.clock middle.clock after.clock was.clock then.clock;
      tasks = was.tasks ∙ then.tasks;
      words = was.words ∙ then.words;
    }

module _ {T C : Type 0} (ended : T → Option How) (waits_for : T → Option ℕ) (one_poll : T → Tick → Bool → T → Type 0)
    (tells : C → ℕ → C → Type 0) (waits : C → ℕ → ℕ → C → Type 0) where
  polls_after_idle : (loop middle after : Standing T C) (polls : List (Poll T C)) → IsIdle tells waits loop middle →
      ArePolls ended waits_for one_poll tells waits middle polls after
      → ArePolls ended waits_for one_poll tells waits loop polls after
  polls_after_idle loop middle after [] was then = idle_then tells waits loop middle after was then
  polls_after_idle loop middle after (poll ∷ polls) was then =
      (then.0, idle_then tells waits loop middle then.0 was then.1, then.2, then.3)

  polls_then : (loop middle after : Standing T C) (first rest : List (Poll T C))
      → ArePolls ended waits_for one_poll tells waits loop first middle →
      ArePolls ended waits_for one_poll tells waits middle rest after
      → ArePolls ended waits_for one_poll tells waits loop (first ++ rest) after
  polls_then loop middle after [] rest was then = polls_after_idle loop middle after rest was then
  polls_then loop middle after (poll ∷ first) rest was then =
      (was.0, was.1, was.2, polls_then (polled was.0 poll) middle after first rest was.3 then)

  -- no poll
  pub course_of_none : (most : ℕ) (tasks : List T) (words : Stream) (clock after : C)
      → IsAsked tells waits clock after →
      IsCourse ended waits_for one_poll tells waits most (standing tasks words clock) (standing tasks words after)
  course_of_none most tasks words clock after asked = record {
    polls = [];
    few = omega arith;
    are = record { clock = asked; tasks = refl; words = refl };
  }

  -- one poll
  pub course_of_one : (loop : Standing T C) (poll : Poll T C) → IsPoll ended waits_for one_poll tells waits loop poll →
      IsCourse ended waits_for one_poll tells waits 1 loop (polled loop poll)
  course_of_one loop poll is_poll = record {
    polls = poll ∷ [];
    few = omega arith;
    are = (
      loop,
      record { clock = asked_none tells waits loop.clock; tasks = refl; words = refl },
      is_poll,
      record { clock = asked_none tells waits poll.clock; tasks = refl; words = refl },
    );
  }

  -- one poll of the task at a place, at the moment that the clock told just then
  pub course_of_poll : (tasks : List T) (words left : Stream) (clock after : C) (place : ℕ) (task out : T) (tick : Tick)
      (ready : Bool) →
      place < length tasks → slice_index_or tasks place task ≡ task → tells clock tick.now after
      → (tick.words, left) ≡ next_four words →
      IsOpen ended waits_for tick.now task → one_poll task tick ready out →
      IsCourse ended waits_for one_poll tells waits 1 (standing tasks words clock)
      (standing (slice_set tasks place out) left after)
  course_of_poll tasks words left clock after place task out tick ready inside there told drawn was_open poll_is =
      let poll : Poll T C = record { place = place; tick = tick; ready = ready; task = out; clock = after } in
      subst (λ rest. IsCourse ended waits_for one_poll tells waits 1 (standing tasks words clock)
      (standing (slice_set tasks place out) rest after))
      (sym (ap (λ p. p.1) drawn))
      (course_of_one (standing tasks words clock) poll record {
        task = task;
        inside = inside;
        there = there;
        moment = told;
        lanes = ap (λ p. p.0) drawn;
        was_open = was_open;
        poll_is = poll_is;
      })

  -- a course, and then a further one
  pub course_then : (first rest most : ℕ) (loop middle after : Standing T C) → first + rest ≤ most
      → IsCourse ended waits_for one_poll tells waits first loop middle →
      IsCourse ended waits_for one_poll tells waits rest middle after
      → IsCourse ended waits_for one_poll tells waits most loop after
  course_then first rest most loop middle after within was then = record {
    polls = was.polls ++ then.polls;
    few = omega (arith, within, was.few, then.few, length-append was.polls then.polls);
    are = polls_then loop middle after was.polls then.polls was.are then.are;
  }

  -- a course of fewer polls than may be
  pub course_within : (few most : ℕ) (loop after : Standing T C) → few ≤ most
      → IsCourse ended waits_for one_poll tells waits few loop after →
      IsCourse ended waits_for one_poll tells waits most loop after
  course_within few most loop after within was = record {
    polls = was.polls;
    few = omega (arith, within, was.few);
    are = was.are;
  }

  words_left : (loop after : Standing T C) (polls : List (Poll T C))
      → ArePolls ended waits_for one_poll tells waits loop polls after →
      after.words ≡ after_polls (length polls) loop.words
  words_left loop after [] idle = sym idle.words
  words_left loop after (poll ∷ polls) are =
      words_left (polled are.0 poll) after polls are.3
      ∙ ap (λ words. after_polls (length polls) (next_four words).1) (sym are.1.words)

  -- a course draws the words of its polls
  pub left_by_course : (most : ℕ) (loop after : Standing T C)
      → IsCourse ended waits_for one_poll tells waits most loop after →
      IsLeft most loop.words after.words
  left_by_course most loop after course = record {
    polls = length course.polls;
    few = course.few;
    left_is = words_left loop after course.polls course.are;
  }
