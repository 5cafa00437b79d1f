-- Seats of active jobs: polls leave their numbers, and closing leaves the jobs that were not seen over.
use Rattle.std.proofs.Common.{◌≡◌, ℕ, zero, suc, ◌+◌, ◌<◌, ◌≤◌, Bool, true, false, List, [], ◌∷◌, ◌++◌, length, take}
use Rattle.std.proofs.Common.{drop, Option, is_some, if◌then◌else◌, refl, sym, ap, ◌∙◌, arith, append_assoc, append-nil}
use Rattle.std.proofs.Common.{length-append, take-append-drop, drop_of_length-le, length-take, min}
use Rattle.std.specs.Prelude.{All, Any, remove, slice_index_or, slice_set}
use Rattle.std.proofs.Math.Seq.{take-append_seam}
use Rattle.std.proofs.lemmas.List.{take_more}
use mathlib.Core.Logic.{dite}
use native.Mathlib.Decide.{dec_le}
use Rattle.std.proofs.lemmas.List.Elements.{All-head, All-tail}
use Rattle.sched_time.specs.declared.numbers.Tick.{Tick}
use Rattle.sched_task.specs.declared.endings.How.{How}
use Rattle.sched_wheel.specs.Polled.{Standing, Poll, polled, ArePolls, IsCourse}
use Rattle.sched_pool_worker.specs.Working.{Noted, IsPolledSeat, numbers, open_number, open_numbers}

-- a seat that was polled is of the same job
numbers_set : (seats : List Noted) (place : ℕ) (seat after : Noted) → place < length seats
    → slice_index_or seats place seat ≡ seat →
    after.number ≡ seat.number → numbers (slice_set seats place after) ≡ numbers seats
numbers_set [] place seat after inside there same = absurd (omega arith)
numbers_set (s ∷ seats) zero seat after inside there same =
    ap (λ n. n ∷ numbers seats) (same ∙ sym (ap (λ (t : Noted). t.number) there))
numbers_set (s ∷ seats) (suc place) seat after inside there same =
    ap (λ ns. s.number ∷ ns) (numbers_set seats place seat after (omega arith) there same)

module _ {C : Type 0} (ended : Noted → Option How) (waits_for : Noted → Option ℕ) (tells : C → ℕ → C → Type 0)
    (waits : C → ℕ → ℕ → C → Type 0) where
  abbrev one_poll : Noted → Tick → Bool → Noted → Type 0
  one_poll seat tick ready after = IsPolledSeat seat after

  polls_numbers : (loop after : Standing Noted C) (polls : List (Poll Noted C))
      → ArePolls ended waits_for one_poll tells waits loop polls after →
      numbers loop.tasks ≡ numbers after.tasks
  polls_numbers loop after [] idle = ap numbers idle.tasks
  polls_numbers loop after (poll ∷ polls) are =
      let before = are.0 in
      let is = are.2 in
      ap numbers are.1.tasks
      ∙ sym (numbers_set before.tasks poll.place is.task poll.task is.inside is.there is.poll_is.number)
      ∙ polls_numbers (polled before poll) after polls are.3

  -- polls leave the numbers of seats
  pub course_numbers : (most : ℕ) (loop after : Standing Noted C)
      → IsCourse ended waits_for one_poll tells waits most loop after →
      numbers loop.tasks ≡ numbers after.tasks
  course_numbers most loop after course = polls_numbers loop after course.polls course.are

numbers-append : (seats : List Noted) (seat : Noted) → numbers (seats ++ seat ∷ []) ≡ numbers seats ++ seat.number ∷ []
numbers-append [] seat = refl
numbers-append (s ∷ seats) seat = ap (λ ns. s.number ∷ ns) (numbers-append seats seat)

-- one more seat, of the next job
pub numbers_more : (seats : List Noted) (seat : Noted) (active : List ℕ) (i d : ℕ) → numbers seats ≡ take i active
    → i < length active →
    seat.number ≡ slice_index_or active i d → numbers (seats ++ seat ∷ []) ≡ take (i + 1) active
numbers_more seats seat active i d same inside next =
    numbers-append seats seat ∙ ap (λ ns. ns ++ seat.number ∷ []) same ∙ ap (λ n. take i active ++ n ∷ []) next
    ∙ sym (take_more active i d inside)

length-numbers : (seats : List Noted) → length (numbers seats) ≡ length seats
length-numbers [] = refl
length-numbers (s ∷ seats) = ap suc (length-numbers seats)

open-append : (seats : List Noted) (seat : Noted)
    → open_numbers (seats ++ seat ∷ []) ≡ open_numbers seats ++ open_number seat
open-append [] seat = append-nil (open_number seat)
open-append (s ∷ seats) seat =
    ap (λ ns. open_number s ++ ns) (open-append seats seat)
    ∙ sym (append_assoc (open_number s) (open_numbers seats) (open_number seat))

-- where all are over none is open
none_open : (seats : List Noted) → All (λ s. is_some s.over ≡ true) seats → open_numbers seats ≡ []
none_open [] all = refl
none_open (s ∷ seats) all =
    rw (
      All-head (λ (s : Noted). is_some s.over ≡ true) s seats all,
      none_open seats (All-tail (λ (s : Noted). is_some s.over ≡ true) s seats all),
    ) refl

open_at : (seats : List Noted) (k : ℕ) (s : Noted) → k < length seats → slice_index_or seats k s ≡ s
    → is_some s.over ≡ false → 0 < length (open_numbers seats)
open_at [] k s inside at over = absurd (omega arith)
open_at (first ∷ seats) zero s inside at over = rw (at, over) (omega arith)
open_at (first ∷ seats) (suc k) s inside at over =
    omega (arith, length-append (open_number first) (open_numbers seats), open_at seats k s (omega arith) at over)

-- where one is not over one is open
some_open : (seats : List Noted) → Any (λ s. is_some s.over ≡ false) seats → 0 < length (open_numbers seats)
some_open seats any = open_at seats any.0 any.1 any.2 any.3 any.4

-- The active jobs are those of the seats and then others. Once the seats' jobs that are over are closed, the wanted
-- ones are left.
pub record IsClosing (seats : List Noted) (active wanted : List ℕ) : Type 0 where
  pub others : List ℕ
  pub active_are : active ≡ numbers seats ++ others
  pub wanted_are : wanted ≡ open_numbers seats ++ others

pub closing_starts : (seats : List Noted) (active : List ℕ) (n : ℕ) → numbers seats ≡ take n active →
    IsClosing seats active (open_numbers seats ++ drop n active)
closing_starts seats active n same = record {
  others = drop n active;
  active_are = sym (ap (λ ns. ns ++ drop n active) same ∙ take-append-drop n active);
  wanted_are = refl;
}

remove_here : (front back : List ℕ) (x : ℕ) → remove (front ++ x ∷ back) (length front) ≡ front ++ back
remove_here [] back x = refl
remove_here (y ∷ front) back x = ap (λ l. y ∷ l) (remove_here front back x)

module _ (seats rest : List Noted) (seat : Noted) (active wanted : List ℕ) (popped : seats ≡ rest ++ seat ∷ [])
    (was : IsClosing seats active wanted) where
  active_are : active ≡ numbers rest ++ (seat.number ∷ was.others)
  active_are =
      was.active_are ∙ ap (λ s. numbers s ++ was.others) popped ∙ ap (λ ns. ns ++ was.others) (numbers-append rest seat)
      ∙ append_assoc (numbers rest) (seat.number ∷ []) was.others

  wanted_are : wanted ≡ open_numbers rest ++ (open_number seat ++ was.others)
  wanted_are =
      was.wanted_are ∙ ap (λ s. open_numbers s ++ was.others) popped
      ∙ ap (λ ns. ns ++ was.others) (open-append rest seat)
      ∙ append_assoc (open_numbers rest) (open_number seat) was.others

  pub closing_inside : length rest < length active
  closing_inside = omega (
    arith,
    ap length active_are,
    length-append (numbers rest) (seat.number ∷ was.others),
    length-numbers rest,
  )

  pub closing_over : (n : ℕ) → n ≡ length rest → is_some seat.over ≡ true → IsClosing rest (remove active n) wanted
  closing_over n here over = record {
    others = was.others;
    active_are =
        ap (λ k. remove active k) (here ∙ sym (length-numbers rest))
        ∙ ap (λ l. remove l (length (numbers rest))) active_are
        ∙ remove_here (numbers rest) was.others seat.number;
    wanted_are =
        wanted_are ∙ ap (λ (b : Bool). open_numbers rest ++ ((if b then [] else seat.number ∷ []) ++ was.others)) over;
  }

  pub closing_open : is_some seat.over ≡ false → IsClosing rest active wanted
  closing_open over = record {
    others = seat.number ∷ was.others;
    active_are = active_are;
    wanted_are =
        wanted_are ∙ ap (λ (b : Bool). open_numbers rest ++ ((if b then [] else seat.number ∷ []) ++ was.others)) over;
  }

-- a list written over the front of another of its length
written : {X : Type 0} (n : ℕ) (xs ys : List X) → length xs ≡ n → take n (xs ++ drop (length xs) ys) ≡ xs
written n xs ys long =
    ap (λ k. take k (xs ++ drop (length xs) ys)) (sym long) ∙ take-append_seam xs (drop (length xs) ys)

drop_up_to : (l : List ℕ) (hold n : ℕ) → n ≡ min (length l) hold → drop n l ≡ drop hold l
drop_up_to l hold n least = dite (dec_le (length l) hold)
    (λ all. drop_of_length-le l (omega arith) ∙ sym (drop_of_length-le l all))
    (λ some. ap (λ k. drop k l) (omega arith))

-- so many seats of the first active jobs, after their polls
pub record Drove (seats outs : List Noted) (active : List ℕ) (n hold : ℕ) : Type 0 where
  pub same : seats ≡ outs
  pub numbers_are : numbers seats ≡ take n active
  pub least : n ≡ min (length active) hold

pub drove : (made tasks outs : List Noted) (active : List ℕ) (first n hold : ℕ) → numbers made ≡ take first active
    → tasks ≡ made →
    numbers tasks ≡ numbers outs → n ≡ length made → first ≡ min (length active) hold →
    Drove (take n (outs ++ drop (length outs) made)) outs active n hold
drove made tasks outs active first n hold are same kept long least =
    let out_numbers : numbers outs ≡ take first active = sym kept ∙ ap numbers same ∙ are in
    let n_is : n ≡ first = omega (arith, long, length-numbers made, ap length are, length-take first active, least) in
    let outs_long : length outs ≡ n =
    omega (arith, n_is, length-numbers outs, ap length out_numbers, length-take first active, least) in
    let seats_are = written n outs made outs_long in
    record {
      same = seats_are;
      numbers_are = ap numbers seats_are ∙ out_numbers ∙ ap (λ k. take k active) (sym n_is);
      least = n_is ∙ least;
    }

-- where all are over, the first jobs are closed
pub all_closed : (left active : List ℕ) (seats outs : List Noted) (n hold : ℕ)
    → left ≡ open_numbers seats ++ drop n active →
    Drove seats outs active n hold → All (λ s. is_some s.over ≡ true) outs → left ≡ drop hold active
all_closed left active seats outs n hold left_are d all =
    left_are ∙ ap (λ s. open_numbers s ++ drop n active) d.same ∙ ap (λ ns. ns ++ drop n active) (none_open outs all)
    ∙ drop_up_to active hold n d.least

-- where one is not over, a job is left
pub some_left : (left active : List ℕ) (seats outs : List Noted) (n hold : ℕ)
    → left ≡ open_numbers seats ++ drop n active →
    Drove seats outs active n hold → Any (λ s. is_some s.over ≡ false) outs → 0 < length left
some_left left active seats outs n hold left_are d any = omega (
  arith,
  ap length left_are,
  length-append (open_numbers seats) (drop n active),
  ap (λ s. length (open_numbers s)) d.same,
  some_open outs any,
)

one_at_most : (n : ℕ) (over : Bool) → length (if over then [] else n ∷ []) ≤ 1
one_at_most n true = omega arith
one_at_most n false = omega arith

open_at_most : (seats : List Noted) → length (open_numbers seats) ≤ length (numbers seats)
open_at_most [] = omega arith
open_at_most (seat ∷ seats) = omega (
  arith,
  open_at_most seats,
  length-append (open_number seat) (open_numbers seats),
  one_at_most seat.number (is_some seat.over),
)

-- no more are left than there were
pub fewer_left : (left active : List ℕ) (seats outs : List Noted) (n hold : ℕ)
    → left ≡ open_numbers seats ++ drop n active →
    Drove seats outs active n hold → length left ≤ length active
fewer_left left active seats outs n hold left_are d = omega (
  arith,
  ap length left_are,
  length-append (open_numbers seats) (drop n active),
  open_at_most seats,
  ap length d.numbers_are,
  length-append (take n active) (drop n active),
  ap length (take-append-drop n active),
)
