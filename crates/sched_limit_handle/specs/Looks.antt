-- What is done with the limits of a handle beside what requests ask of them.
use Rattle.std.specs.Prelude.{◌≡◌, ℕ, ◌-◌, Bool, true, false}
use Rattle.sched_limit.specs.declared.seen.Seen.{Seen}
use Rattle.sched_limit_request.specs.declared.by_hand.Hand.{Hand}
use Rattle.sched_limit_handle.specs.AnyLimit.{Same}
use Rattle.sched_limit_handle.specs.Held.{of_held, count}
use Rattle.sched_limit_handle.specs.declared.held.Held.{Held}
use Rattle.sched_limit_handle.specs.declared.looks.Words.{Words}

-- a look saw these words
abbrev pub held_looked : Held → Words → Held
held_looked u w = of_held u (λ D W holds s at d. holds (s.looked d (at w))) u

-- whether a request may begin at these words: at each of them
abbrev pub held_may_begin : Held → Words → Bool
held_may_begin u w = of_held true (λ D W holds s at d. s.may_begin d (at w)) u

-- a request of all limits begins at these words, where it may at each of them
abbrev pub held_begun : Held → Words → Held
held_begun u w = of_held u (λ D W holds s at d. holds (s.begun d (at w))) u

-- what somebody does by hand to each breaker, and whether there is one
abbrev pub HeldByHand : Hand → Held → Held → Type 0
HeldByHand hand u v = of_held (v ≡ u) (λ D W holds s at d. Same holds v (s.by_hand hand d)) u

abbrev pub has_breaker : Held → Bool
has_breaker u = of_held false (λ D W holds s at d. s.has_breaker d) u

-- what is seen of the limit of this number, from 0 on in the order in which they are asked: so many are asked after it
abbrev pub HeldSeen : ℕ → ℕ → Held → Seen → Held → Type 0
HeldSeen which now u seen v =
    of_held ⊥ (λ D W holds s at d. Same holds v (s.seen (count u - 1 - which) now d seen)) u
