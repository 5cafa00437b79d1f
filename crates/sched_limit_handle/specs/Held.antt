-- What a handle holds, one limit or up to four at once, how it is made, split and joined.
use Rattle.std.specs.Prelude.{◌≡◌, ◌⊎◌, ℕ, false, Result, Ok, Err}
use Rattle.std.specs.Global.{Global}
use Rattle.std_alloc.specs.declared.boxed.Box.{Box}
use Rattle.sched_limit.specs.Adaptive.{adaptive_first}
use Rattle.sched_limit.specs.Bucket.{AreTerms}
use Rattle.sched_limit.specs.declared.adaptive.Adaptive.{Adaptive}
use Rattle.sched_limit.specs.declared.bucket.Bucket.{Bucket}
use Rattle.sched_limit.specs.declared.in_flight.InFlight.{InFlight}
use Rattle.sched_limit.specs.declared.breaker.Breaker.{Breaker}
use Rattle.sched_limit.specs.declared.throttle.Throttle.{Throttle}
use Rattle.sched_limit.specs.declared.request.Told.{Told}
use Rattle.sched_limit.specs.Step.{Answer, nothing}
use Rattle.sched_limit_word.specs.View.{first_view}
use Rattle.sched_limit_request.specs.Asks.{Asked}
use Rattle.sched_limit_request.specs.Limits.{OfLimit}
use Rattle.sched_limit_request.specs.declared.fault.SplitFault.{SplitFault}
use Rattle.sched_limit_request.specs.declared.fault.SplitFault.TheVariants as fault
use Rattle.sched_limit_request.specs.declared.both.Both.{Both}
use Rattle.sched_limit_handle.specs.AnyLimit.{Same}
use Rattle.sched_limit_handle.specs.Stands.{Stood, any_stood, and_stood}
use Rattle.sched_limit_handle.specs.declared.any_limit.AnyLimit.{AnyLimit}
use Rattle.sched_limit_handle.specs.declared.any_limit.AnyLimit.TheVariants as any
use Rattle.sched_limit_handle.specs.declared.held.Held.{Held}
use Rattle.sched_limit_handle.specs.declared.held.Held.TheVariants.{Unlimited, One, Two, Three, Four}
use Rattle.sched_limit_handle.specs.declared.looks.Words.{Words}
use Rattle.sched_limit_handle.specs.declared.status.Status.{Status}
use Rattle.sched_limit_handle.specs.declared.status.Status.TheVariants.{NoMemory, OutOfRange, TooManyPasses}

-- limits at once, each asked after those before it
abbrev pub AtTwo : Type 0
AtTwo = Both AnyLimit AnyLimit

abbrev pub AtThree : Type 0
AtThree = Both AtTwo AnyLimit

abbrev pub AtFour : Type 0
AtFour = Both AtThree AnyLimit

-- what is said of two limits at once, of three and of four
abbrev pub two_stood : Stood AtTwo (ℕ × ℕ)
two_stood = and_stood any_stood

abbrev pub three_stood : Stood AtThree ((ℕ × ℕ) × ℕ)
three_stood = and_stood two_stood

abbrev pub four_stood : Stood AtFour (((ℕ × ℕ) × ℕ) × ℕ)
four_stood = and_stood three_stood

-- what is said of a handle: of no limit, and of limits at once, by the variant that holds them, by what is said of
-- them, and by which of the words are theirs
abbrev pub of_held {ℓ} : {R : Type ℓ} → R → ((D W : Type 0) → (D → Held) → Stood D W → (Words → W) → D → R) → Held → R
of_held none some Unlimited = none
of_held none some (One d) = some _ _ One any_stood (λ w. w.first) d
of_held none some (Two d) = some _ _ Two two_stood (λ w. (w.first, w.second)) d
of_held none some (Three d) = some _ _ Three three_stood (λ w. ((w.first, w.second), w.third)) d
of_held none some (Four d) = some _ _ Four four_stood (λ w. (((w.first, w.second), w.third), w.fourth)) d

abbrev pub HeldTells : Held → Told → ℕ → Answer → Held → Type 0
HeldTells u told random r v =
    of_held ((r ≡ Ok tt) × (v ≡ u)) (λ D W holds s at d. Same holds v (s.asked.tells d told random r)) u

abbrev pub held_part : Held → Held
held_part u = of_held u (λ D W holds s at d. holds (s.asked.part d)) u

abbrev pub held_left : Held → Held
held_left u = of_held u (λ D W holds s at d. holds (s.asked.left d)) u

abbrev pub HeldUnsplit : Held → SplitFault → Held → Type 0
HeldUnsplit u why v = of_held ⊥ (λ D W holds s at d. Same holds v (s.asked.unsplit d why)) u

abbrev pub held_asked : Asked Held
held_asked = record { tells = HeldTells; part = held_part; left = held_left; unsplit = HeldUnsplit }

-- a new limit with these terms and this word, which no request has asked
abbrev pub IsNew : {M : Type 0} → M → ℕ → OfLimit M → Type 0
IsNew terms word d = (d.limit.machine ≡ terms) × (d.pass.has ≡ first_view word) × (d.request ≡ nothing)

abbrev pub IsBucket : Bucket → AnyLimit → Type 0
IsBucket terms (any.Bucket d) = IsNew terms terms.capacity d
IsBucket terms l = ⊥

abbrev pub IsFlight : InFlight → AnyLimit → Type 0
IsFlight terms (any.InFlight d) = IsNew terms 0 d
IsFlight terms l = ⊥

abbrev pub IsAdaptive : Adaptive → AnyLimit → Type 0
IsAdaptive terms (any.Adaptive d) = IsNew terms (adaptive_first terms) d
IsAdaptive terms l = ⊥

abbrev pub IsBreaker : Breaker → AnyLimit → Type 0
IsBreaker terms (any.Breaker d) = IsNew terms 0 d
IsBreaker terms l = ⊥

abbrev pub IsThrottle : Throttle → AnyLimit → Type 0
IsThrottle terms (any.Throttle d) =
    (d.throttle ≡ terms) × (d.even.has ≡ first_view 0) × (d.odd.has ≡ first_view 0) × (d.counted ≡ false)
IsThrottle terms l = ⊥

-- what is made is a new limit; or there was no memory
abbrev pub Makes : (AnyLimit → Type 0) → Result (Box Held Global) Status → Type 0
Makes P (Ok b) = (l : AnyLimit) × (b.value ≡ One l) × P l
Makes P (Err s) = s ≡ NoMemory

abbrev pub MakesBucket : Bucket → Result (Box Held Global) Status → Type 0
MakesBucket terms r = (AreTerms terms × Makes (IsBucket terms) r) ⊎ ((¬ AreTerms terms) × (r ≡ Err OutOfRange))

-- a part is split off, in a block of its own; or there is no memory, for a part or for its block; or a pass has one
-- part
abbrev pub SplitsHeld : Held → Result (Box Held Global) Status → Held → Type 0
SplitsHeld u (Ok b) v = (b.value ≡ held_part u) × (v ≡ held_left u)
SplitsHeld u (Err s) v = ((s ≡ NoMemory) × ((v ≡ held_left u) ⊎ HeldUnsplit u fault.NoMemory v))
    ⊎ ((s ≡ TooManyPasses) × HeldUnsplit u fault.TooManyPasses v)

-- how many limits it is
abbrev pub count : Held → ℕ
count Unlimited = 0
count (One a) = 1
count (Two p) = 2
count (Three t) = 3
count (Four f) = 4

-- these limits and one more, which is asked last. Four are not joined with more.
abbrev pub and_one : Held → AnyLimit → Held
and_one Unlimited l = One l
and_one (One a) l = Two (record { first = a; second = l })
and_one (Two p) l = Three (record { first = p; second = l })
and_one (Three t) l = Four (record { first = t; second = l })
and_one (Four f) l = Four f

-- these limits and two more, or three, or four, which are asked after them in their order
abbrev pub and_two : Held → AtTwo → Held
and_two u two = and_one (and_one u two.first) two.second

abbrev pub and_three : Held → AtThree → Held
and_three u three = and_one (and_two u three.first) three.second

abbrev pub and_four : Held → AtFour → Held
and_four u four = and_one (and_three u four.first) four.second

abbrev pub joined : Held → Held → Held
joined u Unlimited = u
joined u (One last) = and_one u last
joined u (Two two) = and_two u two
joined u (Three three) = and_three u three
joined u (Four four) = and_four u four
