-- What holds of a pace. Each law is the contract of a function of the module `laws`.
use Rattle.std.specs.Prelude.{◌≡◌, ℕ, ◌+◌, ◌*◌, ◌<◌, ◌≤◌, ◌↔◌, true}
use Rattle.atomic_table.specs.Table.{State}
use Rattle.sched_limit_word.specs.Laws.{word_of}
use Rattle.sched_limit_word.specs.Rule.{IsKept, moves_of}
use Rattle.sched_limit_word.specs.Tokens.{IsOwned}
use Rattle.sched_limit_word.specs.declared.call.Call.{Call}
use Rattle.sched_limit_word.specs.declared.call.Call.TheVariants.{Draw}
use Rattle.sched_limit_word.specs.declared.view.Move.{Move}
use Rattle.sched_limit_word.specs.declared.view.View.{View}
use Rattle.sched_pace.specs.Pace.{clock, is_cost, due_after, took, pace_next}
use Rattle.sched_pace.specs.Starts.{AreFew, most_in, taken_in, cost_returned}
use Rattle.sched_pace.specs.Tokens.{pace_tokens}
use Rattle.sched_pace.specs.declared.pace.Pace.{Pace}
use Rattle.sched_pace.specs.declared.taken.Taken.TheVariants.{Granted, TooSoon}

-- ---- between any two atomic steps, for any number of passes, whatever their clocks say

-- of the takes that were granted and not given back, those that begin in any l milliseconds have at most this cost
abbrev pub StartsAreFewer : Type 0
StartsAreFewer = (p : Pace) (s : State Call View) (owned : IsOwned (pace_tokens p) (pace_next p) 0 s) →
    AreFew p owned.kept.run

-- of all passes: what was granted that begins in any l milliseconds has at most this cost, and that of what came back
abbrev pub StartsOfAllAreFewer : Type 0
StartsOfAllAreFewer = (p : Pace) (s : State Call View) → IsOwned (pace_tokens p) (pace_next p) 0 s → (m l : ℕ) →
    moves_of (λ (n : Move). taken_in p m l n.call n.found n.left) s.views
    ≤ most_in p l + moves_of (λ (n : Move). cost_returned n.call n.found n.left) s.views

-- the word has at most 62 bits
abbrev pub DueIsSmall : Type 0
DueIsSmall = (p : Pace) (s : State Call View) → IsKept (pace_next p) 0 s → word_of s < 4611686018427387904

-- ---- of one take

-- it may begin at once where the rate and the burst allow it, and nowhere else
abbrev pub IsGrantedAtOnce : Type 0
IsGrantedAtOnce = (p : Pace) (now cost due : ℕ) → is_cost p cost ≡ true →
    (due + cost * p.each ≤ 1000 * clock now + p.burst * p.each
    ↔ took p now cost due ≡ Granted (clock now) (due_after p now cost due))

-- one that is refused is told a later moment. At that one it would be granted, to begin when the longest wait is over;
-- and at each earlier one it is refused, and told the same.
pub record WouldBeGranted (p : Pace) (now cost due again : ℕ) : Type 0 where
  pub later : clock now < again
  pub granted : took p again cost due ≡ Granted (again + p.longest) (due_after p again cost due)
  pub refused : (before : ℕ) → before < again → took p before cost due ≡ TooSoon again

abbrev pub IsGrantedWhenTold : Type 0
IsGrantedWhenTold = (p : Pace) (now cost due again : ℕ) → took p now cost due ≡ TooSoon again →
    again ≤ 2251799813685247 → WouldBeGranted p now cost due again

-- one that is granted begins at the first moment, from now on, at which the rate and the burst allow it
abbrev pub StartIsTheFirst : Type 0
StartIsTheFirst = (p : Pace) (now cost due at mark m : ℕ) → took p now cost due ≡ Granted at mark → clock now ≤ m →
    (at ≤ m ↔ due + cost * p.each ≤ 1000 * m + p.burst * p.each)

-- no call waits longer than the longest wait
abbrev pub WaitsAreShort : Type 0
WaitsAreShort = (p : Pace) (now cost due at mark : ℕ) → took p now cost due ≡ Granted at mark →
    (clock now ≤ at) × (at ≤ clock now + p.longest)

-- what is told is done: a granted take leaves its mark, past what it found, and one that is refused changes nothing
abbrev pub GrantIsDone : Type 0
GrantIsDone = (p : Pace) (now cost due at mark slots : ℕ) → took p now cost due ≡ Granted at mark →
    (pace_next p (Draw now cost slots) due ≡ mark) × (due < mark)

abbrev pub RefusalIsDone : Type 0
RefusalIsDone = (p : Pace) (now cost due again slots : ℕ) → took p now cost due ≡ TooSoon again →
    pace_next p (Draw now cost slots) due ≡ due
