-- Each request holds what it held.
use Rattle.std.proofs.Common.{◌≡◌, ℕ, ◌+◌, ◌-◌, get_or, vec_len}
use Rattle.sched_limit.specs.Step.{nothing}
use Rattle.sched_storm_limit.proofs.stand.Stand.hold.Given as goal

abbrev pub invariant-loop-self : goal.invariant-loop-self
invariant-loop-self l = record {
  words : l.self.words ≡ l.fn.self.words;
  holds : (q : ℕ) → get_or l.self.holds.items q nothing ≡ get_or l.fn.self.holds.items q nothing;
}

abbrev pub decreases-loop-self : goal.decreases-loop-self
decreases-loop-self l = l.request + 1 - vec_len l.self.holds
