-- What the populations of a storm draw on, and that each meets the same peer.
use Rattle.std.proofs.Common.{◌≡◌, ℕ, zero, suc, Bool, true, false, cond, ◌⊎◌, inl, inr, refl}
use Rattle.sched_storm_limit.specs.declared.draws.Draws.{Draws}
use Rattle.sched_storm_limit.specs.declared.draws.Draws.TheVariants.{Nothing}
use Rattle.sched_storm.specs.Populations.{draws_of, AllDraw}
use Rattle.sched_storm.specs.declared.parameters.Parameters.{Parameters}

-- a population draws on what the storm has, or on nothing; where all draw, on what the storm has
pub record DrawsOn (p : Parameters) (x : Draws) : Type 0 where
  pub either : (x ≡ p.draws) ⊎ (x ≡ Nothing)
  pub all : AllDraw p → x ≡ p.draws

either_if : (draws : Draws) (b : Bool) → (cond b draws Nothing ≡ draws) ⊎ (cond b draws Nothing ≡ Nothing)
either_if draws true = inl refl
either_if draws false = inr refl

either : (p : Parameters) (u : ℕ) → (draws_of p u ≡ p.draws) ⊎ (draws_of p u ≡ Nothing)
either p zero = inl refl
either p (suc zero) = either_if p.draws p.others.second.is_limited
either p (suc (suc zero)) = either_if p.draws p.others.third.is_limited
either p (suc (suc (suc u))) = either_if p.draws p.others.fourth.is_limited

pub draws_on : (p : Parameters) (u : ℕ) → DrawsOn p (draws_of p u)
draws_on p u = record { either = either p u; all = λ all. all u }
