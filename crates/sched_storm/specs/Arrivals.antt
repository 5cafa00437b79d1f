-- When requests come: at moments that are given, one for each request; or, where none is given, by the rates.
use Rattle.std.specs.Prelude.{ℕ, ◌≤◌, ◌==◌, if◌then◌else◌, List, [], ◌∷◌, length, slice_index_or}
use Rattle.sched_storm.specs.Parameters.{requests_by_rate, comes_by_rate}
use Rattle.sched_storm.specs.declared.parameters.Parameters.{Parameters}

-- from this moment on they do not fall, and none lies after the last that may be played
abbrev pub AreRising : ℕ → List ℕ → Type 0
AreRising from [] = Unit {0}
AreRising from (m ∷ ms) = (from ≤ m) × (m ≤ 7200000) × AreRising m ms

-- moments at which requests may come
pub record AreArrivals (ms : List ℕ) : Type 0 where
  pub few : length ms ≤ 1048576
  pub rise : AreRising 0 ms

-- how many requests come in all, where `until` allows: one at each moment that is given
abbrev pub all_requests : List ℕ → Parameters → ℕ
all_requests ms p = if length ms == 0 then requests_by_rate p else length ms

-- the moment at which a request, counted from 0, begins its first call: the moment of the same place in the list
abbrev pub comes_at : List ℕ → Parameters → ℕ → ℕ
comes_at ms p r = if length ms == 0 then comes_by_rate p r else slice_index_or ms r 0
