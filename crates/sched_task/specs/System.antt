-- What a clock by a source of time tells.
use Rattle.std.specs.Prelude.{◌≡◌, ℕ, ◌-◌, ◌/◌, ◌<◌, ◌≤◌, max, Option, Some, None, Result, Ok, Err, ◌⊎◌}
use Rattle.std.specs.declared.time.Instant.{Instant}
use Rattle.std.specs.Time.{instant_nanos}
use Rattle.sched_time.specs.Capped.{capped}

-- a source of time, the instant that it read when the clock was made, and the moment told last
pub record Counting (S : Type 0) : Type 0 where
  pub source : S
  pub start : Instant
  pub last : ℕ

-- the nanoseconds of a reading, or none where it failed
abbrev pub reading_of : {E : Type 0} → Result Instant E → Option ℕ
reading_of (Ok instant) = Some (instant_nanos instant)
reading_of (Err fault) = None

-- the moment told after a reading: that of the reading, and never one before the last; the last one where it failed
abbrev pub moment_of : Instant → ℕ → Option ℕ → ℕ
moment_of start last None = last
moment_of start last (Some nanos) = max last (capped ((nanos - instant_nanos start) / 1000000))

module _ {S : Type 0} (reads : S → Option ℕ → S → Type 0) where
  -- the clock tells the moment of one reading of its source
  pub record Told (clock : Counting S) (moment : ℕ) (after : Counting S) : Type 0 where
    pub reading : Option ℕ
    pub read : reads clock.source reading after.source
    pub told : moment ≡ moment_of clock.start clock.last reading
    pub kept : after ≡ record clock { source = after.source; last = moment }

  -- The clock reads its source; where the moment waited for is later, it sleeps for as long as it is away, and tells
  -- the moment of one more reading.
  pub record Waited (sleeps : S → ℕ → S → Type 0) (clock : Counting S) (until moment : ℕ) (after : Counting S)
      : Type 0 where
    pub first : ℕ
    pub early : Counting S
    pub read : Told clock first early
    pub woke : ((until ≤ first) × (moment ≡ first) × (after ≡ early))
        ⊎ ((first < until) × ((woken : S) × sleeps early.source (until - first) woken
        × Told (record early { source = woken }) moment after))
