-- The breaker as a sequential machine.
use Rattle.std.specs.Prelude.{ℕ, ◌+◌, ◌-◌, ◌*◌, ◌%◌, ◌^◌, ◌==◌, ◌&&◌, ◌||◌, not, min, Bool, if◌then◌else◌, nat_lt}
use Rattle.std.specs.Prelude.{slice_index, count_ones, Option, Some, None}
use Rattle.sched_limit_word.specs.declared.call.Call.{Call}
use Rattle.sched_limit_word.specs.declared.call.Call.TheVariants.{Admit, Draw, Failed, Succeeded, Ended, Returned}
use Rattle.sched_limit_word.specs.declared.call.Call.TheVariants.{Closed, OpenedByHand, ClosedByHand}
use Rattle.sched_limit.specs.Word.{generation_of, count_of, won_of, admitted_of, at_of, trip_of, closed, tripped}
use Rattle.sched_limit.specs.Word.{stamp_of}
use Rattle.sched_limit.specs.declared.refusal.Refusal.{Refusal}
use Rattle.sched_limit.specs.declared.refusal.Refusal.TheVariants.{Open, Probing}
use Rattle.sched_limit.specs.declared.breaker.Breaker.{Breaker}

-- a moment on the breaker's clock, which begins at its start and stands still at its end
abbrev pub since_start : Breaker → ℕ → ℕ
since_start b now = min (now - b.start) 137438953471

-- how long it is open at this trip: past the last open time, that one holds
abbrev pub open_for : Breaker → ℕ → ℕ
open_for b trip = slice_index b.times (min trip b.last)

-- half open with one probe, in a new generation
abbrev pub begins : ℕ → ℕ → ℕ
begins at word = tripped ((generation_of word + 1) % 4096) (trip_of word) at 1 0

-- half open with one probe more
abbrev pub joins : ℕ → ℕ → ℕ
joins at word = tripped (generation_of word) (trip_of word) at (admitted_of word + 1) (won_of word)

-- open for the time of this trip
abbrev pub opens : Breaker → ℕ → ℕ → ℕ → ℕ
opens b at trip word = tripped (generation_of word) trip (min (at + open_for b trip) 137438953471) 0 0

-- a tripped breaker is open, and will be after this moment
abbrev pub is_open : ℕ → ℕ → Bool
is_open at word = (admitted_of word == 0) && nat_lt at (at_of word)

-- it has all its probes out, and their deadline is to come
abbrev pub is_out : Breaker → ℕ → ℕ → Bool
is_out b at word = not (nat_lt (admitted_of word) b.probes) && nat_lt at (at_of word + b.deadline)

-- it is not yet one that admits
abbrev pub waits : Breaker → ℕ → ℕ → Bool
waits b at word = is_open at word || is_out b at word

-- it is half open, and has probes left
abbrev pub has_room : Breaker → ℕ → Bool
has_room b word = nat_lt 0 (admitted_of word) && nat_lt (admitted_of word) b.probes

-- one more is a probe
abbrev pub probes_in : Breaker → ℕ → ℕ → ℕ
probes_in b at word = if has_room b word then joins at word else begins at word

abbrev pub probed : Breaker → ℕ → ℕ → ℕ
probed b at word = if waits b at word then word else probes_in b at word

-- one asks to be admitted
abbrev pub asked : Breaker → ℕ → ℕ → ℕ
asked b at word = if word % 2 == 1 then probed b at word else word

-- what a closed breaker keeps after one more failure, and after one more success: its failures in a row, or its last
-- results as bits, the latest the lowest, of which a failure is 1
abbrev pub and_failure : Breaker → ℕ → ℕ
and_failure b kept = if b.results == 0 then kept + 1 else (2 * kept + 1) % 2 ^ b.results

abbrev pub and_success : Breaker → ℕ → ℕ
and_success b kept = if b.results == 0 then 0 else 2 * kept % 2 ^ b.results

-- how many failures these are
abbrev pub failures_kept : Breaker → ℕ → ℕ
failures_kept b kept = if b.results == 0 then kept else count_ones kept

abbrev pub failed_closed : Breaker → ℕ → ℕ → ℕ
failed_closed b at word =
    let kept = and_failure b (count_of word) in
    if nat_lt (failures_kept b kept) b.failures then closed (generation_of word) kept else opens b at 0 word

-- of an open breaker there is no run
abbrev pub failed_tripped : Breaker → ℕ → ℕ → ℕ
failed_tripped b at word = if admitted_of word == 0 then word else opens b at (min (trip_of word + 1) 63) word

-- a run of this generation failed
abbrev pub failed : Breaker → ℕ → ℕ → ℕ
failed b at word = if word % 2 == 1 then failed_tripped b at word else failed_closed b at word

abbrev pub won : Breaker → ℕ → ℕ
won b word =
    if nat_lt (won_of word + 1) b.probes
    then tripped (generation_of word) (trip_of word) (at_of word) (admitted_of word) (won_of word + 1)
    else closed (generation_of word) 0

abbrev pub succeeded_tripped : Breaker → ℕ → ℕ
succeeded_tripped b word = if admitted_of word == 0 then word else won b word

-- a run of this generation succeeded
abbrev pub succeeded : Breaker → ℕ → ℕ
succeeded b word =
    if word % 2 == 1
    then succeeded_tripped b word
    else closed (generation_of word) (and_success b (count_of word))

-- by hand: open until this moment of its clock, for the first time, and closed with nothing kept, each in a new
-- generation
abbrev pub next_generation : ℕ → ℕ
next_generation word = (generation_of word + 1) % 4096

abbrev pub opened_by_hand : ℕ → ℕ → ℕ
opened_by_hand until word = tripped (next_generation word) 0 until 0 0

abbrev pub closed_by_hand : ℕ → ℕ
closed_by_hand word = closed (next_generation word) 0

abbrev pub breaker_next : Breaker → Call → ℕ → ℕ
breaker_next b (Admit now random before) word = asked b (since_start b now) word
breaker_next b (Draw now cost slots) word = asked b (since_start b now) word
breaker_next b (Failed now generation) word =
    if generation == stamp_of word then failed b (since_start b now) word else word
breaker_next b (Succeeded now generation worth) word = if generation == stamp_of word then succeeded b word else word
breaker_next b (Ended slots) word = word
breaker_next b (Returned cost slots) word = word
breaker_next b (Closed now) word = word
breaker_next b (OpenedByHand now until) word = opened_by_hand (since_start b until) word
breaker_next b (ClosedByHand now) word = closed_by_hand word

abbrev pub refused_tripped : Breaker → ℕ → ℕ → Option Refusal
refused_tripped b at word =
    if is_open at word then Some (Open (min (b.start + at_of word) 4611686018427387903))
    else (if is_out b at word then Some Probing else None)

abbrev pub refused : Breaker → ℕ → ℕ → Option Refusal
refused b at word = if word % 2 == 1 then refused_tripped b at word else None

abbrev pub breaker_refusal : Breaker → Call → ℕ → Option Refusal
breaker_refusal b (Admit now random before) word = refused b (since_start b now) word
breaker_refusal b (Draw now cost slots) word = refused b (since_start b now) word
breaker_refusal b (Failed now generation) word = None
breaker_refusal b (Succeeded now generation worth) word = None
breaker_refusal b (Ended slots) word = None
breaker_refusal b (Returned cost slots) word = None
breaker_refusal b (Closed now) word = None
breaker_refusal b (OpenedByHand now until) word = None
breaker_refusal b (ClosedByHand now) word = None
