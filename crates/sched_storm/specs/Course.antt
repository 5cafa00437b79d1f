-- What holds of a course between two events: some events are a beginning of the storm, and it stands as they leave it.
use Rattle.std.specs.Prelude.{◌≡◌, ◌≢◌, ℕ, ◌+◌, ◌<◌, ◌≤◌, Bool, nat_lt, if◌then◌else◌, List}
use Rattle.std.specs.Prelude.{[], ◌++◌, length, vec_len, Option, Some, None, slice_index_or}
use Rattle.std.specs.Global.{Global}
use Rattle.std_alloc.specs.declared.boxed.Box.{Box}
use Rattle.sched_plan.specs.Schedule.{Schedule}
use Rattle.sched_plan.specs.History.{last_moment}
use Rattle.sched_driver_stepper.specs.Standing.{Standing}
use Rattle.sched_storm_trace.specs.Trace.{Due, Event, Answer, NotAfter, IsBeginning}
use Rattle.sched_storm_report.specs.Moments.{is_call}
use Rattle.sched_storm_report.specs.Told.{AreTold}
use Rattle.sched_storm_report.specs.declared.moments.Moment.{Moment}
use Rattle.sched_storm_report.specs.declared.peer.Peer.{Peer}
use Rattle.sched_storm_limit.specs.States.{state_of}
use Rattle.sched_storm.specs.Parameters.{AreInRange, peer_of}
use Rattle.sched_storm.specs.Arrivals.{AreArrivals, all_requests, comes_at}
use Rattle.sched_storm.specs.Calls.{AreFew}
use Rattle.sched_storm.specs.Tickets.{asked_of, given_of}
use Rattle.sched_storm.specs.Populations.{population_of, storm_of}
use Rattle.sched_storm.specs.Clients.{client_at, plans_of, Meet}
use Rattle.sched_storm.specs.Reported.{told_on, reported}
use Rattle.sched_storm.specs.Drivers.{DriverStands, MayFail}
use Rattle.sched_storm.specs.Plays.{Stage, begins, retries, succeeds, fails, Shared, words_of, start_at, first}
use Rattle.sched_storm.specs.Plays.{playing, played}
use Rattle.sched_storm.specs.Turns.{kind_of, begins_call, turn_for, turn_if}
use Rattle.sched_storm.specs.Keys.{key_of, Holds}
use Rattle.sched_storm.specs.Storms.{calls_of, IsStorm}
use Rattle.sched_storm.specs.declared.turns.Kind.{Kind}
use Rattle.sched_storm.specs.declared.turns.Kind.TheVariants.{Begins, Retries, Succeeds, Fails}
use Rattle.sched_storm.specs.declared.turns.Turn.{Turn}
use Rattle.sched_storm.specs.declared.clients.Client.{Client}
use Rattle.sched_storm.specs.declared.course.Course.{Course}

abbrev pub shared_of : Course → Shared
shared_of c = record {
  arrivals = c.arrivals.now;
  busy = c.busy;
  calls = c.calls;
  words = words_of c.words;
  drawn = c.drawn;
  limit = state_of c.limit;
}

-- the clients whose request this is
abbrev pub client_of : Course → ℕ → Client
client_of c r = client_at (population_of c.storm r) c.clients

-- what becomes of a request of these clients where something is due of it
abbrev pub answer_to : Client → Course → ℕ → ℕ → Stage → Answer Stage Shared Moment
answer_to u c r t what = playing u.storm u.plan (shared_of c) r t what

-- whether a call of these clients begins where this is due
abbrev pub begins_now : Client → Course → Turn → Bool
begins_now u c turn = begins_call u.storm (shared_of c) turn.request turn.at turn.kind

-- the driver of a request, where it has one
abbrev pub slot_of : Course → ℕ → Option (Box Standing Global)
slot_of c r = slice_index_or c.drivers.slots.items r None

-- The request's driver stands for what is due of the request, and was given nothing after a moment.
abbrev pub Drives : Schedule → Option (Box Standing Global) → ℕ → Stage → Type 0
Drives plan slot t begins = DriverStands plan slot []
Drives plan slot t (retries h) = DriverStands plan slot h × (last_moment h ≤ t)
Drives plan slot t succeeds = Unit {0}
Drives plan slot t (fails failure h) = DriverStands plan slot h × (last_moment h ≤ t)

-- What a course needs for an event of a request at a moment.
pub record IsReady (c : Course) (t r : ℕ) : Type 0 where
  pub client : (client_of c r).storm ≡ storm_of c.storm r
  pub at : t ≤ c.storm.until
  pub near : c.storm.until ≤ 7200000
  pub number : r < 1048576
  pub begun : comes_at c.arrivals.now c.storm r ≤ t
  pub slots : vec_len c.drivers.slots ≡ c.requests
  pub requests : c.requests ≤ 1048576
  pub calls : c.calls ≤ 4294967296
  pub busy : AreFew c.busy
  pub asked : asked_of c.drawn ≤ 1048576
  pub given : given_of c.drawn ≤ 1099511627776
  pub told : c.reporter.tally.from ≤ t
  pub said : c.reporter.tally.said ≤ c.reporter.events
  pub events : c.reporter.events < 1099511627776

-- a call that is told of
abbrev pub calls_told : Moment → ℕ
calls_told m = if is_call m.what then 1 else 0

-- a report is told of what happened to a request
abbrev pub Tells : Course → Course → ℕ → Moment → Type 0
Tells old new r m = (peer : Peer) (ms : List Moment) → peer ≡ peer_of old.storm →
    AreTold peer ms old.reporter.tally →
    AreTold peer (ms ++ told_on old.storm old.reporter.of r m) new.reporter.tally

-- A course has answered what was due of a request at a moment so.
pub record HasAnswered (a : Answer Stage Shared Moment) (t r : ℕ) (old new : Course) (next : Option Turn) : Type 0 where
  pub next_is : next ≡ turn_if r a.next
  pub shared_is : shared_of new ≡ a.shared
  pub told : Tells old new r a.told
  pub drives : (d : Due Stage) → a.next ≡ Some d → Drives (client_of old r).plan (slot_of new r) d.at d.what
  pub later : (d : Due Stage) → a.next ≡ Some d → t ≤ d.at
  pub calls : new.calls ≡ old.calls + calls_told a.told

-- What an event of a request leaves as it was.
pub record Rests (t r : ℕ) (old new : Course) : Type 0 where
  pub storm : new.storm ≡ old.storm
  pub arrivals : new.arrivals.now ≡ old.arrivals.now
  pub clients : new.clients ≡ old.clients
  pub agenda : new.agenda ≡ old.agenda
  pub slots : vec_len new.drivers.slots ≡ new.requests
  pub others : (q : ℕ) → q ≢ r → slot_of new q ≡ slot_of old q
  pub busy : AreFew new.busy
  pub of : new.reporter.of ≡ old.reporter.of
  pub window : new.reporter.tally.window ≡ old.reporter.tally.window
  pub from : new.reporter.tally.from ≤ t
  pub said : new.reporter.tally.said ≤ new.reporter.events
  pub events : new.reporter.events ≡ old.reporter.events + 1

-- The request of a turn comes next where its first call is due, and came where anything else is.
abbrev pub IsPlacedAt : Kind → ℕ → ℕ → Type 0
IsPlacedAt Begins r requests = r ≡ requests
IsPlacedAt Retries r requests = r < requests
IsPlacedAt Succeeds r requests = r < requests
IsPlacedAt (Fails failure) r requests = r < requests

abbrev pub IsPlaced : Course → Turn → Type 0
IsPlaced c turn = IsPlacedAt turn.kind turn.request c.requests

-- the same of what is due, taken out or not: a request whose first call is due did not come yet
abbrev pub IsPlacedBy : Kind → ℕ → ℕ → Type 0
IsPlacedBy Begins r requests = requests ≤ r
IsPlacedBy Retries r requests = r < requests
IsPlacedBy Succeeds r requests = r < requests
IsPlacedBy (Fails failure) r requests = r < requests

-- where a call fails, its request's driver may be given the failure
abbrev pub IsDrivenAt : Kind → Course → ℕ → ℕ → Type 0
IsDrivenAt (Fails failure) c t r = MayFail (client_of c r).plan (slot_of c r) t
IsDrivenAt _ c t r = Unit {0}

abbrev pub IsDriven : Course → Turn → Type 0
IsDriven c turn = IsDrivenAt turn.kind c turn.at turn.request

-- how many requests come where this is due
abbrev pub came : Kind → ℕ
came Begins = 1
came _ = 0

-- a request that comes is counted
pub record AreCounted (requests : ℕ) (old new : Course) : Type 0 where
  pub requests_are : new.requests ≡ old.requests + requests
  pub comes : old.comes ≡ comes_at old.arrivals.now old.storm old.requests →
      new.comes ≡ comes_at old.arrivals.now old.storm new.requests

abbrev pub IsCounted : Kind → Course → Course → Type 0
IsCounted kind old new = AreCounted (came kind) old new

-- the keys of what is due of requests
abbrev pub key_if : ℕ → Option (Due Stage) → Option ℕ
key_if r None = None
key_if r (Some d) = Some (key_of (turn_for r d))

abbrev pub keys_of : (ℕ → Option (Due Stage)) → ℕ → Option ℕ
keys_of held r = key_if r (held r)

-- another request than that of the turn that is taken out of the agenda
abbrev pub IsOther : Option Turn → ℕ → Type 0
IsOther None r = Unit {0}
IsOther (Some turn) r = r ≢ turn.request

-- what is taken out of the agenda is due of its request
pub record IsTakenOut (requests : ℕ) (due held : ℕ → Option (Due Stage)) (turn : Turn) : Type 0 where
  pub call : Due Stage
  pub is_due : due turn.request ≡ Some call
  pub turn_is : turn ≡ turn_for turn.request call
  pub not_held : held turn.request ≡ None
  pub placed : IsPlacedAt turn.kind turn.request requests

abbrev pub IsOut : ℕ → (ℕ → Option (Due Stage)) → (ℕ → Option (Due Stage)) → Option Turn → Type 0
IsOut requests due held None = Unit {0}
IsOut requests due held (Some turn) = IsTakenOut requests due held turn

-- What is due of a request comes in its turn.
pub record IsNear (c : Course) (r : ℕ) (d : Due Stage) : Type 0 where
  pub by : d.at ≤ c.storm.until
  pub number : r < all_requests c.arrivals.now c.storm
  pub begun : comes_at c.arrivals.now c.storm r ≤ d.at
  pub placed : IsPlacedBy (kind_of d.what) r c.requests
  pub told : c.reporter.tally.from ≤ d.at
  pub drives : Drives (client_of c r).plan (slot_of c r) d.at d.what

-- A course that stands as some events leave it, which are a beginning of the storm. A turn may be taken out of its
-- agenda.
pub record Stands (c : Course) (hand : Option Turn) : Type 0 where
  pub events : List (Event Stage)
  pub due : ℕ → Option (Due Stage)
  pub held : ℕ → Option (Due Stage)
  pub begun : IsBeginning (played c.storm (plans_of c.clients)) (first c.arrivals.now c.storm)
      (start_at c.arrivals.now c.storm) events due
      (shared_of c)
  pub told : (peer : Peer) → peer ≡ peer_of c.storm →
      AreTold peer (reported c.storm (plans_of c.clients) c.reporter.of
      (start_at c.arrivals.now c.storm) events) c.reporter.tally
  pub clients : Meet c.storm c.clients
  pub holds : Holds c.agenda (keys_of held)
  pub out : IsOut c.requests due held hand
  pub others : (r : ℕ) → IsOther hand r → due r ≡ (if nat_lt r c.requests then held r else first c.arrivals.now
      c.storm r)
  pub unheld : (r : ℕ) → c.requests ≤ r → held r ≡ None
  pub near : (r : ℕ) (d : Due Stage) → due r ≡ Some d → IsNear c r d
  pub in_range : AreInRange c.storm
  pub moments : AreArrivals c.arrivals.now
  pub comes : c.comes ≡ comes_at c.arrivals.now c.storm c.requests
  pub requests : c.requests ≤ all_requests c.arrivals.now c.storm
  pub slots : vec_len c.drivers.slots ≡ c.requests
  pub calls : c.calls ≡ calls_of c.arrivals.now c.storm (plans_of c.clients) events
  pub few_calls : c.calls ≤ c.storm.calls
  pub busy : AreFew c.busy
  pub asked : asked_of c.drawn ≤ c.requests
  pub given : given_of c.drawn ≤ length events
  pub said : c.reporter.tally.said ≤ c.reporter.events
  pub number : c.reporter.events ≡ length events
  pub window : c.reporter.tally.window ≡ c.storm.window

-- no request's turn comes before this
abbrev pub IsLeast : (ℕ → Option (Due Stage)) → ℕ → ℕ → Type 0
IsLeast due t q = (r : ℕ) (d : Due Stage) → due r ≡ Some d → NotAfter t q d.at r

abbrev pub IsFirstOf : (ℕ → Option (Due Stage)) → Option Turn → Type 0
IsFirstOf due None = (r : ℕ) → due r ≡ None
IsFirstOf due (Some turn) = IsLeast due turn.at turn.request

-- the turn that is taken out is what is least due, or nothing is due
pub record StandsFirst (c : Course) (hand : Option Turn) : Type 0 where
  pub stands : Stands c hand
  pub first_is : IsFirstOf stands.due hand

-- the turn that is taken out, if one is, is of this request, which came
abbrev pub IsTurnOf : ℕ → ℕ → Option Turn → Type 0
IsTurnOf q requests None = Unit {0}
IsTurnOf q requests (Some turn) = (turn.request ≡ q) × (q < requests)

-- After an event of a request nothing is due before it, and what is due of this request is taken out.
pub record StandsAfter (t q : ℕ) (c : Course) (hand : Option Turn) : Type 0 where
  pub stands : Stands c hand
  pub later : IsLeast stands.due t q
  pub turn_is : IsTurnOf q c.requests hand

-- The course is over: its events are a storm, or its beginning where it was cut.
pub record IsOver (c : Course) (is_cut : Bool) : Type 0 where
  pub events : List (Event Stage)
  pub is_storm : IsStorm c.arrivals.now c.storm (plans_of c.clients) is_cut events
  pub told : (peer : Peer) → peer ≡ peer_of c.storm →
      AreTold peer (reported c.storm (plans_of c.clients) c.reporter.of
      (start_at c.arrivals.now c.storm) events) c.reporter.tally
  pub in_range : AreInRange c.storm
  pub said : c.reporter.tally.said ≤ 1099511627776
  pub window : c.reporter.tally.window ≡ c.storm.window
