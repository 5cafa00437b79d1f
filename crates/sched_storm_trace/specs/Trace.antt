-- Traces: the events of many requests on one clock, each answered by what the requests share.
use Rattle.std.specs.Prelude.{◌≡◌, ℕ, ◌≤◌, Bool, nat_eq, if◌then◌else◌, List, [], ◌∷◌, ◌++◌, Option, Some}
use Rattle.std.specs.List.{filter}

-- what is due of a request, and when
pub record Due (T : Type 0) : Type 0 where
  pub at : ℕ
  pub what : T

-- an event: what was due of a request, and what is due of it from then on
pub record Event (T : Type 0) : Type 0 where
  pub request : ℕ
  pub due : Due T
  pub next : Option (Due T)

-- what becomes of a request where something is due of it: what is due of it next, what the requests share from then on,
-- and what is told of the event
pub record Answer (T S M : Type 0) : Type 0 where
  pub next : Option (Due T)
  pub shared : S
  pub told : M

-- what is due of one request is this now
abbrev pub updated : {T : Type 0} → (ℕ → Option T) → ℕ → Option T → ℕ → Option T
updated due r now q = if nat_eq r q then now else due q

abbrev pub is_of : {T : Type 0} → ℕ → Event T → Bool
is_of r e = nat_eq e.request r

-- the events of one request follow from each other
abbrev pub Follow : {T : Type 0} → Option (Due T) → List (Event T) → Option (Due T) → Type 0
Follow due [] last = due ≡ last
Follow due (e ∷ es) last = (due ≡ Some e.due) × Follow e.next es last

-- by moment, and at one moment by the number of the request
pub record NotAfter (m r n q : ℕ) : Type 0 where
  pub moment : m ≤ n
  pub number : m ≡ n → r ≤ q

-- the event comes after none of these
abbrev pub IsFirst : {T : Type 0} → Event T → List (Event T) → Type 0
IsFirst e [] = Unit {0}
IsFirst e (f ∷ fs) = NotAfter e.due.at e.request f.due.at f.request × IsFirst e fs

abbrev pub Ascend : {T : Type 0} → List (Event T) → Type 0
Ascend [] = Unit {0}
Ascend (e ∷ es) = IsFirst e es × Ascend es

-- none of these comes after what is due of a request at a moment
abbrev pub AreBy : {T : Type 0} → ℕ → ℕ → List (Event T) → Type 0
AreBy m r [] = Unit {0}
AreBy m r (e ∷ es) = NotAfter e.due.at e.request m r × AreBy m r es

-- each event is answered by what the requests share at its turn
abbrev pub AreAnswered : {T S M : Type 0} → (S → ℕ → Due T → Answer T S M) → S → List (Event T) → S → Type 0
AreAnswered answer s [] last = s ≡ last
AreAnswered answer s (e ∷ es) last =
    (e.next ≡ (answer s e.request e.due).next) × AreAnswered answer (answer s e.request e.due).shared es last

-- what is told of the events
abbrev pub told_by : {T S M : Type 0} → (S → ℕ → Due T → Answer T S M) → S → List (Event T) → List M
told_by answer s [] = []
told_by answer s (e ∷ es) = (answer s e.request e.due).told ∷ told_by answer (answer s e.request e.due).shared es

-- Events are a beginning of the trace: at first this was due of each request, and now that is due of it.
pub record IsBeginning {T S M : Type 0} (answer : S → ℕ → Due T → Answer T S M) (first : ℕ → Option (Due T)) (start : S)
    (events : List (Event T)) (due : ℕ → Option (Due T)) (last : S) : Type 0 where
  pub in_order : Ascend events
  pub each_request : (r : ℕ) → Follow (first r) (filter (is_of r) events) (due r)
  pub answers : AreAnswered answer start events last
  pub none_after : (r : ℕ) (d : Due T) → due r ≡ Some d → AreBy d.at r events

-- some events more continue a beginning
pub record Continues {T S M : Type 0} (answer : S → ℕ → Due T → Answer T S M) (due : ℕ → Option (Due T)) (last : S)
    (events longer : List (Event T)) (later : ℕ → Option (Due T)) (end : S) : Type 0 where
  pub rest : List (Event T)
  pub are : longer ≡ events ++ rest
  pub begins : IsBeginning answer due last rest later end
