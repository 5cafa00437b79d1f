-- Two limits at once: both admit, or neither is charged.
use Rattle.std.specs.Prelude.{◌≡◌, ◌⊎◌, ℕ, Option, Some, None, Ok, Err}
use Rattle.sched_limit.specs.Step.{Answer}
use Rattle.sched_limit.specs.declared.refusal.Refusal.{Refusal}
use Rattle.sched_limit.specs.declared.request.Told.{Told}
use Rattle.sched_limit.specs.declared.request.Told.TheVariants.{Admit, Draw, Cancelled, Ended}
use Rattle.sched_limit_request.specs.Asks.{Asked}
use Rattle.sched_limit_request.specs.declared.both.Both.{Both}
use Rattle.sched_limit_request.specs.declared.fault.SplitFault.{SplitFault}

-- what takes back what was asked and granted, if anything is to be: an admission ends, and a draw is cancelled
abbrev pub undo_of : Told → Option Told
undo_of (Admit now) = Some Ended
undo_of (Draw now cost) = Some Cancelled
undo_of _ = None

module _ {A B : Type 0} (a : Asked A) (b : Asked B) where
  -- the second one refused what the first one granted, and the first one took that back
  pub record Undone (d : Both A B) (told undo : Told) (random : ℕ) (why : Refusal) (e : Both A B) : Type 0 where
    pub first : A
    pub back : Answer
    pub grants : a.tells d.first told random (Ok tt) first
    pub undoes : a.tells first undo 0 back e.first
    pub refuses : b.tells d.second told random (Err why) e.second

  -- both grant it; or the first one refuses, and the second is as it was; or the second one refuses
  abbrev pub BothAsk : Both A B → Told → Told → ℕ → Answer → Both A B → Type 0
  BothAsk d told undo random (Ok x) e =
      a.tells d.first told random (Ok x) e.first × b.tells d.second told random (Ok x) e.second
  BothAsk d told undo random (Err why) e =
      (a.tells d.first told random (Err why) e.first × (e.second ≡ d.second)) ⊎ Undone d told undo random why e

  -- what takes nothing back is told to both
  abbrev pub BothTell : Option Told → Both A B → Told → ℕ → Answer → Both A B → Type 0
  BothTell None d told random answer e =
      (x : Answer) × a.tells d.first told random x e.first × b.tells d.second told random answer e.second
  BothTell (Some undo) d told random answer e = BothAsk d told undo random answer e

  -- the first one is not split, and the second is as it was; or the first one has given a part away, and the second is
  -- not split
  abbrev pub BothUnsplit : Both A B → SplitFault → Both A B → Type 0
  BothUnsplit d why e = (a.unsplit d.first why e.first × (e.second ≡ d.second))
      ⊎ ((e.first ≡ a.left d.first) × b.unsplit d.second why e.second)

  abbrev pub both_asked : Asked (Both A B)
  both_asked = record {
    tells = λ d told random answer e. BothTell (undo_of told) d told random answer e;
    part = λ d. record { first = a.part d.first; second = b.part d.second };
    left = λ d. record { first = a.left d.first; second = b.left d.second };
    unsplit = BothUnsplit;
  }
