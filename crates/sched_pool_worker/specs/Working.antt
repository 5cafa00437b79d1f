-- What a worker works with, what it notes of its jobs, and what it does to its share.
use Rattle.std.specs.Prelude.{◌≡◌, ℕ, ◌+◌, ◌-◌, ◌≤◌, true, List, [], ◌∷◌, ◌++◌, length, drop, Option, is_some}
use Rattle.std.specs.Prelude.{Vec, vec_len, if◌then◌else◌}
use Rattle.sched_ticket.specs.Lists.{IsSame}
use Rattle.sched_pool_claim.specs.Portion.{Portion}
use Rattle.sched_task.specs.declared.endings.How.{How}

-- a worker may drive so many jobs at a time
abbrev pub IsHold : ℕ → Type 0
IsHold hold = (1 ≤ hold) × (hold ≤ 4096)

-- a worker's clock and generator, and how many jobs it drives at a time
pub record Post (C G : Type 0) : Type 0 where
  pub clock : C
  pub rng : G
  pub hold : ℕ

-- the number of a job, and what its lock showed last: how it ended, and the moment that it waits for
pub record Noted : Type 0 where
  pub number : ℕ
  pub over : Option How
  pub due : Option ℕ

-- after a poll it is still the same job, and what was seen over is left as it was
pub record IsPolledSeat (seat after : Noted) : Type 0 where
  pub number : after.number ≡ seat.number
  pub over : is_some seat.over ≡ true → after ≡ seat

-- the jobs
abbrev pub numbers : List Noted → List ℕ
numbers [] = []
numbers (seat ∷ seats) = seat.number ∷ numbers seats

-- the job where it was not seen over
abbrev pub open_number : Noted → List ℕ
open_number seat = if is_some seat.over then [] else seat.number ∷ []

-- the jobs that were not seen over
abbrev pub open_numbers : List Noted → List ℕ
open_numbers [] = []
open_numbers (seat ∷ seats) = open_number seat ++ open_numbers seats

-- the active jobs of a share that are still to be driven once the seats are gone, which have the first of them
abbrev pub left_active : {A : Type 0} → Vec Noted A → List ℕ → List ℕ
left_active seats active = open_numbers seats.items ++ drop (vec_len seats) active

-- A share goes on: it claims further jobs and closes some. No job is lost: the active and the claimed ones are active
-- or closed, each as often. A share that was answered None stays so.
pub record WentOn (share after : Portion) : Type 0 where
  pub claimed : List ℕ
  pub closed : List ℕ
  pub tickets : after.pass.has.tickets ≡ claimed ++ share.pass.has.tickets
  pub active : IsSame (closed ++ after.active) (claimed ++ share.active)
  pub refusals : length share.pass.has.refusals ≤ length after.pass.has.refusals

-- how many jobs a share has at most still to close
abbrev pub still_to_do : Portion → ℕ
still_to_do share = (share.pass.has.terms.limit - length share.pass.has.tickets) + length share.active
