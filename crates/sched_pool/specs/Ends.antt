-- A board that was taken back.
use Rattle.std.specs.Prelude.{◌≡◌, ℕ, ◌+◌, ◌<◌, ◌≤◌, Bool, true, false, List, [], ◌∷◌, ◌++◌, map, length, All}
use Rattle.std.specs.List.{list_any}
use Rattle.sched_ticket.specs.Lists.{total}
use Rattle.sched_ticket.specs.Steps.{IsSound}
use Rattle.sched_ticket.specs.Whole.{IsWhole}
use Rattle.sched_ticket.specs.Held.{Name, Held, IsOf}
use Rattle.sched_task_law.specs.Kind.{retry}
use Rattle.sched_task_law.specs.Past.{Past}
use Rattle.sched_task_law.specs.Law.{Law, is_refused}
use Rattle.sched_pool_job.specs.Jobs.{IsRefusedBy}

-- lists, one after the other
abbrev pub joined : List (List ℕ) → List ℕ
joined [] = []
joined (xs ∷ rest) = xs ++ joined rest

-- The ends of so many jobs, the pass that was handed in before, the pass for all of them, and how many tickets the jobs
-- were granted.
pub record IsEnd (budget : Name) (jobs : ℕ) (before : Held) (ends : List Past) (pass : Held) (granted : ℕ)
    : Type 0 where
  pub all : length ends ≡ jobs
  -- each job keeps the law of a retry
  pub laws : All (Law retry) ends
  pub of : IsOf budget pass
  pub sum : granted ≡ total (λ (v : Past). v.granted) ends
  -- the tickets that each job drew: as many as it was granted
  pub drawn : List (List ℕ)
  pub each : map length drawn ≡ map (λ (v : Past). v.granted) ends
  -- the pass has those handed in and these
  pub tickets : pass.has.tickets ≡ before.has.tickets ++ joined drawn
  -- each of them once, where passes were joined
  pub sound : 0 < jobs → IsSound pass.has
  -- the tickets never pass the limit, of a rising budget the greatest that the pass has found
  pub limited : budget.terms.rises ≡ false → length before.has.tickets + granted ≤ budget.terms.limit
  pub found : length before.has.tickets + granted ≤ pass.has.floor
  -- where the budget refused a job a ticket, the pass has a refusal
  pub refused : All (IsRefusedBy pass) ends

-- a job ended where the budget refused it a ticket
abbrev pub has_refused : List Past → Bool
has_refused ends = list_any (λ v. is_refused v.over) ends

-- What is true where a budget is closed with the pass of all jobs.
pub record Agrees (budget : Name) (before : Held) (ends : List Past) (pass : Held) (granted limit : ℕ) : Type 0 where
  -- the tickets are those handed in and those granted
  pub count : length pass.has.tickets ≡ length before.has.tickets + granted
  -- they are the limit where a job was refused and the budget was never raised
  pub full : has_refused ends ≡ true → limit ≡ budget.terms.limit → length pass.has.tickets ≡ limit

abbrev pub TotalsAgree : Type 0
TotalsAgree = (budget : Name) (jobs : ℕ) (before : Held) (ends : List Past) (pass : Held) (granted : ℕ) →
    IsEnd budget jobs before ends pass granted → (closed : IsWhole budget.terms pass.has) →
    Agrees budget before ends pass granted closed.limit
