-- What contracts see of a share of jobs, and what each call does to it.
use Rattle.std.specs.Prelude.{◌≡◌, ℕ, ◌<◌, ◌≤◌, false, List, [], ◌∷◌, ◌++◌, length, Option, Some, None, All}
use Rattle.sched_ticket.specs.Lists.{total, times}
use Rattle.sched_ticket.specs.Held.{Name, Held, IsOf}
use Rattle.sched_ticket.specs.Calls.{Drew, DrawRefused}

-- a share's pass, whose tickets are the jobs that it claimed, and those of them that are active, in the order claimed
pub record Portion : Type 0 where
  pub pass : Held
  pub active : List ℕ

-- what is true of every share
pub record IsPortion (pass : Held) (active : List ℕ) (room : ℕ) : Type 0 where
  -- it claimed no job twice
  pub once : (job : ℕ) → times job pass.has.tickets ≤ 1
  -- the active jobs are claimed ones, each as often at most
  pub claimed : (h : ℕ → ℕ) → total h active ≤ total h pass.has.tickets
  pub below : All (λ job. job < pass.has.terms.limit) active
  -- there is room for all jobs
  pub room_is : pass.has.terms.limit ≤ room
  pub fixed : pass.has.terms.rises ≡ false

-- the share is one of these claims
abbrev pub IsPartOf : Name → Portion → Type 0
IsPartOf claims share = IsOf claims share.pass

-- the jobs were shared out, and the share is one of them
abbrev pub IsShareOf : Option Name → Portion → Type 0
IsShareOf None share = ⊥
IsShareOf (Some claims) share = IsPartOf claims share

-- the pass is of this budget, and nothing was drawn with it
abbrev pub IsUnused : Name → Held → Type 0
IsUnused budget pass = IsOf budget pass × (pass.has.tickets ≡ []) × (pass.has.refusals ≡ [])

-- the share is one of these claims, and nothing was claimed with it
abbrev pub IsNewOf : Name → Portion → Type 0
IsNewOf claims share = IsUnused claims share.pass × (share.active ≡ [])

-- a claim of a job: one below the number of jobs, drawn with the share's pass, and now the last that is active
pub record Took (share : Portion) (job : ℕ) (after : Portion) : Type 0 where
  pub below : job < share.pass.has.terms.limit
  pub drew : Drew share.pass.has job after.pass.has
  pub active : after.active ≡ share.active ++ job ∷ []

-- a claim that was answered None: so was the draw with the share's pass, and the active jobs stay
abbrev pub TookNone : Portion → Portion → Type 0
TookNone share after = DrawRefused share.pass.has after.pass.has × (after.active ≡ share.active)

-- how often the job was claimed over all shares
abbrev pub claims_of : ℕ → List Portion → ℕ
claims_of job shares = total (λ (s : Portion). times job s.pass.has.tickets) shares

-- how many of the shares were answered None
abbrev pub refusals_of : List Portion → ℕ
refusals_of shares = total (λ (s : Portion). length s.pass.has.refusals) shares
