-- What the calls that may be refused do, on what a retry draws by.
use Rattle.std.specs.Prelude.{◌≡◌, ℕ, ◌<◌, ◌≤◌, true, false, Some, None, Result, Ok, Err}
use Rattle.sched_ticket.specs.View.{part_of, with_split}
use Rattle.sched_ticket.specs.Calls.{Drew, DrawRefused, Raised, RefusesRaise}
use Rattle.sched_ticket_quota.specs.Windows.{word_of}
use Rattle.sched_ticket_quota.specs.View as quota
use Rattle.sched_ticket_quota.specs.Calls as quota_calls
use Rattle.sched_ticket_quota.specs.declared.pass.Usage.{Usage as Seen}
use Rattle.sched_ticket_draws.specs.Budgets.{OfBudget}
use Rattle.sched_ticket_draws.specs.Quotas.{OfQuota}
use Rattle.sched_ticket_draws.specs.Passes.{SameBudget, SameQuota}
use Rattle.sched_ticket_draws.specs.Splits.{SplitFails, QuotaSplitFails}
use Rattle.sched_ticket_draws.specs.Freely.{FreelyDrew}
use Rattle.sched_ticket_draws.specs.declared.drawing.Drawing.{Drawing}
use Rattle.sched_ticket_draws.specs.declared.drawing.Drawing.TheVariants.{Budget, Quota, Unlimited}
use Rattle.sched_handle.specs.Replies.{usage_of}
use Rattle.sched_handle.specs.Status.{By, of_ticket, of_quota, of_refusal, of_not_back}
use Rattle.sched_handle.specs.declared.replies.Usage.{Usage}
use Rattle.sched_handle.specs.declared.status.Status.{Status}
use Rattle.sched_handle.specs.declared.status.Status.TheVariants.{WrongKind, NoMemory, Fixed, NoTicket, NoTerms}
use Rattle.sched_handle.specs.declared.status.Status.TheVariants.{NothingToHandBack, TooManyRequests}

-- a ticket is drawn, which may be handed back where it is one of a quota, or there is none
abbrev pub BudgetDraws : OfBudget → Result ℕ Status → Drawing → Type 0
BudgetDraws s (Ok k) v = SameBudget s v (λ t. Drew s.pass.has k t.pass.has)
BudgetDraws s (Err e) v = (e ≡ NoTicket) × SameBudget s v (λ t. DrawRefused s.pass.has t.pass.has)

abbrev pub QuotaDraws : ℕ → OfQuota → Result ℕ Status → Drawing → Type 0
QuotaDraws now s (Ok k) v = SameQuota s v
    (λ t. quota_calls.Drew s.quota now s.pass.has k t.pass.has × (t.pass.latest ≡ Some k))
QuotaDraws now s (Err e) v = SameQuota s v
    (λ t. By of_refusal (λ why. quota_calls.DrawRefused s.quota now s.pass.has why t.pass.has) e
    × (t.pass.latest ≡ s.pass.latest))

abbrev pub FreelyDraws : ℕ → Result ℕ Status → Drawing → Type 0
FreelyDraws n (Ok k) v = (k ≡ n) × (m : ℕ) × (v ≡ Unlimited m) × FreelyDrew n true m
FreelyDraws n (Err e) v = (e ≡ NoTicket) × (m : ℕ) × (v ≡ Unlimited m) × FreelyDrew n false m

abbrev pub Draws : ℕ → Drawing → Result ℕ Status → Drawing → Type 0
Draws now (Budget s) r v = BudgetDraws s r v
Draws now (Quota s) r v = QuotaDraws now s r v
Draws now (Unlimited n) r v = FreelyDraws n r v

-- so many requests of a quota are counted at once, or they are more than the pass has parts; nothing else counts any
abbrev pub QuotaDeposits : ℕ → ℕ → OfQuota → Result (Unit {0}) Status → Drawing → Type 0
QuotaDeposits now n s (Ok x) v = (n ≤ s.pass.has.weight) × SameQuota s v
    (λ t. quota_calls.DepositedOf s.quota now n s.pass.has t.pass.has × (t.pass.has.tickets ≡ s.pass.has.tickets)
    × (t.pass.latest ≡ s.pass.latest))
QuotaDeposits now n s (Err e) v = (e ≡ TooManyRequests) × (s.pass.has.weight < n) × (v ≡ Quota s)

abbrev pub Deposits : ℕ → ℕ → Drawing → Result (Unit {0}) Status → Drawing → Type 0
Deposits now n (Quota s) r v = QuotaDeposits now n s r v
Deposits now n d r v = (r ≡ Ok tt) × (v ≡ d)

-- the ticket of a quota is handed back that the pass may hand back, or it is kept, for this reason; nothing else takes
-- any
abbrev pub QuotaHands : OfQuota → Result (Unit {0}) Status → Drawing → Type 0
QuotaHands s (Ok x) v = SameQuota s v (λ t. quota_calls.Hands s.pass t.pass)
QuotaHands s (Err e) v = SameQuota s v (λ t. By of_not_back (λ why. quota_calls.NotHanded s.pass why t.pass) e)

abbrev pub HandsBack : Drawing → Result (Unit {0}) Status → Drawing → Type 0
HandsBack (Quota s) r v = QuotaHands s r v
HandsBack d r v = (r ≡ Err NothingToHandBack) × (v ≡ d)

-- the terms of a quota become these, or they are refused, for this reason; nothing else has terms
abbrev pub QuotaSets : ℕ → ℕ → OfQuota → Result (Unit {0}) Status → Drawing → Type 0
QuotaSets reserve share s (Ok x) v = (reserve ≤ 4294967296) × (share ≤ 1000000) × SameQuota s v
    (λ t. (t.pass.has ≡ quota.with_change s.pass.has (word_of reserve share)) × (t.pass.latest ≡ s.pass.latest))
QuotaSets reserve share s (Err e) v = (v ≡ Quota s) × By of_quota (quota_calls.RefusesChange reserve share) e

abbrev pub SetsTerms : ℕ → ℕ → Drawing → Result (Unit {0}) Status → Drawing → Type 0
SetsTerms reserve share (Quota s) r v = QuotaSets reserve share s r v
SetsTerms reserve share d r v = (r ≡ Err NoTerms) × (v ≡ d)

-- a pass is parted: this one, which has no ticket, is split off, and that one is left
abbrev pub Parted : Drawing → Drawing → Drawing → Type 0
Parted (Budget s) part v =
    SameBudget s part (λ p. p.pass.has ≡ part_of s.pass.has) × SameBudget s v (λ t. t.pass.has ≡ with_split s.pass.has)
Parted (Quota s) part v =
    SameQuota s part (λ p. (p.pass.has ≡ quota.part_of s.pass.has) × (p.pass.latest ≡ None))
    × SameQuota s v (λ t. (t.pass.has ≡ quota.without_part s.pass.has) × (t.pass.latest ≡ s.pass.latest))
Parted (Unlimited n) part v = (part ≡ Unlimited 0) × (v ≡ Unlimited n)

-- no pass is split off for this reason
abbrev pub NoSplit : Drawing → Status → Drawing → Type 0
NoSplit (Budget s) e v = SameBudget s v (λ t. By of_ticket (SplitFails s.pass.has t.pass.has) e)
NoSplit (Quota s) e v = (v ≡ Quota s) × By of_quota (QuotaSplitFails s.pass.has) e
NoSplit (Unlimited n) e v = (v ≡ Unlimited n) × (e ≡ NoMemory)

-- the limit of a rising budget is raised, or nothing is, for this reason
abbrev pub BudgetRaises : ℕ → OfBudget → Result ℕ Status → Drawing → Type 0
BudgetRaises to s (Ok n) v = SameBudget s v (λ t. Raised s.pass.has to n t.pass.has)
BudgetRaises to s (Err e) v = (v ≡ Budget s) × By of_ticket (RefusesRaise s.budget.terms.rises to) e

abbrev pub Raises : ℕ → Drawing → Result ℕ Status → Drawing → Type 0
Raises to (Budget s) r v = BudgetRaises to s r v
Raises to d r v = (r ≡ Err Fixed) × (v ≡ d)

-- what is known of the latest window of a quota at this moment
abbrev pub QuotaSees : ℕ → OfQuota → Result Usage Status → Drawing → Type 0
QuotaSees now s (Ok x) v = SameQuota s v
    (λ t. (t.pass.latest ≡ s.pass.latest)
    × (seen : Seen) × (x ≡ usage_of seen) × quota_calls.Told s.quota now s.pass.has t.pass.has seen)
QuotaSees now s (Err e) v = ⊥

abbrev pub Sees : ℕ → Drawing → Result Usage Status → Drawing → Type 0
Sees now (Quota s) r v = QuotaSees now s r v
Sees now d r v = (r ≡ Err WrongKind) × (v ≡ d)
