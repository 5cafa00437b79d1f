-- What contracts see of a quota and of a pass, and what every pass keeps.
use Rattle.std.specs.Prelude.{◌≡◌, ℕ, Bool, ◌-◌, ◌<◌, ◌≤◌, List, [], ◌∷◌, length, Option, IfSome}
use Rattle.atomic_table.specs.Seated.{TableId}
use Rattle.sched_ticket_quota.specs.Windows.{window_of, window_at}
use Rattle.sched_ticket_quota.specs.Steps.{Sat}
use Rattle.sched_ticket_quota.specs.declared.view.Terms.{Terms}
use Rattle.sched_ticket_quota.specs.declared.view.View.{View}

-- which quota it is, and what it was made with: `start` is the window that it was made in, counted from moment 0, and
-- `carries` whether a window may draw what the one before left of its share
pub record Name : Type 0 where
  pub table : TableId
  pub terms : Terms
  pub start : ℕ
  pub carries : Bool

-- which quota a pass is of, what it has of it, and the ticket that it may hand back
pub record Held : Type 0 where
  pub table : TableId
  pub start : ℕ
  pub has : View
  pub latest : Option ℕ

-- the pass is of this quota
abbrev pub IsOf : Name → Held → Type 0
IsOf b p = (p.table ≡ b.table) × (p.has.terms ≡ b.terms) × (p.start ≡ b.start) × (p.has.carries ≡ b.carries)

-- terms that a quota can be made with
pub record AreTerms (k : Terms) : Type 0 where
  pub reserve : k.reserve ≤ 4294967296
  pub share : k.share ≤ 1000000
  pub period : 100 ≤ k.period

-- a quota's table has 32 words and no slot, and is under the rule for its terms; it was made in a moment's window
pub record IsLaidOut (table : TableId) (key about : Terms) (from : ℕ) : Type 0 where
  pub words : table.words ≡ 32
  pub slots : table.slots ≡ 0
  pub about_is : key ≡ about
  pub terms : AreTerms about
  pub early : from ≤ 4611686018427387903

-- a pass keeps what its view has: n tickets, a weight w, the number of its last request, the moment up to which the
-- window of the requests that it has seen is not over, and its latest ticket, where it may be handed back
pub record IsKnown (m : Sat) (n w told from until : ℕ) (latest : Option ℕ) : Type 0 where
  pub bare : m.1 ≡ []
  pub tickets : length m.0.tickets ≡ n
  pub weight : m.0.weight ≡ w
  pub told_is : m.0.told ≡ told
  pub live : 0 < w
  pub few_parts : w ≤ 4611686018427387904
  pub few_tickets : n ≤ 17496587910722355200
  pub goes_on : 0 < until → window_at m.0.terms from (until - 1) ≤ window_of m.0.seen
  pub latest_is : IfSome latest (λ t. (t < 17496587910722355200) × (others : List ℕ) × (m.0.tickets ≡ t ∷ others))
