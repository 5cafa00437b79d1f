-- What contracts see of a budget and of a pass, and what every pass keeps.
use Rattle.std.specs.Prelude.{◌≡◌, ◌≢◌, ℕ, ◌<◌, ◌≤◌, Bool, true, false, [], length}
use Rattle.atomic_table.specs.Seated.{TableId}
use Rattle.sched_ticket.specs.Rule.{used_up}
use Rattle.sched_ticket.specs.Steps.{Sat}
use Rattle.sched_ticket.specs.declared.view.Terms.{Terms}
use Rattle.sched_ticket.specs.declared.view.Mark.TheVariants.{Sole}
use Rattle.sched_ticket.specs.declared.view.View.{View}

-- which budget it is, and what it was made with
pub record Name : Type 0 where
  pub table : TableId
  pub terms : Terms

-- which budget a pass is of, and what it has of it
pub record Held : Type 0 where
  pub table : TableId
  pub has : View

-- the pass is of this budget
abbrev pub IsOf : Name → Held → Type 0
IsOf b p = (p.table ≡ b.table) × (p.has.terms ≡ b.terms)

-- a budget's table has its words and no slot, and is under the rule for its terms
pub record IsLaidOut (table : TableId) (key about : Terms) : Type 0 where
  pub words : table.words ≡ 33
  pub slots : table.slots ≡ 0
  pub about_is : key ≡ about
  pub small : about.limit ≤ 4294967296

-- a pass counts what its view has: n tickets, a weight w, o refused splits, and whether a draw was refused
pub record IsCounted (m : Sat) (n w o : ℕ) (r : Bool) : Type 0 where
  pub bare : m.1 ≡ []
  pub tickets : length m.0.tickets ≡ n
  pub weight : m.0.weight ≡ w
  pub refused_splits : m.0.refused_splits ≡ o
  pub unrefused : r ≡ false → m.0.refusals ≡ []
  pub refused : r ≡ true → 0 < length m.0.refusals
  pub live : 0 < w
  pub few_passes : m.0.terms.by_parts ≡ false → w ≤ 65536
  pub few_parts : w ≤ 4611686018427387904
  pub few_tickets : n ≤ 4294967296
  pub within_limit : n ≤ m.0.floor
  pub few_refusals : length (used_up m.0) ≤ w
  pub few_refused_splits : o ≤ w
  pub uncounted : m.0.terms.by_parts ≡ true → o ≡ 0
  pub unsole : m.0.mark ≢ Sole
  pub fixed : m.0.terms.rises ≡ false → m.0.floor ≡ m.0.terms.limit

-- the name of no budget
abbrev pub nobody : Name
nobody = record {
  table = record { words = 0; slots = 0; views_name = 0; atom = 0; block = 0; offset = 0; slot_names = [] };
  terms = record { limit = 0; rises = false; by_parts = false };
}
