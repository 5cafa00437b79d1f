-- What contracts see of a limit and of a pass, and what every pass keeps.
use Rattle.std.specs.Prelude.{◌≡◌, ℕ, ◌<◌, ◌≤◌, []}
use Rattle.atomic_table.specs.Seated.{TableId}
use Rattle.sched_limit_word.specs.Steps.{Sat}
use Rattle.sched_limit_word.specs.declared.view.View.{View}

-- which limit it is, and its machine
pub record Name (M : Type 0) : Type 0 where
  pub table : TableId
  pub machine : M

-- which limit a pass is of, and what it has of it
pub record Held : Type 0 where
  pub table : TableId
  pub has : View

-- the pass is of this limit
abbrev pub IsOf : {M : Type 0} → Name M → Held → Type 0
IsOf b p = p.table ≡ b.table

-- a limit's table has 16 words and no slot, and is under the rule for its machine
pub record IsLaidOut {M : Type 0} (table : TableId) (key machine : M) : Type 0 where
  pub words : table.words ≡ 16
  pub slots : table.slots ≡ 0
  pub machine_is : key ≡ machine

-- a pass keeps what its view has: the weight w
pub record IsKnown (m : Sat) (w : ℕ) : Type 0 where
  pub bare : m.1 ≡ []
  pub weight : m.0.weight ≡ w
  pub live : 0 < w
  pub few_parts : w ≤ 4611686018427387904
