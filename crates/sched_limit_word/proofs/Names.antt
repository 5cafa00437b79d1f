-- What equal names have in common.
use Rattle.std.proofs.Common.{◌≡◌, ap}
use Rattle.sched_limit_word.specs.Held.{Name, Held}

module _ {M : Type 0} (x y : Name M) where
  pub table_of : x ≡ y → x.table ≡ y.table
  table_of e = ap (λ (b : Name M). b.table) e

  pub machine_of : x ≡ y → x.machine ≡ y.machine
  machine_of e = ap (λ (b : Name M). b.machine) e

pub table_held : (x y : Held) → x ≡ y → x.table ≡ y.table
table_held x y e = ap (λ (p : Held). p.table) e
