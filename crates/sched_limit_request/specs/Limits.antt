-- A pass of a limit, with its limit and what its request holds, and what each call does to these.
use Rattle.std.specs.Prelude.{◌≡◌, ℕ}
use Rattle.sched_limit_word.specs.Held.{Name, Held}
use Rattle.sched_limit_word.specs.View.{with_look, part_of, without_part}
use Rattle.sched_limit.specs.Step.{Answer, Rules, nothing}
use Rattle.sched_limit.specs.declared.request.Request.{Request}
use Rattle.sched_limit.specs.declared.request.Told.{Told}
use Rattle.sched_limit_request.specs.Asks.{Asked}
use Rattle.sched_limit_request.specs.Tells.{IsTold}
use Rattle.sched_limit_request.specs.declared.fault.SplitFault.{SplitFault}
use Rattle.sched_limit_request.specs.declared.fault.SplitFault.TheVariants as fault

-- a limit, a pass of it, and what its request holds
pub record OfLimit (M : Type 0) : Type 0 where
  pub pass : Held
  pub limit : Name M
  pub request : Request

-- a pass that has looked at a word
abbrev pub look_of : Held → ℕ → Held
look_of p word = record p { has = with_look p.has word }

-- a pass that is split from another, and what is left of that one
abbrev pub part_held : Held → Held
part_held p = record p { has = part_of p.has }

abbrev pub left_held : Held → Held
left_held p = record p { has = without_part p.has }

-- a pass that is not split has one part, or there is no memory
abbrev pub Unsplit : Held → SplitFault → Type 0
Unsplit p fault.NoMemory = Unit {0}
Unsplit p fault.TooManyPasses = p.has.weight ≡ 1

module _ {M : Type 0} (rules : M → Rules) where
  pub record LimitTells (d : OfLimit M) (told : Told) (random : ℕ) (answer : Answer) (e : OfLimit M) : Type 0 where
    pub limit : e.limit ≡ d.limit
    pub table : e.pass.table ≡ d.pass.table
    pub tells : IsTold (rules d.limit.machine) told random d.request answer e.request d.pass.has e.pass.has

  -- the part has no request, and a limit that is not split is as it was
  abbrev pub limit_asked : Asked (OfLimit M)
  limit_asked = record {
    tells = LimitTells;
    part = λ d. record d { pass = part_held d.pass; request = nothing };
    left = λ d. record d { pass = left_held d.pass };
    unsplit = λ d why e. (e ≡ d) × Unsplit d.pass why;
  }
