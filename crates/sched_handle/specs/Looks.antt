-- What the calls do that look at the words of limits.
use Rattle.std.specs.Prelude.{◌≡◌, Bool}
use Rattle.sched_limit_handle.specs.Looks.{held_looked, held_may_begin, held_begun}
use Rattle.sched_limit_handle.specs.declared.held.Held.{Held}
use Rattle.sched_limit_handle.specs.declared.looks.Words.{Words}

-- a look saw these words, and answers whether a request may begin at them
abbrev pub Looks : Words → Held → Bool → Held → Type 0
Looks w u r v = (v ≡ held_looked u w) × (r ≡ held_may_begin v w)

-- a request begins at these words, where one may
abbrev pub Begins : Words → Held → Bool → Held → Type 0
Begins w u r v = (v ≡ held_begun u w) × (r ≡ held_may_begin u w)
