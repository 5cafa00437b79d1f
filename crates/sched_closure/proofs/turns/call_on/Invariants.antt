-- The turns so far, and what the last call gave.
use Rattle.std.specs.Prelude.{◌≡◌, false, List, None, IfSome}
use Rattle.std.specs.List.{FoldsTo}
use Rattle.sched_time.specs.declared.numbers.Tick.{Tick}
use Rattle.sched_effect.specs.Runs.{ran_by}
use Rattle.sched_closure.specs.Turns.{Turn, calling}
use Rattle.sched_closure.proofs.turns.call_on.Given as goal

abbrev pub invariant-loop : goal.invariant-loop
invariant-loop g l =
    (g.M.Turns.ended l.machine ≡ None)
    × goal.C-IsAlwaysCallable g l.call
    × ((ticks : List Tick)
    × FoldsTo (Turn g.M.Turns.turning g.K.Clock.tells g.K.Clock.waits (goal.C-step g) g.I.Coded.coded g.F.Coded.coded)
    (calling l.fn.machine l.fn.clock (g.G.Rng.stream l.fn.words) l.fn.call l.fn.before) ticks
    (calling l.machine l.clock (g.G.Rng.stream l.words) l.call l.last))
    × (l.last ≡ None → g.M.Turns.has_run l.machine ≡ false)
    × IfSome l.last (λ outcome. g.M.Turns.may_end (ran_by g.I.Coded.coded g.F.Coded.coded outcome) None)
