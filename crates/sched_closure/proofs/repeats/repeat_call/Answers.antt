-- The turns of the machine are turns of each repeat that it may stand for.
use Rattle.std.proofs.Common.{sym, ◌∙◌}
use Rattle.sched_ticket_draws.specs.Freely.{free_grants}
use Rattle.sched_task_law.specs.Kind.{a_repeat}
use Rattle.sched_closure.proofs.Goes.{goes_so}
use Rattle.sched_closure.proofs.repeats.repeat_call.Given.{C-step}
use Rattle.sched_closure.proofs.repeats.repeat_call.Goals as goal

pub returns-clause-goes : goal.returns-clause-goes
returns-clause-goes g c =
    let turns = rw c.repeating-repeat.ensures.begins at c.call_on-outcome.ensures.turns in
    let ending = c.repeat_ending-ending in (
      turns.1,
      goes_so g.S.Drives.driving (a_repeat g.S.Drives.driving.keeps) free_grants g.K.Clock.tells g.K.Clock.waits
          (C-step g) g.I.Coded.coded g.F.Coded.coded _ _ _ _ _ _ _ turns.1 turns.0 _ _ _ turns.2
          ending.ensures.gave (sym c.over.ensures ∙ ending.ensures.over)
          (rw c.repeating-repeat.ensures.begins at c.repeating-repeat.ensures.stands),
    )
