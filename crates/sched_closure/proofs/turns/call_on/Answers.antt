-- Each pass of the loop is one turn more.
use Rattle.std.proofs.Common.{[], ◌∷◌, ◌++◌, refl, sym, ◌∙◌, of_calls}
use Rattle.std.proofs.lemmas.Fn.{called}
use Rattle.sched_effect.specs.Runs.{ran_by}
use Rattle.sched_task_law.proofs.Fields.{none_of}
use Rattle.sched_closure.proofs.Told.{one_more, idle_found}
use Rattle.sched_closure.proofs.turns.call_on.Goals as goal

pub loop-init : goal.loop-init
loop-init g c = (c.requires.unended, c.requires.callable, ([], refl), c.requires.first, c.requires.goes_on)

pub returns-then-is_some-clause-turns : goal.returns-then-is_some-clause-turns
returns-then-is_some-clause-turns g c =
    let was = c.loop.invariant in
    let tick = c.next_tick-tick in
    let next = c.next-next in (
      was.2.0 ++ tick.result ∷ [],
      c.call-outcome.new.self,
      one_more g.K.Clock.tells g.K.Clock.waits _ g.I.Coded.coded g.F.Coded.coded g.M.Turns.turning _ _ _ was.2.0
          tick.result (ran_by g.I.Coded.coded g.F.Coded.coded c.call-outcome.result ∷ []) _ was.2.1 next.ensures.due
          (rw (c.in-Run.ensures.finds.1) (
            c.call-outcome.result,
            called g.C.FnMut c.call-outcome.ensures refl,
            refl,
            refl,
          )) tick.ensures.moment tick.ensures.lanes (rw (← c.ran_of.ensures) c.tell.ensures.polls),
    )

pub loop-preserved-in-Run : goal.loop-preserved-in-Run
loop-preserved-in-Run g c =
    let was = c.loop.invariant in
    let tick = c.next_tick-tick in
    let next = c.next-next in
    let none = none_of c.tell.result (sym c.is_some.ensures ∙ c.if-is_some.false) in (
      c.tell.ensures.over ∙ none,
      search of_calls,
      (
        was.2.0 ++ tick.result ∷ [],
        one_more g.K.Clock.tells g.K.Clock.waits _ g.I.Coded.coded g.F.Coded.coded g.M.Turns.turning _ _ _ was.2.0
            tick.result (ran_by g.I.Coded.coded g.F.Coded.coded c.call-outcome.result ∷ []) _ was.2.1 next.ensures.due
            (rw (c.in-Run.ensures.finds.1) (
              c.call-outcome.result,
              called g.C.FnMut c.call-outcome.ensures refl,
              refl,
              refl,
            )) tick.ensures.moment tick.ensures.lanes (rw (← c.ran_of.ensures) c.tell.ensures.polls),
      ),
      λ none. absurd cc,
      rw none at (rw c.ran_of.ensures at c.tell.ensures.ends),
    )

pub returns-then-is_some-2-clause-turns : goal.returns-then-is_some-2-clause-turns
returns-then-is_some-2-clause-turns g c =
    let was = c.loop.invariant in
    let tick = c.next_tick-tick-in-Poll in
    let next = c.next-next in
    let idle = idle_found _ _ next.result next.ensures.finds c.in-Poll.is in (
      was.2.0 ++ tick.result ∷ [],
      c.loop.call,
      rw (← c.unwrap.ensures) (one_more g.K.Clock.tells g.K.Clock.waits _ g.I.Coded.coded g.F.Coded.coded
          g.M.Turns.turning _ _ _ was.2.0
          tick.result [] _ was.2.1 next.ensures.due (rw idle (refl, refl, refl)) tick.ensures.moment tick.ensures.lanes
          c.poll.ensures.polls),
    )

pub loop-preserved : goal.loop-preserved
loop-preserved g c =
    let was = c.loop.invariant in
    let tick = c.next_tick-tick-in-Poll in
    let next = c.next-next in
    let idle = idle_found _ _ next.result next.ensures.finds c.in-Poll.is in (
      c.poll.ensures.over ∙ none_of c.poll.result (sym c.is_some-in-Poll.ensures ∙ c.if-is_some-2.false),
      was.1,
      (
        was.2.0 ++ tick.result ∷ [],
        one_more g.K.Clock.tells g.K.Clock.waits _ g.I.Coded.coded g.F.Coded.coded g.M.Turns.turning _ _ _ was.2.0
            tick.result [] _
            was.2.1 next.ensures.due (rw idle (refl, refl, refl)) tick.ensures.moment tick.ensures.lanes
            c.poll.ensures.polls,
      ),
      λ none. c.poll.ensures.has_run ∙ was.3 none,
      was.4,
    )
