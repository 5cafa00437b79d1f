-- What a first call makes of a retry that has not begun.
use Rattle.std.proofs.Common.{◌≡◌, ℕ, Bool, true, false, [], ◌∷◌, Option, Some, None, Result, Err, refl, sym, subst}
use Rattle.std.proofs.Common.{arith}
use Rattle.std.specs.List.{FoldsTo}
use Rattle.rand_core.specs.Stream.{Stream}
use Rattle.sched_time.specs.declared.numbers.Tick.{Tick}
use Rattle.sched_plan.specs.Schedule.{Schedule}
use Rattle.sched_ticket_draws.specs.Grants.{Grants, Lawful, IsQuiet}
use Rattle.sched_effect.specs.declared.ran.Ran.TheVariants.{Won, Lost}
use Rattle.sched_task.specs.Words.{next_four}
use Rattle.sched_task.specs.declared.endings.How.TheVariants as how
use Rattle.sched_task.specs.declared.endings.RunFault.TheVariants.{NoMemory}
use Rattle.sched_task_law.specs.Kind.{a_retry}
use Rattle.sched_task_law.specs.Poll.{runs_on, ends, breaks, RefusedIn}
use Rattle.sched_task_law.proofs.Law.{law_of_nothing, none_planned, first_can, first_goes_on}
use Rattle.sched_run_machine.specs.Retrying.{Retrying, RetryLaw}
use Rattle.sched_run_machine.specs.Machine.{unbegun}
use Rattle.sched_run_machine.proofs.Settles.{Settled, settles, next}
use Rattle.sched_closure.specs.Turns.{calling, Turn}
use Rattle.sched_closure.specs.Calls.{task_turning}
use Rattle.sched_closure.specs.Endings.{EndsWith}
use Rattle.sched_closure.specs.Begins.{HasNotBegun, WinsOnce, TakesTurns}

-- the plan has had no event, so that there is room for one
room_in_none : (keeps : Bool) (plan : Schedule) (now : ℕ) →
    RefusedIn keeps (record { plan = plan; journal = [] }) now NoMemory
room_in_none true plan now = (omega arith, omega arith)
room_in_none false plan now = omega arith

module _ {D : Type 0} (grants : Grants D) (lawful : Lawful grants) (quiet : IsQuiet grants) (keeps : Bool)
    (plan : Schedule) (deadline : Option ℕ) (drawing : D) (holds : grants.stands drawing) where
  law_unbegun : RetryLaw grants (a_retry keeps) (unbegun grants plan deadline drawing)
  law_unbegun = record {
    law = law_of_nothing (a_retry keeps) plan deadline;
    granted = omega arith;
    denied = λ yes. absurd cc;
    stands = holds;
    untaken = λ yes. absurd cc;
  }

  -- with a run under way, which began at the tick
  abbrev pub running_by : Tick → Retrying D
  running_by t = next grants lawful (a_retry keeps) (unbegun grants plan deadline drawing) t runs_on drawing

  starts : (t : Tick) → Settled grants lawful (a_retry keeps) (unbegun grants plan deadline drawing) t false
      (running_by t)
  starts t =
      settles grants lawful (a_retry keeps) (unbegun grants plan deadline drawing) t runs_on drawing law_unbegun refl
      (first_can deadline plan t) refl holds

  wins_then : (t tick : Tick) (code : ℕ) → Settled grants lawful (a_retry keeps) (running_by t) tick true
      (next grants lawful (a_retry keeps) (running_by t) tick (ends (Won code)) drawing)
  wins_then t tick code =
      settles grants lawful (a_retry keeps) (running_by t) tick (ends (Won code)) drawing (starts t).law refl
      (first_goes_on deadline plan t tick, refl)
      (drawing, quiet.succeeds drawing tick.now, quiet.ends drawing false) holds

  breaks_then : (t tick : Tick) (code : ℕ) → Settled grants lawful (a_retry keeps) (running_by t) tick true
      (next grants lawful (a_retry keeps) (running_by t) tick (breaks (Lost code) NoMemory) drawing)
  breaks_then t tick code =
      settles grants lawful (a_retry keeps) (running_by t) tick (breaks (Lost code) NoMemory) drawing (starts t).law
      refl
      (first_goes_on deadline plan t tick, refl, room_in_none keeps plan tick.now)
      (drawing, quiet.fails drawing tick.now code, quiet.ends drawing false) holds

  pub wins_once : (moment code : ℕ) → WinsOnce grants keeps plan deadline drawing moment code
  wins_once moment code =
      let none : Tick = record { now = moment; words = [] } in record {
        running = running_by none;
        begins = λ words. record { poll = (starts (record { now = moment; words = words })).poll; runs = refl };
        wins = λ tick. record { poll = (wins_then none tick code).poll; runs = refl };
        law = (wins_then none none code).law;
      }

module _ {T D K C I F : Type 0} (grants : Grants D) (lawful : Lawful grants) (quiet : IsQuiet grants) (keeps : Bool)
    (tells : K → ℕ → K → Type 0) (waits : K → ℕ → ℕ → K → Type 0) (gives : C → Result I F → C → Type 0)
    (item_code : I → ℕ) (fault_code : F → ℕ) where
  -- two turns, by ticks that the clock and the generator gave: a run begins, and its step is refused memory
  pub broken_at_once : (task after : T) (clock during then : K) (words between left : Stream) (call called : C)
      (fault : F) (began ended : Tick) →
      tells clock began.now during → (began.words, between) ≡ next_four words → gives call (Err fault) called →
      tells during ended.now then → (ended.words, left) ≡ next_four between →
      TakesTurns grants tells waits gives item_code fault_code (a_retry keeps) (HasNotBegun grants)
      (RetryLaw grants (a_retry keeps)) (calling task clock words call None)
      (calling after then left called (Some (Err fault))) (how.Broken NoMemory) (Err fault)
  broken_at_once task after clock during then words between left call called fault began ended told lanes gave
      tells_then lanes_then = record {
        ticks = began ∷ ended ∷ [];
        leads = λ v is.
            let drawing = is.2 in
            let code = fault_code fault in
            let first = starts grants lawful quiet keeps is.0 is.1 drawing is.3 began in
            let second = breaks_then grants lawful quiet keeps is.0 is.1 drawing is.3 began ended code in
            let running = running_by grants lawful quiet keeps is.0 is.1 drawing is.3 began in
            let broken = next grants lawful (a_retry keeps) running ended (breaks (Lost code) NoMemory) drawing in
            subst (λ (v : Retrying D). (u : Retrying D)
            × FoldsTo (Turn (task_turning grants (a_retry keeps)) tells waits gives item_code fault_code)
            (calling v clock words call None) (began ∷ ended ∷ []) (calling u then left called (Some (Err fault)))
            × EndsWith item_code fault_code u.past.over u.past.runs (how.Broken NoMemory) (Err fault)
            × RetryLaw grants (a_retry keeps) u) (sym is.4) (
              broken,
              (
                calling running during between call None,
                record {
                  told = [];
                  start = None;
                  due = sym (none_planned is.1 is.0);
                  finishes = (refl, refl, refl);
                  moment = told;
                  lanes = lanes;
                  poll = record { poll = first.poll; runs = refl };
                },
                (
                  calling broken then left called (Some (Err fault)),
                  record {
                    told = Lost code ∷ [];
                    start = None;
                    due = refl;
                    finishes = (Err fault, gave, refl, refl);
                    moment = tells_then;
                    lanes = lanes_then;
                    poll = record { poll = second.poll; runs = refl };
                  },
                  refl,
                ),
              ),
              (refl, refl),
              second.law,
            );
      }
