-- What turns of a machine, from its beginning to its end, say of each retry that it may stand for.
use Rattle.std.proofs.Common.{◌≡◌, ℕ, true, false, List, Option, Some, None, Result, sym, ap, ◌∙◌, arith}
use Rattle.std.specs.List.{FoldsTo}
use Rattle.rand_core.specs.Stream.{Stream}
use Rattle.sched_time.specs.declared.numbers.Tick.{Tick}
use Rattle.sched_ticket_draws.specs.Grants.{Grants}
use Rattle.sched_task.specs.declared.endings.How.{How}
use Rattle.sched_task_law.specs.Kind.{Kind}
use Rattle.sched_task_law.specs.Past.{Past, is_under_way, waits_for}
use Rattle.sched_run_machine.specs.Drives.{Driving}
use Rattle.sched_run_machine.specs.Machine.{Machine, unbegun, would_be_late, IsMachineOf}
use Rattle.sched_closure.specs.Turns.{calling, Turn}
use Rattle.sched_closure.specs.Calls.{machine_turning}
use Rattle.sched_closure.specs.Begins.{Goes}
use Rattle.sched_closure.proofs.Told.{through, machine_follows, deadline_stays, budget_stays}
use Rattle.sched_closure.proofs.Ended.{ends_with}

-- a machine of which no run was reported is not too late
pub first_in_time : {R D : Type 0} (deadline : Option ℕ) (m : Machine R D) (now : ℕ) → m.told ≡ 0 →
    would_be_late deadline m now ≡ false
first_in_time deadline m now none = grind arith

-- where a run is under way nothing is waited for
pub none_waited : (v : Past) → is_under_way v.runs v.begun ≡ true → None ≡ waits_for v
none_waited v runs = grind arith

module _ {R D K C I F : Type 0} (driving : Driving R) (kind : Kind) (grants : Grants D) (tells : K → ℕ → K → Type 0)
    (waits : K → ℕ → ℕ → K → Type 0) (gives : C → Result I F → C → Type 0) (item_code : I → ℕ)
    (fault_code : F → ℕ) where
  pub goes_so : (made left : Machine R D) (clock then : K) (words unread : Stream) (call called : C) (ticks : List Tick)
      (outcome handed : Result I F) (how : How) →
      FoldsTo (Turn (machine_turning grants kind driving) tells waits gives item_code fault_code)
      (calling made clock words call None) ticks (calling left then unread called (Some outcome)) →
      handed ≡ outcome → left.over ≡ Some how →
      IsMachineOf driving kind grants made
      (unbegun grants (driving.plan made.driver) (driving.ends made.driver) made.drawing) →
      Goes grants tells waits gives item_code fault_code driving kind
      (calling made clock words call None) (calling left then unread called (Some handed)) how handed
  goes_so made left clock then words unread call called ticks outcome handed how turns same over begins =
      let follows = machine_follows driving kind grants in
      let to = through tells waits gives item_code fault_code _ _ _ _ follows _ ticks _ turns _ begins tt in record {
        turns = record {
          ticks = ticks;
          leads = λ v st.
              let was = through tells waits gives item_code fault_code _ _ _ _ follows _ ticks _ turns v st tt in (
                was.0,
                rw same was.1,
                ends_with item_code fault_code was.0.past.over was.0.past.runs _ _ _ same (sym was.2.over ∙ over) was.3,
                was.2,
              );
        };
        begins = begins;
        deadline = to.2.deadline
            ∙ deadline_stays grants kind tells waits gives item_code fault_code _ ticks _ to.1;
        budget = ap grants.name to.2.drawing
            ∙ budget_stays grants kind tells waits gives item_code fault_code _ ticks _ to.1;
      }
