-- The codes by which proofs tell the records of tasks apart.
use Rattle.std.specs.Prelude.{◌≡◌, ℕ, ◌⊎◌, Bool, if◌then◌else◌, ◌==◌, List, Option, refl}
use Rattle.std.specs.Coded.{Coded, code_by, coded×, coded⊎, coded_ℕ, coded_bool, coded_list, coded_option}
use mathlib.Core.Logic.{inl, inr}
use Rattle.sched_effect.specs.declared.ran.Ran.{Ran}
use Rattle.sched_effect.specs.declared.ran.Ran.TheVariants.{Won, Lost}
use Rattle.sched_task.specs.declared.endings.How.{How}
use Rattle.sched_task.specs.declared.endings.How.TheVariants as how
use Rattle.sched_task.specs.declared.endings.RunFault.TheVariants.{NoMemory, JournalFull, Backwards}
use Rattle.sched_task_law.specs.Past.{PastOf}

-- a run is stored as the side that it is on, with its code
abbrev ran_from : ℕ ⊎ ℕ → Ran
ran_from (inl code) = Won code
ran_from (inr code) = Lost code

abbrev ran_code : Ran → ℕ ⊎ ℕ
ran_code (Won code) = inl code
ran_code (Lost code) = inr code

pub ran_back : (r : Ran) → ran_from (ran_code r) ≡ r
ran_back (Won code) = refl
ran_back (Lost code) = refl

abbrev pub coded_ran : Coded Ran
coded_ran = code_by (ℕ ⊎ ℕ) (coded⊎ coded_ℕ coded_ℕ) ran_code ran_from ran_back

-- an ending as a number, or as the fault that broke the task
abbrev how_code : How → ℕ
how_code how.Won = 0
how_code how.ScheduleDone = 1
how_code how.BudgetRefused = 2
how_code how.Failed = 3
how_code how.Cancelled = 4
how_code (how.Broken NoMemory) = 5
how_code (how.Broken JournalFull) = 6
how_code (how.Broken Backwards) = 7
how_code how.DeadlinePassed = 8

abbrev how_from : ℕ → How
how_from n =
    if n == 0 then how.Won else (if n == 1 then how.ScheduleDone else (if n == 2 then how.BudgetRefused else
    (if n == 3 then how.Failed else (if n == 4 then how.Cancelled else (if n == 5 then how.Broken NoMemory else
    (if n == 6 then how.Broken JournalFull else (if n == 7 then how.Broken Backwards else how.DeadlinePassed)))))))

pub how_back : (h : How) → how_from (how_code h) ≡ h
how_back how.Won = refl
how_back how.ScheduleDone = refl
how_back how.BudgetRefused = refl
how_back how.Failed = refl
how_back how.Cancelled = refl
how_back (how.Broken NoMemory) = refl
how_back (how.Broken JournalFull) = refl
how_back (how.Broken Backwards) = refl
how_back how.DeadlinePassed = refl

abbrev pub coded_how : Coded How
coded_how = code_by ℕ coded_ℕ how_code how_from how_back

abbrev pub coded_past : {R : Type 0} → Coded R → Coded (PastOf R)
coded_past {R} coded_driver =
    code_by (R × (Option ℕ × (List Ran × (List ℕ × (Option How × (Bool × ℕ))))))
    (coded× coded_driver (coded× (coded_option coded_ℕ) (coded× (coded_list coded_ran) (coded× (coded_list coded_ℕ)
    (coded× (coded_option coded_how) (coded× coded_bool coded_ℕ))))))
    (λ v. (v.driver, (v.deadline, (v.runs, (v.begun, (v.over, (v.denied, v.granted)))))))
    (λ p. record {
      driver = p.0;
      deadline = p.1.0;
      runs = p.1.1.0;
      begun = p.1.1.1.0;
      over = p.1.1.1.1.0;
      denied = p.1.1.1.1.1.0;
      granted = p.1.1.1.1.1.1;
    })
    (λ _. refl)
