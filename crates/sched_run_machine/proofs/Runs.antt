-- What the polls of a task leave of its runs and their beginnings.
use Rattle.std.proofs.Common.{◌≡◌, ℕ, ◌<◌, ◌≤◌, ◌⊎◌, inl, inr, Bool, true, false, ◌||◌, if◌then◌else◌, List, [], ◌∷◌}
use Rattle.std.proofs.Common.{◌++◌, length, Option, Some, None, is_some, IfSome, IsSomeAnd, Result, refl, sym, ap, ◌∙◌}
use Rattle.std.proofs.Common.{subst, arith}
use Rattle.std.proofs.lemmas.List.{append-nil, append_cancel_left}
use Rattle.sched_time.specs.declared.numbers.Tick.{Tick}
use Rattle.sched_effect.specs.Runs.{ran_by}
use Rattle.sched_effect.specs.declared.ran.Ran.{Ran}
use Rattle.sched_task_law.specs.Kind.{Kind}
use Rattle.sched_task_law.specs.Past.{Past, is_under_way, waits_for}
use Rattle.sched_task_law.specs.Poll.{Happened, stays, cannot_begin, runs_on, cannot_run, times_out, begun_by, after}
use Rattle.sched_task_law.specs.Poll.{IsDue, May, OnePoll}
use Rattle.sched_task_law.specs.Law.{HasOneMore}
use Rattle.sched_run_machine.specs.declared.runner.Polled.{Polled}
use Rattle.sched_run_machine.specs.declared.runner.Polled.TheVariants.{CannotBegin, Finished}
use Rattle.sched_task_law.specs.Lists.{last_element}
use Rattle.sched_task_law.proofs.Lists.{last_element-push}
use Rattle.sched_task_law.proofs.Law.{under_way_then, finished_then, late_after}
use Rattle.sched_run_machine.specs.Runner.{Runs, begun_with, polls_run, leaves_run, given_by, told_by, RunPolls}

-- whether runs finish
abbrev pub finishes : List Ran → Bool
finishes [] = false
finishes (r ∷ rs) = true

later_not : (due : Option ℕ) (now : ℕ) → IsSomeAnd due (λ m. now < m) → IfSome due (λ m. m ≤ now) → ⊥
later_not None now later due = later
later_not (Some m) now later due = omega (arith, later, due)

-- a task that is due does not stay as it is
not_stays : (kind : Kind) (v : Past) (t : Tick) → IsDue v t → May kind v t stays → ⊥
not_stays kind v t due may = elim may [
  | inl over ↦ (let bad : false ≡ true = ap is_some (sym due.unended) ∙ over in cc)
  | inr waits ↦ later_not (waits_for v) t.now waits due.due
]

nothing_told : (runs told : List Ran) → runs ≡ runs ++ told → told ≡ []
nothing_told runs told grown = sym (append_cancel_left runs [] told (append-nil runs ∙ grown))

told_is : (runs : List Ran) (r : Ran) (told : List Ran) → runs ++ r ∷ [] ≡ runs ++ told → told ≡ r ∷ []
told_is runs r told grown = sym (append_cancel_left runs (r ∷ []) told grown)

-- The beginnings after a poll: a run was begun where one is under way, or finished, that was not under way before.
module _ (kind : Kind) (v : Past) (t : Tick) (counted : (length v.begun ≡ length v.runs)
    ⊎ HasOneMore v) (due : IsDue v t)
    (told : List Ran) where
  abbrev Begins : Past → Type 0
  Begins u = u.begun ≡ (if is_under_way u.runs u.begun || finishes told then begun_by v t else v.begun)

  finished_so : (r : Ran) → v.runs ++ r ∷ [] ≡ v.runs ++ told →
      begun_by v t ≡ (if is_under_way (v.runs ++ r ∷ []) (begun_by v t) || finishes told then begun_by v t else v.begun)
  finished_so r grown = rw (told_is v.runs r told grown, finished_then v t r counted) refl

  begun_after : (h : Happened) → May kind v t h → (after kind v t h).runs ≡ v.runs ++ told → Begins (after kind v t h)
  begun_after stays may grown = absurd (not_stays kind v t due may)
  begun_after cannot_begin may grown = rw (nothing_told v.runs told grown, may.1) refl
  begun_after runs_on may grown = rw (under_way_then v t counted) refl
  begun_after cannot_run may grown = rw (under_way_then v t counted) refl
  begun_after times_out may grown = rw (nothing_told v.runs told grown, (late_after v t.now may.1).2) refl
  begun_after _ may grown = finished_so _ grown

  pub begun_then : (u : Past) (ready : Bool) → OnePoll kind v t ready u → u.runs ≡ v.runs ++ told → Begins u
  begun_then u ready poll grown =
      subst (λ (u : Past). (u.runs ≡ v.runs ++ told) → Begins u) (sym poll.leaves) (begun_after poll.happened poll.may)
      grown

-- What a poll of the run under way left, in which these runs finished; `running` says whether one is under way then.
pub record Grows (r s : Runs) (t : Tick) (told : List Ran) (running : Bool) : Type 0 where
  pub runs : s.runs ≡ r.runs ++ told
  pub begun : s.begun ≡ (if running || finishes told then begun_with r t else r.begun)

module _ {I F : Type 0} (item_code : I → ℕ) (fault_code : F → ℕ) (r s : Runs) (t : Tick) where
  pub grows : (polled : Polled I F) → RunPolls item_code fault_code r t polled s →
      Grows r s t (told_by item_code fault_code polled) (leaves_run polled)
  grows CannotBegin polls = rw polls.1 (record { runs = sym (append-nil r.runs); begun = refl })
  grows (Finished run) polls = rw polls (record { runs = refl; begun = refl })
  grows _ polls = rw polls (record { runs = sym (append-nil r.runs); begun = refl })

  -- nothing is polled only where no run is under way
  pub idle_by : (polled : Polled I F) → RunPolls item_code fault_code r t polled s → polls_run polled ≡ false →
      is_under_way r.runs r.begun ≡ false
  idle_by CannotBegin polls none = polls.0
  idle_by _ polls none = absurd cc

-- the run that a poll ended is the last one
pub last_told : {I F : Type 0} (item_code : I → ℕ) (fault_code : F → ℕ) (before runs : List Ran) (polled : Polled I F)
    (run : Result I F) → given_by polled ≡ Some run → runs ≡ before ++ told_by item_code fault_code polled →
    last_element runs ≡ Some (ran_by item_code fault_code run)
last_told {I} {F} ic fc before runs (Finished given) run gave grown =
    let same : given ≡ run = cc in
    rw (grown, same) (last_element-push before (ran_by ic fc run))
last_told ic fc before runs _ run gave grown = absurd cc
