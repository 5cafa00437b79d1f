-- A poll of a retry with a fallback keeps its law, whatever it comes to.
use Rattle.std.proofs.Common.{◌≡◌, ℕ, ◌<◌, Bool, true, false, if◌then◌else◌, List, [], ◌∷◌, length, Option, Some, None}
use Rattle.std.proofs.Common.{option_map, is_some, IfSome, Ok, Err, refl, sym, ap, ◌∙◌, subst, arith}
use Rattle.sched_time.specs.declared.numbers.Tick.{Tick}
use Rattle.sched_plan.specs.Datum.{Datum}
use Rattle.sched_plan.specs.Schedule.{Schedule}
use Rattle.sched_plan.specs.declared.history.Event.{Event}
use Rattle.sched_driver.specs.Driven.{Driven, last_answer, last_output}
use Rattle.sched_effect.specs.declared.ran.Ran.{Ran}
use Rattle.sched_task.specs.declared.endings.How.{How}
use Rattle.sched_task.specs.declared.endings.How.TheVariants as how
use Rattle.sched_ticket_draws.specs.Grants.{Grants, Lawful}
use Rattle.sched_task_law.specs.Kind.{a_retry, calls}
use Rattle.sched_task_law.specs.Lists.{last_is, last_element}
use Rattle.sched_task_law.specs.Past.{Past, schedule_is_done, waits_by}
use Rattle.sched_task_law.specs.Law.{Law, Ended, is_stop}
use Rattle.sched_task_law.proofs.Lists.{by_test}
use Rattle.sched_task_law.proofs.Fields.{none_of}
use Rattle.sched_run_machine.specs.Drives.{Driving}
use Rattle.sched_run_machine.specs.Retrying.{RetryingOf, along, KeepsLaw, TaskPoll, GivesUp as RetryGivesUp}
use Rattle.sched_run_machine.proofs.Made.{keeps_untaken, keeps_given_up}
use Rattle.sched_retry.specs.Ending.{EndingFits}
use Rattle.sched_retry.specs.declared.endings.Ending.{Ending}
use Rattle.sched_retry.specs.declared.endings.Ending.TheVariants as ending
use Rattle.sched_retry_or.specs.Ending.{RetryOrFits}
use Rattle.sched_retry_or.specs.Falling.{Falling, falls_due, FallingLaw, PollsAs, FallingPoll, KeepsStop, IsFalling}
use Rattle.sched_retry_or.specs.Stops.{unless_stop, or_stopped, EndsRetry}
use Rattle.sched_retry_or.specs.declared.endings.RetryOrEnding.{RetryOrEnding}
use Rattle.sched_retry_or.specs.declared.endings.RetryOrEnding.TheVariants.{Won, DeadlinePassed, Cancelled, Broken}

-- the last of a list tells whether that passes a test
last_tells : {A : Type 0} (test : A → Bool) (xs : List A) (x : A) → last_element xs ≡ Some x → last_is test xs ≡ test x
last_tells test [] x is = absurd cc
last_tells test (y ∷ []) x is = let same : y ≡ x = cc in ap test same
last_tells test (y ∷ z ∷ xs) x is = last_tells test (z ∷ xs) x is

never_stop : (over : Option How) → is_stop (unless_stop over) ≡ false
never_stop over = grind arith

no_stop : (over : Option How) (P : Type 0) → is_stop over ≡ false → is_stop over ≡ true → P
no_stop over P isnt is = absurd (let bad : false ≡ true = sym isnt ∙ is in cc)

-- what is stopped is over
stop_over : (over : Option How) → is_stop over ≡ true → is_some over ≡ true
stop_over over is = grind arith

-- a schedule that has stepped has given an output
given_some : (s : Schedule) (h : List Event) → 0 < length h →
    is_some (option_map (λ a. a.output) (last_answer s h)) ≡ true
given_some s [] some = absurd (omega arith)
given_some s (e ∷ h) some = refl

done_given : (deadline : Option ℕ) (s : Schedule) (h : List Event) →
    schedule_is_done deadline (record { plan = s; journal = h }) ≡ true →
    is_some (option_map (λ a. a.output) (last_answer s h)) ≡ true
done_given None s [] done = absurd cc
done_given (Some end) s [] done = absurd cc
done_given deadline s (e ∷ h) done = refl

stopped_given : (kept : Bool) (v : Past) (over : Option How) → Law (a_retry kept) v → Ended (a_retry kept) v over →
    is_stop over ≡ true → is_some (last_output v.driver) ≡ true
stopped_given kept v (Some how.ScheduleDone) law ended is = done_given v.deadline v.driver.plan v.driver.journal ended.0
stopped_given kept v (Some how.BudgetRefused) law ended is =
    given_some v.driver.plan v.driver.journal (law.denied ended).stepped
stopped_given kept v _ law ended is = absurd cc

module _ {R D : Type 0} (driving : Driving R) (outputs : R → Option Datum) (grants : Grants D) where
  -- a retry that has stopped has given an output
  pub has_output : ((r : R) (d : Driven) → driving.stands r d → outputs r ≡ last_output d) → (v : RetryingOf R D) →
      KeepsLaw driving grants (a_retry driving.keeps) v → is_stop v.past.over ≡ true →
      is_some (outputs v.past.driver) ≡ true
  has_output gives v is stop =
      ap is_some (gives v.past.driver is.0 is.1.stands)
      ∙ stopped_given driving.keeps _ v.past.over is.1.law.law is.1.law.law.ended stop

  module _ {I F : Type 0} (item_code : I → ℕ) (fault_code : F → ℕ) where
    -- an ending of a retry is one that retries have
    ends_retry : (v : RetryingOf R D) → KeepsLaw driving grants (a_retry driving.keeps) v → (e : Ending I F) →
        EndingFits item_code fault_code v.past.over v.past.runs e → EndsRetry e
    ends_retry v is (ending.Failed fault) fits =
        let ended = subst (λ (over : Option How). Ended (a_retry driving.keeps) (along v is.0).past over) fits.0
        is.1.law.law.ended in
        absurd (let bad : false ≡ true = ended.0 in cc)
    ends_retry v is (ending.ScheduleDone (Ok item)) fits =
        let ended = subst (λ (over : Option How). Ended (a_retry driving.keeps) (along v is.0).past over) fits.0
        is.1.law.law.ended in
        let lost = is.1.law.law.done ended.0 in
        absurd (let bad : false ≡ true = sym (last_tells (calls (a_retry driving.keeps)) v.past.runs _ fits.1) ∙ lost in
        cc)
    ends_retry v is _ fits = tt

    pub all_ends_retry : (v : RetryingOf R D) → KeepsLaw driving grants (a_retry driving.keeps) v →
        (e : Option (Ending I F)) →
        IfSome e (EndingFits item_code fault_code v.past.over v.past.runs) → IfSome e EndsRetry
    all_ends_retry v is None fits = tt
    all_ends_retry v is (Some e) fits = ends_retry v is e fits

    -- What the ending of the retry beneath leaves, which is over as u is.
    module _ (u : RetryingOf R D) (answered : Option Ran) where
      pub record Left (left : Option F × Option (RetryOrEnding I F)) : Type 0 where
        pub ended : is_some left.1 ≡ is_some (unless_stop u.past.over)
        pub fits : IfSome left.1 (RetryOrFits item_code fault_code (unless_stop u.past.over) u.past.runs answered)
        pub keeps : KeepsStop fault_code u left.0

      -- an ending of its own
      owned : (how : How) (e : RetryOrEnding I F) → u.past.over ≡ Some how → is_stop (Some how) ≡ false →
          RetryOrFits item_code fault_code (Some how) u.past.runs answered e → Left (None, Some e)
      owned how e over isnt fits =
          let same : unless_stop u.past.over ≡ Some how = rw over (rw isnt refl) in record {
            ended = sym (ap is_some same);
            fits = rw same fits;
            keeps = ap is_stop over ∙ isnt;
          }

      pub left_by : (taken : Option (Ending I F)) → is_some taken ≡ is_some u.past.over →
          IfSome taken (EndingFits item_code fault_code u.past.over u.past.runs) → IfSome taken EndsRetry →
          Left (or_stopped taken)
      left_by None over fits ends =
          let none = none_of u.past.over (sym over) in record {
            ended = rw none refl;
            fits = tt;
            keeps =
                ap is_stop none;
          }
      left_by (Some (ending.Won item)) over fits ends = owned how.Won (Won item) fits.0 refl (refl, fits.1)
      left_by (Some (ending.Failed fault)) over fits ends = absurd ends
      left_by (Some (ending.ScheduleDone (Ok item))) over fits ends = absurd ends
      left_by (Some (ending.ScheduleDone (Err fault))) over fits ends =
          record { ended = rw (fits.0) refl; fits = tt; keeps = (ap is_stop fits.0, fits.1) }
      left_by (Some (ending.BudgetRefused fault)) over fits ends =
          record { ended = rw (fits.0) refl; fits = tt; keeps = (ap is_stop fits.0, fits.1) }
      left_by (Some ending.DeadlinePassed) over fits ends = owned how.DeadlinePassed DeadlinePassed fits refl refl
      left_by (Some ending.Cancelled) over fits ends = owned how.Cancelled Cancelled fits refl refl
      left_by (Some (ending.Broken fault)) over fits ends = owned (how.Broken fault) (Broken fault) fits refl refl

  -- A poll of one that is over.
  over_as : (v : Falling R D) (t : Tick) (stopped : Bool) (over : Option How) → is_some over ≡ true →
      PollsAs driving outputs grants over stopped v t v
  over_as v t stopped None over = absurd cc
  over_as v t stopped (Some how) over = refl

  pub falling_over : (v : Falling R D) (t : Tick) → is_some v.over ≡ true →
      FallingPoll driving outputs grants v t true v
  falling_over v t over =
      record { poll = over_as v t (is_stop v.retrying.past.over) v.over over; ready_is = sym over }

  -- it waits for what the retry beneath waits for, which is over where it is
  is_over : (v : Falling R D) → FallingLaw driving outputs grants v → is_some v.over ≡ true →
      is_some v.retrying.past.over ≡ true
  is_over v law over =
      by_test (is_stop v.retrying.past.over) (λ stop. stop_over v.retrying.past.over stop)
      (λ isnt. ap is_some (sym (law.as_beneath isnt)) ∙ over)

  pub due_as : (v : Falling R D) → FallingLaw driving outputs grants v →
      waits_by (driving.starts v.retrying.past.driver) v.retrying.past ≡ falls_due driving v
  due_as v law =
      let over = is_over v law in grind (arith, over)

  module _ {I F : Type 0} (item_code : I → ℕ) (fault_code : F → ℕ) (v : Falling R D) (stopped : Option F)
      (ending : Option (RetryOrEnding I F)) (unended : v.over ≡ None)
      (is : IsFalling driving outputs grants item_code fault_code v stopped ending) where
    -- A poll of the retry beneath, which has not stopped.
    module _ (t : Tick) (none : stopped ≡ None) (polled w : RetryingOf R D) (ready : Bool)
        (poll : TaskPoll driving grants (a_retry driving.keeps) v.retrying t ready polled)
        (answers : ready ≡ is_some polled.past.over) (law : KeepsLaw driving grants (a_retry driving.keeps) polled)
        (taken : Option (Ending I F)) (left : w ≡ record polled { untaken = false }) (once : is_some taken ≡
        polled.untaken)
        (fits : IfSome taken (EndingFits item_code fault_code polled.past.over polled.past.runs)) where
      unstopped : is_stop v.retrying.past.over ≡ false
      unstopped = subst (λ (s : Option F). KeepsStop fault_code v.retrying s) none is.keeps

      beneath_unended : v.retrying.past.over ≡ None
      beneath_unended = sym (is.law.as_beneath unstopped) ∙ unended

      some_taken : is_some taken ≡ is_some polled.past.over
      some_taken =
          let was = poll.leads is.law.law.0 is.law.law.1 in
          once ∙ was.1.untaken
          ∙ ap (λ (over : Option How). if is_some over then v.retrying.untaken else ready) beneath_unended ∙ answers

      what_is_left : Left item_code fault_code polled v.answered (or_stopped taken)
      what_is_left =
          left_by item_code fault_code polled v.answered taken some_taken fits
          (all_ends_retry item_code fault_code polled law taken fits)

      abbrev pub beneath : Falling R D
      beneath = record {
        retrying = w;
        over = unless_stop polled.past.over;
        untaken = is_some (or_stopped taken).1;
        asked = v.asked;
        answered = v.answered;
      }

      as_then : PollsAs driving outputs grants None false v t beneath
      as_then = record {
        polled = polled;
        poll = subst (λ (ready : Bool). TaskPoll driving grants (a_retry driving.keeps) v.retrying t ready polled)
            answers poll;
        leaves = λ i. record {
          retrying = left i;
          over = unless_stop polled.past.over;
          untaken = what_is_left.ended i;
          asked = v.asked;
          answered = v.answered;
        };
      }

      pub beneath_poll : (now : Bool) → now ≡ is_some (unless_stop polled.past.over) →
          FallingPoll driving outputs grants v t now beneath
      beneath_poll now is_now = record {
        poll = subst (λ (over : Option How). PollsAs driving outputs grants over (is_stop v.retrying.past.over)
            v t beneath) (sym unended)
            (subst (λ (stop : Bool). PollsAs driving outputs grants None stop v t beneath) (sym unstopped) as_then);
        ready_is = is_now;
      }

      pub beneath_is : IsFalling driving outputs grants item_code fault_code beneath (or_stopped taken).0
          (or_stopped taken).1
      beneath_is = rw left (record {
        law = record {
          law = keeps_untaken driving grants (a_retry driving.keeps) polled law;
          as_beneath = λ isnt. rw isnt refl;
          fallen = λ stop. no_stop (unless_stop polled.past.over) _ (never_stop polled.past.over) stop;
          untaken = λ some. sym what_is_left.ended ∙ some;
        };
        fits = what_is_left.fits;
        keeps = what_is_left.keeps;
      })

    -- One that gives up. Where the retry beneath has stopped it is over already, and stays so.
    module _ (w : RetryingOf R D) (gives : RetryGivesUp grants v.retrying w) where
      gone_same : is_some v.retrying.past.over ≡ true → w ≡ v.retrying
      gone_same over = rw over at gives

      gone_over : is_some v.retrying.past.over ≡ false → w.past.over ≡ Some how.Cancelled
      gone_over isnt = ap (λ (w : RetryingOf R D). w.past.over) (rw isnt at gives).1

      keeps_gone : (s : Option F) → KeepsStop fault_code v.retrying s → KeepsStop fault_code w s
      keeps_gone None isnt =
          let none = sym (is.law.as_beneath isnt) ∙ unended in
          ap is_stop (gone_over (ap is_some none))
      keeps_gone (Some fault) keeps =
          subst (λ (w : RetryingOf R D). KeepsStop fault_code w (Some fault))
          (sym (gone_same (stop_over v.retrying.past.over keeps.0))) keeps

      gone_as : is_stop w.past.over ≡ false → Some how.Cancelled ≡ w.past.over
      gone_as isnt =
          by_test (is_some v.retrying.past.over)
          (λ over.
          let stays = ap (λ (w : RetryingOf R D). is_stop w.past.over) (gone_same over) in
          let same = is.law.as_beneath (sym stays ∙ isnt) in
          absurd (let bad : false ≡ true = sym (ap is_some unended) ∙ ap is_some same ∙ over in cc))
          (λ none. sym (gone_over none))

      pub gone_is : Lawful grants → IsFalling driving outputs grants item_code fault_code
          (record { retrying = w; over = Some how.Cancelled; untaken = true; asked = v.asked; answered = v.answered })
          stopped (Some Cancelled)
      gone_is lawful = record {
        law = record {
          law = keeps_given_up driving grants (a_retry driving.keeps) lawful v.retrying w is.law.law gives;
          as_beneath = gone_as;
          fallen = λ stop. absurd (cc);
          untaken = λ _. refl;
        };
        fits = refl;
        keeps = keeps_gone stopped is.keeps;
      }

  -- one that has not begun
  pub new_is : {I F : Type 0} (item_code : I → ℕ) (fault_code : F → ℕ) (v : Falling R D) →
      KeepsLaw driving grants (a_retry driving.keeps) v.retrying → v.over ≡ v.retrying.past.over →
      v.retrying.past.over ≡ None → v.untaken ≡ false →
      IsFalling driving outputs grants item_code fault_code v None None
  new_is item_code fault_code v law same none untaken = record {
    law = record {
      law = law;
      as_beneath = λ _. same;
      fallen = λ stop. no_stop v.over _ (ap is_stop (same ∙ none)) stop;
      untaken = λ yes. absurd (let bad : false ≡ true = sym untaken ∙ yes in cc);
    };
    fits = tt;
    keeps = ap is_stop none;
  }
