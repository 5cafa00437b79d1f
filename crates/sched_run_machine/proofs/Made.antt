-- A poll of a task, of its machine and its runs, leaves one, whatever happens in it.
use Rattle.std.proofs.Common.{◌≡◌, ℕ, ◌-◌, Bool, true, false, not, ◌||◌, if◌then◌else◌, List, [], Option, None, is_some}
use Rattle.std.proofs.Common.{IfSome, refl, sym, ap, ◌∙◌, subst, arith}
use Rattle.std.specs.Bool.{MatchBool}
use Rattle.std.proofs.lemmas.List.{append-nil}
use Rattle.sched_time.specs.declared.numbers.Tick.{Tick}
use Rattle.sched_driver.specs.Driven.{Driven}
use Rattle.sched_effect.specs.declared.ran.Ran.{Ran}
use Rattle.sched_ticket_draws.specs.Grants.{Grants, Lawful}
use Rattle.sched_task.specs.declared.endings.How.{How}
use Rattle.sched_task_law.specs.Kind.{Kind}
use Rattle.sched_task_law.specs.Past.{is_under_way, next_start_by, waits_by, waits_for}
use Rattle.sched_task_law.specs.Law.{is_refused}
use Rattle.sched_task_law.proofs.Lists.{by_test}
use Rattle.sched_task_law.proofs.Fields.{none_of}
use Rattle.sched_task_law.proofs.Events.{denied_is}
use Rattle.sched_run_machine.specs.declared.runner.Polled.{Polled}
use Rattle.sched_run_machine.specs.Drives.{Driving}
use Rattle.sched_run_machine.specs.Machine.{Machine, would_be_late, cancelled, TimesOut, Cancels, IsMachineOf, Looks}
use Rattle.sched_run_machine.specs.Machine.{PollsEach}
use Rattle.sched_run_machine.specs.Of.{past_of, made_of, IsOf, IsTask}
use Rattle.sched_run_machine.specs.Retrying.{RetryingOf, Retrying, RetryPoll, along, IsAlong, KeepsLaw, TaskPoll}
use Rattle.sched_run_machine.specs.Retrying.{given_up, GivesUp}
use Rattle.sched_run_machine.specs.Runner.{Runs, begun_with, leaves_run, told_by, RunPolls}
use Rattle.sched_run_machine.proofs.Settles.{rests}
use Rattle.sched_run_machine.proofs.Calls.{law_given_up-not, gone_stands}
use Rattle.sched_run_machine.proofs.Runs.{finishes, begun_then, Grows, grows}

-- a machine that is too late has no run under way
late_idle : {R D : Type 0} (deadline : Option ℕ) (m : Machine R D) (now : ℕ) → would_be_late deadline m now ≡ true →
    m.under_way ≡ false
late_idle deadline m now late = grind arith

-- what a poll of the run under way left, where the machine has one under way exactly where that goes on
pub grown_by : {R D I F : Type 0} (item_code : I → ℕ) (fault_code : F → ℕ) (r s : Runs) (t : Tick)
    (polled : Polled I F) (n : Machine R D) → RunPolls item_code fault_code r t polled s →
    n.under_way ≡ leaves_run polled → Grows r s t (told_by item_code fault_code polled) n.under_way
grown_by item_code fault_code r s t polled n ran under_way = rw under_way (grows item_code fault_code r s t polled ran)

module _ {R D : Type 0} (driving : Driving R) (grants : Grants D) (lawful : Lawful grants) (kind : Kind) where
  -- its machine may stand for a task exactly where the task may be so
  stands_along : (m : Machine R D) (r : Runs) (untaken : Bool) → IsOf driving grants kind m r untaken → (d : Driven) →
      IsAlong driving grants kind (made_of driving grants m r untaken) d →
      IsMachineOf driving kind grants m (along (made_of driving grants m r untaken) d)
  stands_along m r untaken of d may = record {
    law = may.law;
    driver = may.stands;
    deadline = refl;
    under_way = of.1.under_way;
    over = refl;
    drawing = refl;
    had = refl;
    told = of.1.told;
  }

  may_be : (m : Machine R D) (r : Runs) (untaken : Bool) (d : Driven) →
      IsMachineOf driving kind grants m (along (made_of driving grants m r untaken) d) →
      IsAlong driving grants kind (made_of driving grants m r untaken) d
  may_be m r untaken d st = record { stands = st.driver; law = st.law; deadline = refl }

  -- a task keeps its law
  pub keeps_law : (m : Machine R D) (r : Runs) (untaken : Bool) → IsOf driving grants kind m r untaken →
      KeepsLaw driving grants kind (made_of driving grants m r untaken)
  keeps_law m r untaken of = (of.0, may_be m r untaken of.0 of.1)

  -- The task after a poll of its machine m, which was told what its runs r came to: these are n and s then.
  module _ (m n : Machine R D) (t : Tick) (r s : Runs) (told : List Ran) (untaken : Bool) (unended : m.over ≡ None)
      (looks : Looks driving kind grants m t false) (polls : PollsEach driving kind grants m t told n)
      (grown : Grows r s t told n.under_way) where
    abbrev Told : Driven → Type 0
    Told d = (e : Driven) × RetryPoll grants kind (along (made_of driving grants m r untaken) d) t (is_some n.over)
        (along (made_of driving grants n s (is_some n.over)) e)
        × IsMachineOf driving kind grants n (along (made_of driving grants n s (is_some n.over)) e)

    told_so : (d : Driven) → IsMachineOf driving kind grants m (along (made_of driving grants m r untaken) d) → Told d
    told_so d of =
        let v = along (made_of driving grants m r untaken) d in
        let was = polls.leads v of in
        let u = was.0 in
        let st = was.2 in
        let begun : s.begun ≡ u.past.begun =
        grown.begun ∙ ap (λ b. if b || finishes told then begun_with r t else r.begun) st.under_way
        ∙ sym (begun_then kind v.past t of.law.law.counted (looks v of) told u.past (is_some u.past.over)
        was.1.poll.poll was.1.runs) in
        let granted : grants.granted n.drawing - n.had ≡ u.past.granted =
        rw (st.drawing, st.had) (omega (arith, st.law.granted)) in
        let taken : is_some n.over ≡ u.untaken =
        ap is_some st.over ∙ sym (was.1.poll.untaken
        ∙ ap (λ (over : Option How). if is_some over then untaken else is_some u.past.over) unended) in
        let same : along (made_of driving grants n s (is_some n.over)) u.past.driver ≡ u =
        (λ i. record {
          past = record {
            driver = u.past.driver;
            deadline = st.deadline i;
            runs = (grown.runs ∙ sym was.1.runs) i;
            begun = begun i;
            over = st.over i;
            denied = (ap is_refused st.over ∙ sym (denied_is kind u.past u.past.over st.law.law.ended)) i;
            granted = granted i;
          };
          drawing = st.drawing i;
          had = st.had i;
          untaken = taken i;
        }) in (
          u.past.driver,
          subst (λ (u : Retrying D). RetryPoll grants kind v t (is_some n.over) u) (sym same)
              (subst (λ (over : Option How). RetryPoll grants kind v t (is_some over) u) (sym st.over) was.1.poll),
          subst (λ (u : Retrying D). IsMachineOf driving kind grants n u) (sym same) st,
        )

  -- nothing finishes where the deadline ends it
  pub late_grows : (m n : Machine R D) (r : Runs) (t : Tick) → would_be_late (driving.ends m.driver) m t.now ≡ true →
      TimesOut grants m n → Grows r r t [] n.under_way
  late_grows m n r t late same = record {
    runs = sym (append-nil r.runs);
    begun = rw (same.1, late_idle (driving.ends m.driver) m t.now late) refl;
  }

  module _ {E : Type 0} (fits : Option How → List Ran → E → Type 0) (m n : Machine R D) (t : Tick) (r s : Runs)
      (had ending : Option E) (is : IsTask driving grants kind fits m r had) where
    -- what a poll of its machine comes to, and of its runs, with the ending that it then has
    pub record Comes (told : List Ran) : Type 0 where
      pub looks : Looks driving kind grants m t false
      pub unended : m.over ≡ None
      pub polls : PollsEach driving kind grants m t told n
      pub grown : Grows r s t told n.under_way
      pub over : is_some n.over ≡ is_some ending
      pub fit : IfSome ending (fits n.over s.runs)

    -- its deadline ended it
    pub comes_late : Looks driving kind grants m t false → m.over ≡ None → PollsEach driving kind grants m t [] n →
        would_be_late (driving.ends m.driver) m t.now ≡ true → TimesOut grants m n → s ≡ r → is_some ending ≡ true →
        IfSome ending (fits n.over r.runs) → Comes []
    comes_late looks unended polls late same runs some fit = record {
      looks = looks;
      unended = unended;
      polls = polls;
      grown = rw runs (late_grows m n r t late same);
      over = rw same.1 (sym some);
      fit = rw runs fit;
    }

    module _ (told : List Ran) (came : Comes told) where
      so : (d : Driven) → IsMachineOf driving kind grants m (along (made_of driving grants m r (is_some had)) d) →
          (e : Driven) × RetryPoll grants kind (along (made_of driving grants m r (is_some had)) d) t (is_some n.over)
          (along (made_of driving grants n s (is_some ending)) e)
          × IsMachineOf driving kind grants n (along (made_of driving grants n s (is_some ending)) e)
      so d of =
          let was = told_so m n t r s told (is_some had) came.unended came.looks came.polls came.grown d of in
          subst (λ (untaken : Bool). (e : Driven) × RetryPoll grants kind
          (along (made_of driving grants m r (is_some had)) d) t (is_some n.over)
          (along (made_of driving grants n s untaken) e)
          × IsMachineOf driving kind grants n (along (made_of driving grants n s untaken) e))
          came.over was

      -- was one of the task
      pub polled_run : (ready : Bool) → ready ≡ is_some n.over →
          TaskPoll driving grants kind (made_of driving grants m r (is_some had)) t ready
          (made_of driving grants n s (is_some ending))
      polled_run ready over = record {
        keeps = keeps_law m r (is_some had) is.0;
        leads = λ d may.
            let was = so d (stands_along m r (is_some had) is.0 d may) in (
              was.0,
              subst (λ (ready : Bool). RetryPoll grants kind (along (made_of driving grants m r (is_some had)) d)
                  t ready
                  (along (made_of driving grants n s (is_some ending)) was.0)) (sym over) was.1,
              may_be n s (is_some ending) was.0 was.2,
            );
      }

      -- and leaves one
      pub leaves_task : IsTask driving grants kind fits n s ending
      leaves_task = let was = so is.0.0 is.0.1 in ((was.0, was.2), came.fit)

  -- a task that stays as it is
  pub stays_so : (m : Machine R D) (t : Tick) (r : Runs) (untaken : Bool) → IsOf driving grants kind m r untaken →
      Looks driving kind grants m t true → (ready : Bool) → ready ≡ is_some m.over →
      TaskPoll driving grants kind (made_of driving grants m r untaken) t ready (made_of driving grants m r untaken)
  stays_so m t r untaken of may ready over = record {
    keeps = keeps_law m r untaken of;
    leads = λ d is.
        let st = stands_along m r untaken of d is in (d, rests grants lawful kind _ t ready over is.law (may _ st), is);
  }

  -- one that is not over gives up
  abbrev pub GoneTo : Machine R D → Runs → Bool → Machine R D → Type 0
  GoneTo m r untaken n =
      IsOf driving grants kind n r true
      × GivesUp grants (made_of driving grants m r untaken) (made_of driving grants n r true)

  gone_to : (m : Machine R D) (q : D) (r : Runs) (untaken : Bool) → IsOf driving grants kind m r untaken →
      m.over ≡ None → grants.ended m.drawing (not m.under_way) q → GoneTo m r untaken (cancelled m q)
  gone_to m q r untaken of unended tells =
      let st = of.1 in
      let v = along (made_of driving grants m r untaken) of.0 in
      let so = gone_stands driving kind grants lawful m q unended tells v st in
      let granted : grants.granted m.drawing - m.had ≡ grants.granted q - m.had =
      ap (λ (n : ℕ). n - m.had) (sym (lawful.ends m.drawing (not m.under_way) q tells).same.granted) in
      let denied : is_refused m.over ≡ false = rw unended refl in
      let u = given_up v q in
      let gone : u ≡ along (made_of driving grants (cancelled m q) r true) of.0 =
      λ i. record u { past = record u.past { denied = denied i; granted = granted i } } in
      let w = made_of driving grants (cancelled m q) r true in
      let gone_of : w ≡ given_up (made_of driving grants m r untaken) q =
      λ i. record w { past = record w.past { denied = sym denied i; granted = sym granted i } } in (
        (of.0, subst (λ (u : Retrying D). IsMachineOf driving kind grants (cancelled m q) u) gone so.1),
        subst (λ (b : Bool). MatchBool b
            (made_of driving grants (cancelled m q) r true ≡ made_of driving grants m r untaken)
            (grants.ended m.drawing (not (is_under_way r.runs r.begun)) q
            × (made_of driving grants (cancelled m q) r true ≡ given_up (made_of driving grants m r untaken) q)))
            (sym (ap is_some unended))
            (subst (λ (running : Bool). grants.ended m.drawing (not running) q) st.under_way tells, gone_of),
      )

  pub gives_up_so : (m n : Machine R D) (r : Runs) (untaken : Bool) → IsOf driving grants kind m r untaken →
      m.over ≡ None → Cancels grants m n → GoneTo m r untaken n
  gives_up_so m n r untaken of unended did =
      let gone = rw unended at did in
      subst (λ (n : Machine R D). GoneTo m r untaken n) (sym gone.1) (gone_to m n.drawing r untaken of unended gone.0)

  -- one whose ending is taken
  pub taken_so : (m : Machine R D) (r : Runs) (untaken : Bool) → IsOf driving grants kind m r untaken →
      IsOf driving grants kind m r false
  taken_so m r untaken of =
      let st = of.1 in (
        of.0,
        record {
          law = record {
            law = st.law.law;
            granted = st.law.granted;
            denied = st.law.denied;
            stands = st.law.stands;
            untaken = λ yes. absurd cc;
          };
          driver = st.driver;
          deadline = st.deadline;
          under_way = st.under_way;
          over = st.over;
          drawing = st.drawing;
          had = st.had;
          told = st.told;
        },
      )

  -- it waits for what it waits for by its journal
  pub made_waits : ((s : R) (d : Driven) → driving.stands s d → driving.starts s ≡ next_start_by (driving.ends s) d) →
      (m : Machine R D) (r : Runs) (untaken : Bool) (of : IsOf driving grants kind m r untaken) →
      waits_for (along (made_of driving grants m r untaken) of.0).past
      ≡ waits_by (driving.starts m.driver) (past_of driving grants m r)
  made_waits plans m r untaken of =
      ap (λ (start : Option ℕ). waits_by start (past_of driving grants m r)) (sym (plans m.driver of.0 of.1.driver))

-- a task whose ending is taken, and one that gives up, keep their law
module _ {R D : Type 0} (driving : Driving R) (grants : Grants D) (kind : Kind) where
  pub keeps_untaken : (v : RetryingOf R D) → KeepsLaw driving grants kind v →
      KeepsLaw driving grants kind (record v { untaken = false })
  keeps_untaken v is =
      let may = is.1 in (
        is.0,
        record {
          stands = may.stands;
          law = record {
            law = may.law.law;
            granted = may.law.granted;
            denied = may.law.denied;
            stands = may.law.stands;
            untaken = λ yes. absurd cc;
          };
          deadline = may.deadline;
        },
      )

  pub keeps_given_up : (lawful : Lawful grants) (v u : RetryingOf R D) → KeepsLaw driving grants kind v →
      GivesUp grants v u → KeepsLaw driving grants kind u
  keeps_given_up lawful v u is gives =
      by_test (is_some v.past.over)
      (λ over. subst (λ (u : RetryingOf R D). KeepsLaw driving grants kind u) (sym (rw over at gives)) is)
      (λ isnt.
      let gone = rw isnt at gives in
      let may = is.1 in
      subst (λ (u : RetryingOf R D). KeepsLaw driving grants kind u) (sym gone.1) (
        is.0,
        record {
          stands = may.stands;
          law = law_given_up-not grants lawful kind (along v is.0) (given_up (along v is.0) u.drawing)
              (none_of v.past.over isnt) may.law gone.0 refl;
          deadline = may.deadline;
        },
      ))
