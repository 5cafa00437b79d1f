-- Each call on a machine is one poll of each task that it may stand for.
use Rattle.std.proofs.Common.{◌≡◌, ℕ, if◌then◌else◌, ◌+◌, ◌<◌, ◌≤◌, inl, inr, Bool, true, false, not, nat_lt, List, []}
use Rattle.std.proofs.Common.{◌∷◌, ◌++◌, length, min, Option, Some, None, is_some, IfSome, IsSomeAnd, refl, sym, ap}
use Rattle.std.proofs.Common.{◌∙◌, subst, arith}
use Rattle.std.specs.Bool.{MatchBool}
use Rattle.std.proofs.lemmas.List.{append-nil, length_push}
use Rattle.sched_time.specs.declared.numbers.Tick.{Tick}
use Rattle.sched_effect.specs.Runs.{code_of}
use Rattle.sched_effect.specs.declared.ran.Ran.{Ran}
use Rattle.sched_task.specs.declared.endings.How.{How}
use Rattle.sched_task.specs.declared.endings.How.TheVariants as how
use Rattle.sched_ticket_draws.specs.Grants.{Grants, Lawful}
use Rattle.sched_task_law.specs.Kind.{Kind, keeps, draws, calls}
use Rattle.sched_task_law.specs.Past.{Past, unstepped, is_under_way, is_too_late, waits_for}
use Rattle.sched_task_law.specs.Poll.{Happened, stays, cannot_begin, runs_on, cannot_run, ends, breaks, stops_done}
use Rattle.sched_task_law.specs.Poll.{stops_denied, recurs, times_out, after, IsDue, CanRun, RoomIn, RefusedIn, Steps}
use Rattle.sched_task_law.specs.Poll.{May}
use Rattle.sched_task_law.specs.Law.{Law}
use Rattle.sched_task_law.proofs.Lists.{by_test}
use Rattle.sched_task_law.proofs.Fields.{none_of}
use Rattle.sched_task_law.proofs.Law.{under_way_then, finished_then, law_of_nothing, law_cancelled}
use Rattle.sched_run_machine.specs.Drives.{Driving, SteppedOn}
use Rattle.sched_run_machine.specs.Machine.{Machine, begins, unbegun, would_be_late, timed_out, breaks_off, cancelled}
use Rattle.sched_run_machine.specs.Machine.{IsMachineOf, IsMachine, Looks, LeadsEach, PollsEach, Stops, Ends, TellsEnd}
use Rattle.sched_run_machine.specs.Machine.{Cancels}
use Rattle.sched_run_machine.specs.Retrying.{Retrying, RetryLaw, Tells, Drawn, DrawsIn, HostPoll, given_up, GivesUp}
use Rattle.sched_run_machine.proofs.Settles.{next, settles, rests}

-- whatever happens in a poll, the deadline stays
pub same_deadline : (kind : Kind) (v : Past) (t : Tick) (h : Happened) → (after kind v t h).deadline ≡ v.deadline
same_deadline kind v t stays = refl
same_deadline kind v t _ = refl

-- what is under way does not begin too late
pub running_in_time : {R D : Type 0} (deadline : Option ℕ) (m : Machine R D) (now : ℕ) → m.under_way ≡ true →
    would_be_late deadline m now ≡ false
running_in_time deadline m now running = grind arith

-- a number that is counted up to a limit is some where the number is
some_counted : (told runs : ℕ) → told ≡ min runs 18446744073709551615 → nat_lt 0 told ≡ nat_lt 0 runs
some_counted told runs is = grind arith

-- a task that gives up keeps its law
pub law_given_up-not : {D : Type 0} (grants : Grants D) (lawful : Lawful grants) (kind : Kind) (v u : Retrying D) →
    v.past.over ≡ None → RetryLaw grants kind v →
    grants.ended v.drawing (not (is_under_way v.past.runs v.past.begun)) u.drawing → u ≡ given_up v u.drawing →
    RetryLaw grants kind u
law_given_up-not grants lawful kind v u unended law tells same =
    let told = lawful.ends v.drawing (not (is_under_way v.past.runs v.past.begun)) u.drawing tells in
    let over : (if is_some v.past.over then v.past.over else Some how.Cancelled) ≡ Some how.Cancelled =
    rw unended refl in
    subst (λ (u : Retrying _). RetryLaw grants kind u) (sym same) (record {
      law = subst (λ (over : Option How). Law kind (record v.past { over = over })) over
          (law_cancelled kind v.past law.law);
      granted = told.same.granted ∙ law.granted;
      denied = λ is. told.refused (law.denied is);
      stands = told.same.stands law.stands;
      untaken = λ _. refl;
    })

pub law_given_up : {D : Type 0} (grants : Grants D) (lawful : Lawful grants) (kind : Kind) (v u : Retrying D) →
    RetryLaw grants kind v → GivesUp grants v u → RetryLaw grants kind u
law_given_up grants lawful kind v u law gives =
    by_test (is_some v.past.over)
    (λ over. subst (λ (u : Retrying _). RetryLaw grants kind u) (sym (rw over at gives)) law)
    (λ isnt.
    let gone = rw isnt at gives in
    law_given_up-not grants lawful kind v u (none_of v.past.over isnt) law gone.0 gone.1)

module _ {R D : Type 0} (driving : Driving R) (kind : Kind) (grants : Grants D) (lawful : Lawful grants) where
  -- a machine that has not begun stands for a task that has not
  pub stands_new : (r : R) (p : D) → grants.stands p → driving.stands r (unstepped (driving.plan r)) →
      IsMachineOf driving kind grants (begins grants r p) (unbegun grants (driving.plan r) (driving.ends r) p)
  stands_new r p holds fresh = record {
    law = record {
      law = law_of_nothing kind (driving.plan r) (driving.ends r);
      granted = omega arith;
      denied = λ yes. absurd cc;
      stands = holds;
      untaken = λ yes. absurd cc;
    };
    driver = fresh;
    deadline = refl;
    under_way = refl;
    over = refl;
    drawing = refl;
    had = refl;
    told = refl;
  }

  -- the machine and each task that it may stand for would begin another run too late, or neither
  late_of : (m : Machine R D) (v : Retrying D) (now : ℕ) → IsMachineOf driving kind grants m v →
      would_be_late (driving.ends m.driver) m now ≡ is_too_late v.past now
  late_of m v now st = rw (st.deadline, st.under_way, some_counted m.told (length v.past.runs) st.told) refl

  module _ (m : Machine R D) (t : Tick) where
    -- the task after a poll in which this happened, and the machine n that may stand for it
    polled : (n : Machine R D) (v : Retrying D) → IsMachineOf driving kind grants m v → (h : Happened) (q : D)
        (told : List Ran) → v.past.over ≡ None → May kind v.past t h → DrawsIn grants (draws kind) h t.now v.drawing q →
        grants.stands q → (after kind v.past t h).runs ≡ v.past.runs ++ told →
        driving.stands n.driver (after kind v.past t h).driver → driving.ends n.driver ≡ driving.ends m.driver →
        n.under_way ≡ is_under_way (after kind v.past t h).runs (after kind v.past t h).begun →
        n.over ≡ (after kind v.past t h).over → n.drawing ≡ q → n.had ≡ m.had →
        n.told ≡ min (length (v.past.runs ++ told)) 18446744073709551615 →
        (u : Retrying D) × HostPoll grants kind v t told u × IsMachineOf driving kind grants n u
    polled n v st h q told unended may draws holds runs driver same_end under_way over drawing had count =
        let was = settles grants lawful kind v t h q st.law unended may draws holds in (
          next grants lawful kind v t h q,
          record { poll = was.poll; runs = runs },
          record {
            law = was.law;
            driver = driver;
            deadline = same_end ∙ st.deadline ∙ sym (same_deadline kind v.past t h);
            under_way = under_way;
            over = over;
            drawing = drawing;
            had = had ∙ st.had;
            told = count ∙ ap (λ (runs : List Ran). min (length runs) 18446744073709551615) (sym runs);
          },
        )

    -- polls of the value that a contract sees
    pub polled_as : (w n : Machine R D) (told : List Ran) → m ≡ w → PollsEach driving kind grants m t told n →
        PollsEach driving kind grants w t told n
    polled_as w n told same polls = subst (λ (m : Machine R D). PollsEach driving kind grants m t told n) same polls

    -- and what they leave
    pub left : (w n : Machine R D) (told : List Ran) → m ≡ w → PollsEach driving kind grants w t told n →
        IsMachine driving kind grants m → IsMachine driving kind grants n
    left w n told same polls is =
        let was = subst (λ (m : Machine R D). IsMachine driving kind grants m) same is in
        let after = polls.leads was.0 was.1 in (after.0, after.2)

    -- a task that stays as it is
    pub stays_as : Looks driving kind grants m t true → PollsEach driving kind grants m t [] m
    stays_as may = record {
      leads = λ v st. (
        v,
        record {
          poll = rests grants lawful kind v t (is_some v.past.over) refl st.law (may v st);
          runs = sym (append-nil v.past.runs);
        },
        st,
      );
    }

    -- What a look tells: one that is over stays as it is, and so does one that waits for a later moment; else it is
    -- due.
    pub looks_over : is_some m.over ≡ true → Looks driving kind grants m t true
    looks_over over v st = inl (ap is_some (sym st.over) ∙ over)

    pub looks : (due : Option ℕ) (later : Bool) → m.over ≡ None →
        ((v : Retrying D) → IsMachineOf driving kind grants m v → due ≡ waits_for v.past) →
        MatchBool later (IsSomeAnd due (λ s. t.now < s)) (IfSome due (λ s. s ≤ t.now)) →
        Looks driving kind grants m t later
    looks due true unended is later =
        λ v st. inr (subst (λ (due : Option ℕ). IsSomeAnd due (λ s. t.now < s)) (is v st) later)
    looks due false unended is later = λ v st.
        let none = sym st.over ∙ unended in
        record {
          unended = none;
          unstopped = rw none at st.law.law.ended;
          due = subst (λ (due : Option ℕ). IfSome due (λ s. s ≤ t.now)) (is v st) later;
        }

    -- a run that is under way can be polled
    pub can_end : m.over ≡ None → m.under_way ≡ true → Looks driving kind grants m t false
    can_end unended running v st =
        let none = sym st.over ∙ unended in
        let under = sym st.under_way ∙ running in
        record { unended = none; unstopped = rw none at st.law.law.ended; due = rw (none, under) tt }

    -- no run finishes, and none is told
    none_told : (v : Retrying D) → IsMachineOf driving kind grants m v →
        m.told ≡ min (length (v.past.runs ++ [])) 18446744073709551615
    none_told v st =
        st.told ∙ ap (λ (runs : List Ran). min (length runs) 18446744073709551615) (sym (append-nil v.past.runs))

    -- Polls of the value w that a contract sees, which is due.
    module _ (w : Machine R D) (same : m ≡ w) (due_then : Looks driving kind grants w t false) where
      due : (v : Retrying D) → IsMachineOf driving kind grants m v → IsDue v.past t
      due v st = due_then v (subst (λ (m : Machine R D). IsMachineOf driving kind grants m v) same st)

      late_as : (late : Bool) → would_be_late (driving.ends w.driver) w t.now ≡ late → (v : Retrying D) →
          IsMachineOf driving kind grants m v → is_too_late v.past t.now ≡ late
      late_as late is v st =
          sym (late_of m v t.now st) ∙ ap (λ (m : Machine R D). would_be_late (driving.ends m.driver) m t.now) same ∙ is

      -- what draws is told that the task is over, and stands
      stands_then : (v : Retrying D) (unused : Bool) (q : D) → IsMachineOf driving kind grants m v →
          grants.ended v.drawing unused q → grants.stands q
      stands_then v unused q st tells = (lawful.ends v.drawing unused q tells).same.stands st.law.stands

      -- and so is that of each task that the machine may stand for
      told_of : (v : Retrying D) (unused : Bool) (q : D) → IsMachineOf driving kind grants m v →
          grants.ended m.drawing unused q → grants.ended v.drawing unused q
      told_of v unused q st tells = subst (λ (p : D). grants.ended p unused q) st.drawing tells

      -- another run would begin too late
      pub ends_late : (q : D) → grants.ended m.drawing true q → would_be_late (driving.ends w.driver) w t.now ≡ true →
          PollsEach driving kind grants w t [] (timed_out m q)
      ends_late q tells late =
          polled_as w (timed_out m q) [] same (record {
            leads = λ v st.
                let told = told_of v true q st tells in
                polled (timed_out m q) v st times_out q [] (due v st).unended (due v st, late_as true late v st)
                told
                (stands_then v true q st told) (sym (append-nil v.past.runs)) st.driver refl st.under_way refl refl
                refl (none_told v st);
          })

      module _ (in_time : would_be_late (driving.ends w.driver) w t.now ≡ false) where
        can : (v : Retrying D) → IsMachineOf driving kind grants m v → CanRun v.past t
        can v st = record { is_due = due v st; in_time = late_as false in_time v st }

        -- a run begins, or is under way
        pub begins_run : PollsEach driving kind grants w t [] (record m { under_way = true })
        begins_run =
            polled_as w (record m { under_way = true }) [] same (record {
              leads = λ v st.
                  polled (record m { under_way = true }) v st runs_on v.drawing [] (due v st).unended (can v st) refl
                  st.law.stands (sym (append-nil v.past.runs)) st.driver refl
                  (sym (under_way_then v.past t st.law.law.counted)) st.over st.drawing refl (none_told v st);
            })

        -- memory is refused to it, or to its beginning
        broken : (begun : Bool) (q : D) → grants.ended m.drawing (not begun) q →
            (m.under_way ≡ true → begun ≡ true) →
            LeadsEach driving kind grants m t [] (breaks_off begun m q)
        broken true q tells begun v st =
            let told = told_of v false q st tells in
            polled (breaks_off true m q) v st cannot_run q [] (due v st).unended (can v st) told
            (stands_then v false q st told)
            (sym (append-nil v.past.runs)) st.driver refl (sym (under_way_then v.past t st.law.law.counted)) refl
            refl
            refl (none_told v st)
        broken false q tells begun v st =
            let unbegun : m.under_way ≡ false =
            by_test m.under_way (λ running. absurd (let bad : false ≡ true = begun running in cc)) (λ isnt. isnt) in
            let none : is_under_way v.past.runs v.past.begun ≡ false = sym st.under_way ∙ unbegun in
            let told = told_of v true q st tells in
            polled (breaks_off false m q) v st cannot_begin q [] (due v st).unended (can v st, none) told
            (stands_then v true q st told)
            (sym (append-nil v.past.runs)) st.driver refl (sym none) refl refl refl (none_told v st)

        pub breaks_run : (begun : Bool) (q : D) → grants.ended m.drawing (not begun) q →
            (w.under_way ≡ true → begun ≡ true) →
            PollsEach driving kind grants w t [] (breaks_off begun m q)
        breaks_run begun q tells running =
            polled_as w (breaks_off begun m q) [] same (record {
              leads = broken begun q tells (λ is. running (sym (ap (λ (m : Machine R D). m.under_way) same) ∙ is));
            })

        -- the run ends as it went
        abbrev pub ended : R → Option How → D → Machine R D
        ended s over q =
            record m {
              driver = s;
              under_way = false;
              over = over;
              drawing = q;
              told =
                  min (m.told + 1) 18446744073709551615;
            }

        counted : (v : Retrying D) (r : Ran) → IsMachineOf driving kind grants m v →
            min (m.told + 1) 18446744073709551615 ≡ min (length (v.past.runs ++ r ∷ [])) 18446744073709551615
        counted v r st = omega (arith, st.told, length_push v.past.runs r)

        idle : (v : Retrying D) (r : Ran) → IsMachineOf driving kind grants m v →
            false ≡ is_under_way (after kind v.past t (ends r)).runs (after kind v.past t (ends r)).begun
        idle v r st = sym (finished_then v.past t r st.law.law.counted)

        same_driver : (v : Retrying D) (s : R) → IsMachineOf driving kind grants m v → s ≡ m.driver →
            driving.stands s v.past.driver
        same_driver v s st same = subst (λ (r : R). driving.stands r v.past.driver) (sym same) st.driver

        -- what draws for each task that the machine may stand for was told the same
        told_run : (v : Retrying D) (r : Ran) (x : D) → IsMachineOf driving kind grants m v →
            Tells grants r t.now m.drawing x → Tells grants r t.now v.drawing x
        told_run v r x st tells = subst (λ (p : D). Tells grants r t.now p x) st.drawing tells

        last_told : (x y q : D) → y ≡ x → grants.ended y false q → grants.ended x false q
        last_told x y q none tells = subst (λ (y : D). grants.ended y false q) none tells

        -- it ends a run that calls for a step
        module _ (kept : keeps kind ≡ driving.keeps) (r : Ran) (called : calls kind r ≡ true) where
          step_on : (v : Retrying D) (s : R) (done : Bool) → IsMachineOf driving kind grants m v →
              SteppedOn driving (driving.ends m.driver) v.past.driver t (code_of r) done s →
              SteppedOn driving v.past.deadline v.past.driver t (code_of r) done s
          step_on v s done st step =
              subst (λ (end : Option ℕ). SteppedOn driving end v.past.driver t (code_of r) done s) st.deadline step

          steps : (v : Retrying D) (s : R) (done : Bool) → IsMachineOf driving kind grants m v →
              SteppedOn driving v.past.deadline v.past.driver t (code_of r) done s → Steps kind v.past t r
          steps v s done st step = record {
            can = can v st;
            called = called;
            room = subst (λ (k : Bool). RoomIn k v.past.driver t.now) (sym kept) step.room;
          }

          -- what draws was told how the run went, and is told that the task is over, where it is
          stops_leads : (over : Option How) (s : R) (x y q : D) → driving.ends s ≡ driving.ends m.driver →
              Tells grants r t.now m.drawing x →
              Stops driving kind grants m.driver x t (code_of r) over s y → TellsEnd grants over y q → grants.stands q →
              LeadsEach driving kind grants m t (r ∷ []) (ended s over q)
          stops_leads None s x y q same tells came last holds v st =
              let step = step_on v s false st (came.0 v.past.driver st.driver) in let steps = steps v s false st step in
              polled (ended s None q) v st (recurs r) q (r ∷ []) (due v st).unended (steps, step.done_is)
              (x, told_run v r x st tells, subst (λ (q : D). Drawn grants (draws kind) t.now x q) (sym last) came.1)
              holds
              refl step.stands_on same
              (idle v r st) (sym (due v st).unended) refl refl (counted v r st)
          stops_leads (Some how.ScheduleDone) s x y q same tells came last holds v st =
              let step = step_on v s true st (came.0 v.past.driver st.driver) in let steps = steps v s true st step in
              polled (ended s (Some how.ScheduleDone) q) v st (stops_done r) q (r ∷ []) (due v st).unended
              (steps, step.done_is) (x, told_run v r x st tells, last_told x y q came.1 last) holds refl
              step.stands_on same
              (idle v r st) refl refl refl
              (counted v r st)
          stops_leads (Some how.BudgetRefused) s x y q same tells came last holds v st =
              let step = step_on v s false st (came.1 v.past.driver st.driver) in let steps = steps v s false st step in
              polled (ended s (Some how.BudgetRefused) q) v st (stops_denied r) q (r ∷ []) (due v st).unended
              (steps, step.done_is, came.0) (x, y, told_run v r x st tells, came.2, last) holds
              refl
              step.stands_on same (idle v r st) refl refl refl (counted v r st)
          stops_leads (Some (how.Broken fault)) s x y q same tells came last holds v st =
              polled (ended s (Some (how.Broken fault)) q) v st (breaks r fault) q (r ∷ []) (due v st).unended (
                can v st,
                called,
                subst (λ (k : Bool). RefusedIn k v.past.driver t.now fault) (sym kept)
                    (came.0 v.past.driver st.driver),
              )
              (x, told_run v r x st tells, last_told x y q came.2 last) holds refl
              (same_driver v s st came.1) same (idle v r st) refl refl refl (counted v r st)
          stops_leads (Some _) s x y q same tells came last holds v st = absurd came

        -- it ends a run as it went
        ends_leads : (kept : keeps kind ≡ driving.keeps) (r : Ran) (over : Option How) (s : R) (q : D) →
            driving.ends s ≡ driving.ends m.driver →
            Ends driving kind grants m.driver m.drawing t r over s q → grants.stands q →
            LeadsEach driving kind grants m t (r ∷ []) (ended s over q)
        ends_leads kept r over s q same came holds v st =
            by_test (calls kind r)
            (λ called. stops_leads kept r called over s came.0 came.1 q same came.2 (rw called at came.3) came.4 holds
            v st)
            (λ uncalled.
            let final_so = rw uncalled at came.3 in
            let last = subst (λ (over : Option How). TellsEnd grants over came.1 q) final_so.0 came.4 in
            polled (ended s over q) v st (ends r) q (r ∷ []) (due v st).unended (can v st, uncalled)
            (came.0, told_run v r came.0 st came.2, last_told came.0 came.1 q final_so.2 last)
            holds refl (same_driver v s st final_so.1) same (idle v r st) final_so.0 refl refl (counted v r st))

        pub ends_run : (kept : keeps kind ≡ driving.keeps) (r : Ran) (over : Option How) (s : R) (q : D) →
            driving.ends s ≡ driving.ends m.driver →
            Ends driving kind grants m.driver m.drawing t r over s q → grants.stands q →
            PollsEach driving kind grants w t (r ∷ []) (ended s over q)
        ends_run kept r over s q same_end came holds =
            polled_as w (ended s over q) (r ∷ []) same (record {
              leads =
                  ends_leads kept r over s q same_end came holds;
            })

  -- one that gives up, where it is not over, and what it may stand for
  pub gone_stands : (m : Machine R D) (q : D) → m.over ≡ None → grants.ended m.drawing (not m.under_way) q →
      (v : Retrying D) → IsMachineOf driving kind grants m v →
      GivesUp grants v (given_up v q) × IsMachineOf driving kind grants (cancelled m q) (given_up v q)
  gone_stands m q unended tells v st =
      let none = sym st.over ∙ unended in
      let told = subst (λ (running : Bool). grants.ended v.drawing (not running) q) st.under_way
      (subst (λ (p : D). grants.ended p (not m.under_way) q) st.drawing tells) in
      let gives : GivesUp grants v (given_up v q) = rw none (told, refl) in (
        gives,
        record {
          law = law_given_up grants lawful kind v (given_up v q) st.law gives;
          driver = st.driver;
          deadline = st.deadline;
          under_way = st.under_way;
          over = refl;
          drawing = refl;
          had = st.had;
          told = st.told;
        },
      )

  -- one that is over stays so
  stays_given : (m : Machine R D) → is_some m.over ≡ true → (v : Retrying D) → IsMachineOf driving kind grants m v →
      GivesUp grants v v
  stays_given m over v st = rw (sym (ap is_some st.over) ∙ over) refl

  pub over_stays : (m : Machine R D) → is_some m.over ≡ true → (v : Retrying D) →
      IsMachineOf driving kind grants m v →
      (u : Retrying D) × GivesUp grants v u × IsMachineOf driving kind grants m u
  over_stays m over v st = (v, stays_given m over v st, st)

  pub cancels : (m n : Machine R D) → Cancels grants m n → (v : Retrying D) → IsMachineOf driving kind grants m v →
      (u : Retrying D) × GivesUp grants v u × IsMachineOf driving kind grants n u
  cancels m n did v st =
      by_test (is_some m.over)
      (λ over. (
        v,
        stays_given m over v st,
        subst (λ (n : Machine R D). IsMachineOf driving kind grants n v) (sym (rw over at did)) st,
      ))
      (λ isnt.
      let gone = rw isnt at did in
      let so = gone_stands m n.drawing (none_of m.over isnt) gone.0 v st in (
        given_up v n.drawing,
        so.0,
        subst (λ (n' : Machine R D). IsMachineOf driving kind grants n' (given_up v n.drawing)) (sym gone.1) so.1,
      ))

  pub cancels_left : (m n : Machine R D) → Cancels grants m n → IsMachine driving kind grants m →
      IsMachine driving kind grants n
  cancels_left m n did is = let so = cancels m n did is.0 is.1 in (so.0, so.2)

  -- what is always so of a machine: it has what draws as that stands, and no fewer tickets than at its beginning
  pub has_drawn : (m : Machine R D) → IsMachine driving kind grants m →
      (m.had ≤ grants.granted m.drawing) × grants.stands m.drawing
  has_drawn m is =
      let st = is.1 in (
        omega (arith, st.law.granted, st.had, ap grants.granted st.drawing),
        subst grants.stands (sym st.drawing) st.law.stands,
      )

  -- so it is of the value that a contract sees
  pub seen : (m w : Machine R D) → m ≡ w → IsMachine driving kind grants m → IsMachine driving kind grants w
  seen m w same = subst (λ (m : Machine R D). IsMachine driving kind grants m) same
