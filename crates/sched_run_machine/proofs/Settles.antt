-- What a poll of a retry or a repeat does keeps its law, whatever happens in it.
use Rattle.std.proofs.Common.{◌≡◌, ℕ, ◌+◌, Bool, true, false, if◌then◌else◌, Option, Some, None, is_some, refl, sym, ap}
use Rattle.std.proofs.Common.{◌∙◌, subst, arith}
use Rattle.sched_time.specs.declared.numbers.Tick.{Tick}
use Rattle.sched_ticket_draws.specs.Grants.{Grants, Lawful, IsTold}
use Rattle.sched_effect.specs.declared.ran.Ran.{Ran}
use Rattle.sched_effect.specs.declared.ran.Ran.TheVariants.{Won, Lost}
use Rattle.sched_task.specs.declared.endings.How.{How}
use Rattle.sched_task_law.specs.Kind.{Kind, draws}
use Rattle.sched_task_law.specs.Past.{Past, is_stopped}
use Rattle.sched_task_law.specs.Poll.{Happened, stays, cannot_begin, runs_on, cannot_run, stops_denied, recurs}
use Rattle.sched_task_law.specs.Poll.{times_out, after, May}
use Rattle.sched_task_law.proofs.Lists.{by_test}
use Rattle.sched_task_law.proofs.Law.{law_after}
use Rattle.sched_run_machine.specs.Retrying.{Retrying, RetryLaw, Tells, TellsLast, DrawsIn, RetryPoll}
use Rattle.sched_run_machine.specs.Machine.{TellsEnd}

-- what is denied is stopped
denied_stops : (v : Past) → v.denied ≡ true → is_stopped v ≡ false → ⊥
denied_stops v is not = let bad = rw is at not in cc

module _ {D : Type 0} (grants : Grants D) (lawful : Lawful grants) where
  -- what is left by a poll keeps its law, and the poll was one
  pub record Settled (kind : Kind) (v : Retrying D) (t : Tick) (ready : Bool) (u : Retrying D) : Type 0 where
    pub law : RetryLaw grants kind u
    pub poll : RetryPoll grants kind v t ready u

  -- what was told is the same, and so it is told on
  told : (r : Ran) (now : ℕ) (p q : D) → Tells grants r now p q → IsTold grants p q
  told (Won code) now p q tells = lawful.succeeds p now q tells
  told (Lost code) now p q tells = lawful.fails p now code q tells

  told_on : (p x q : D) → IsTold grants p x → IsTold grants x q → IsTold grants p q
  told_on p x q one two = record {
    same = record {
      name = two.same.name ∙ one.same.name;
      granted = two.same.granted ∙ one.same.granted;
      stands = λ holds. two.same.stands (one.same.stands holds);
    };
    refused = λ is. two.refused (one.refused is);
  }

  told_last : (r : Ran) (now : ℕ) (p q : D) → TellsLast grants r now p q → IsTold grants p q
  told_last r now p q tells =
      told_on p tells.0 q (told r now p tells.0 tells.1) (lawful.ends tells.0 false q tells.2)

  -- what stands is told how a run went, and stands
  pub stands_told : (r : Ran) (now : ℕ) (p q : D) → Tells grants r now p q → grants.stands p → grants.stands q
  stands_told r now p q tells holds = (told r now p q tells).same.stands holds

  pub stands_ended : (over : Option How) (p q : D) → TellsEnd grants over p q → grants.stands p → grants.stands q
  stands_ended None p q same holds = subst grants.stands (sym same) holds
  stands_ended (Some how) p q tells holds = (lawful.ends p false q tells).same.stands holds

  still : (p q : D) → q ≡ p → IsTold grants p q
  still p q same =
      rw same (record { same = record { name = refl; granted = refl; stands = λ holds. holds }; refused = λ is. is })

  -- A poll draws on the same budget, and its tickets and its refusal are those of what it draws by.
  module _ (kind : Kind) (v : Retrying D) (t : Tick) (q : D) (law : RetryLaw grants kind v) where
    record Drew (h : Happened) : Type 0 where
      name : grants.name q ≡ grants.name v.drawing
      granted : grants.granted q ≡ v.had + (after kind v.past t h).granted
      denied : (after kind v.past t h).denied ≡ true → grants.refused q

    drew_none : (h : Happened) → IsTold grants v.drawing q → (after kind v.past t h).granted ≡ v.past.granted →
        (after kind v.past t h).denied ≡ v.past.denied → Drew h
    drew_none h told granted denied = record {
      name = told.same.name;
      granted = told.same.granted ∙ law.granted ∙ ap (λ (n : ℕ). v.had + n) (sym granted);
      denied = λ is. told.refused (law.denied (sym denied ∙ is));
    }

    drew_in : (h : Happened) → May kind v.past t h → DrawsIn grants (draws kind) h t.now v.drawing q → Drew h
    drew_in stays may drew = drew_none stays (still v.drawing q drew) refl refl
    drew_in runs_on may drew = drew_none runs_on (still v.drawing q drew) refl refl
    drew_in cannot_run may drew = drew_none cannot_run (lawful.ends v.drawing false q drew) refl refl
    drew_in cannot_begin may drew = drew_none cannot_begin (lawful.ends v.drawing true q drew) refl refl
    drew_in times_out may drew = drew_none times_out (lawful.ends v.drawing true q drew) refl refl
    drew_in (stops_denied r) may drew =
        let before = (told r t.now v.drawing drew.0 drew.2).same in
        let over = lawful.ends drew.1 false q drew.4 in
        record {
          name = over.same.name ∙ lawful.keeps drew.0 t.now false drew.1 drew.3 ∙ before.name;
          granted = over.same.granted ∙ lawful.counts drew.0 t.now false drew.1 drew.3 ∙ before.granted ∙ law.granted;
          denied = λ yes. over.refused (lawful.denies drew.0 t.now drew.1 drew.3);
        }
    drew_in (recurs r) may drew =
        let before = told r t.now v.drawing drew.0 drew.1 in
        by_test (draws kind)
        (λ drawn. let taken = rw drawn at drew.2 in record {
          name = lawful.keeps drew.0 t.now true q taken ∙ before.same.name;
          granted = rw drawn (rw (lawful.counts drew.0 t.now true q taken, before.same.granted ∙ law.granted)
              (omega arith));
          denied = λ is. absurd (denied_stops v.past is may.0.can.is_due.unstopped);
        })
        (λ free. drew_none (recurs r) (told_on v.drawing drew.0 q before (still drew.0 q (rw free at drew.2)))
        (rw free refl) refl)
    drew_in h may drew = drew_none h (told_last _ t.now v.drawing q drew) refl refl

  -- the task after a poll in which this happened
  abbrev pub next : Kind → Retrying D → Tick → Happened → D → Retrying D
  next kind v t h q = record {
    past = after kind v.past t h;
    drawing = q;
    had = v.had;
    untaken = is_some (after kind v.past t h).over;
  }

  pub settles : (kind : Kind) (v : Retrying D) (t : Tick) (h : Happened) (q : D) → RetryLaw grants kind v →
      v.past.over ≡ None → May kind v.past t h → DrawsIn grants (draws kind) h t.now v.drawing q → grants.stands q →
      Settled kind v t (is_some (after kind v.past t h).over) (next kind v t h q)
  settles kind v t h q law unended may drew holds =
      let did = drew_in kind v t q law h may drew in
      record {
        law = record {
          law = law_after kind v.past t h law.law may;
          granted = did.granted;
          denied = did.denied;
          stands = holds;
          untaken = λ yes. yes;
        };
        poll = record {
          poll = record { happened = h; may = may; leaves = refl; ready_is = refl };
          drawing = drew;
          budget = did.name;
          had = refl;
          untaken = rw unended refl;
        };
      }

  -- there is an ending to take only where it is over
  untaken_stays : (kind : Kind) (v : Retrying D) (ready : Bool) → ready ≡ is_some v.past.over → RetryLaw grants kind v →
      v.untaken ≡ (if is_some v.past.over then v.untaken else ready)
  untaken_stays kind v ready is law =
      by_test (is_some v.past.over) (λ over. rw over refl) (λ isnt. let has = law.untaken in grind (arith, has))

  -- one that is over, or waits for a later moment, stays as it is
  pub rests : (kind : Kind) (v : Retrying D) (t : Tick) (ready : Bool) → ready ≡ is_some v.past.over →
      RetryLaw grants kind v →
      May kind v.past t stays → RetryPoll grants kind v t ready v
  rests kind v t ready is law may = record {
    poll = record { happened = stays; may = may; leaves = refl; ready_is = is };
    drawing = refl;
    budget = refl;
    had = refl;
    untaken = untaken_stays kind v ready is law;
  }
