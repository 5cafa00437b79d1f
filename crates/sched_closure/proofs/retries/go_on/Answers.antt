-- The first two turns of the retry that is made, and those after; or the two that break one that cannot be made.
use Rattle.std.proofs.Common.{◌≡◌, [], ◌∷◌, Some, None, Err, true, refl, sym, ap, ◌∙◌}
use Rattle.sched_time.specs.declared.numbers.Tick.{Tick}
use Rattle.sched_effect.specs.Runs.{ran_by}
use Rattle.sched_task_law.specs.Kind.{a_retry}
use Rattle.sched_run_machine.specs.Machine.{begins, Machine}
use Rattle.sched_closure.specs.Turns.{calling, Turn}
use Rattle.sched_closure.specs.Calls.{machine_turning}
use Rattle.sched_closure.proofs.Unbegun.{broken_at_once}
use Rattle.sched_closure.proofs.Goes.{none_waited, goes_so}
use Rattle.sched_closure.proofs.retries.go_on.Given.{C-step}
use Rattle.sched_closure.proofs.retries.go_on.Goals as goal
use Rattle.sched_closure.proofs.retries.go_on.Goals.{in-Some, in-None}

pub returns-in_default-clause-unbegun : goal.returns-in_default-clause-unbegun
returns-in_default-clause-unbegun g c = λ clock call told gave. (
  c.args.call,
  (
    (c.alloc-alloc.result, c.in_default.field-0, c.in_default.ensures),
    broken_at_once g.D.Draws.grants g.met.D.Draws.lawful g.met.D.Quiet.quiet g.S.Drives.driving.keeps
        g.K.Clock.tells g.K.Clock.waits (C-step g) g.I.Coded.coded g.F.Coded.coded
        c.args.begin.now c.begin.new.self clock c.args.clock.now c.now.new.self (g.G.Rng.stream c.args.words.now)
        (g.G.Rng.stream c.four_words.new.rng) (g.G.Rng.stream c.four_words-2.new.rng) call c.args.call c.args.first.1
        (record { now = c.args.first.0; words = c.four_words.result }) (record {
          now = c.now.result;
          words =
              c.four_words-2.result;
        }) told c.four_words.ensures gave c.now.ensures c.four_words-2.ensures,
  ),
)

pub returns-clause-begun : goal.returns-clause-begun
returns-clause-begun g c = λ clock call told gave.
    let on = machine_turning g.D.Draws.grants (a_retry g.S.Drives.driving.keeps) g.S.Drives.driving in
    let began : Tick = record { now = c.args.first.0; words = c.four_words.result } in
    let ended : Tick = record { now = c.now.result; words = c.four_words-2.result } in
    let made = begins g.D.Draws.grants c.in-Ok.driver c.in-Ok.drawing in
    let runs : c.begun-retry.result.under_way ≡ true =
    ap (λ (m : Machine _ _). m.under_way) c.begun-retry.ensures.begun in
    let fault = Err c.args.first.1 in
    let between = calling c.begun-retry.result c.args.clock.now (g.G.Rng.stream c.four_words.new.rng) call None in
    let then = calling c.tell.new.self c.now.new.self (g.G.Rng.stream c.four_words-2.new.rng) c.args.call (Some fault)
    in
    let first : Turn on g.K.Clock.tells g.K.Clock.waits (C-step g) g.I.Coded.coded g.F.Coded.coded
    (calling made clock (g.G.Rng.stream c.args.words.now) call None) began between = record {
      told = [];
      start = None;
      due = c.begun-retry.ensures.due;
      finishes = (refl, refl, refl);
      moment = told;
      lanes = c.four_words.ensures;
      poll = c.begun-retry.ensures.polls;
    } in
    let second : Turn on g.K.Clock.tells g.K.Clock.waits (C-step g) g.I.Coded.coded g.F.Coded.coded between ended then
    = record {
      told = ran_by g.I.Coded.coded g.F.Coded.coded fault ∷ [];
      start = None;
      due = λ v st. none_waited v.past (sym st.under_way ∙ runs);
      finishes = rw runs (fault, gave, refl, refl);
      moment = c.now.ensures;
      lanes = c.four_words-2.ensures;
      poll = rw (← c.ran_of.ensures) c.tell.ensures.polls;
    } in
    let so = goes_so g.S.Drives.driving (a_retry g.S.Drives.driving.keeps) g.D.Draws.grants g.K.Clock.tells
    g.K.Clock.waits (C-step g) g.I.Coded.coded g.F.Coded.coded made c.match-tell.retry clock c.match-tell.clock
    (g.G.Rng.stream c.args.words.now) (g.G.Rng.stream c.match-tell.words) call in
    let over = sym c.over.ensures ∙ c.retry_ending-ending.ensures.over in
    elim c.match-tell.branch [
      | in-Some w ↦ (
        (c.in-Ok.driver, c.in-Ok.drawing),
        c.alloc-alloc.result,
        c.in-Ok.ensures,
        c.args.call,
        so c.args.call (began ∷ ended ∷ []) c.match-tell.outcome _ _
            (rw (w.retry-is, w.clock-is, w.words-is, w.outcome-is) (between, first, (then, second, refl)))
            c.retry_ending-ending.ensures.gave over c.begun-retry.ensures.stands,
      )
      | in-None w ↦ (
          let rest = w.call_on-outcome.ensures.turns in (
            (c.in-Ok.driver, c.in-Ok.drawing),
            c.alloc-alloc.result,
            c.in-Ok.ensures,
            rest.1,
            so rest.1 (began ∷ ended ∷ rest.0) c.match-tell.outcome _ _
                (rw (w.retry-is, w.clock-is, w.words-is, w.outcome-is) (between, first, (then, second, rest.2)))
                c.retry_ending-ending.ensures.gave over c.begun-retry.ensures.stands,
          )
          )
    ]
