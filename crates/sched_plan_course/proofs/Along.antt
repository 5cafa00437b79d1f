-- What is true while a plan is stepped along a course, one event after another.
use Rattle.std.proofs.Common.{◌≡◌, ℕ, zero, suc, ◌+◌, ◌-◌, ◌≤◌, List, [], ◌∷◌, ◌++◌, length, map, Option, Some, None}
use Rattle.std.proofs.Common.{option_map, IsTrue, refl, sym, ◌∙◌, ap, subst, arith, add-one, length-append}
use Rattle.std.proofs.Common.{append_assoc}
use Rattle.std.proofs.lemmas.List.{append-nil, map-append}
use Rattle.sched_time.specs.Capped.{capped}
use Rattle.sched_time.specs.Decision.{start_of}
use Rattle.sched_time.specs.declared.numbers.TheConstants.{FAR}
use Rattle.sched_time.specs.declared.starts.Decision.{Decision}
use Rattle.sched_time.specs.declared.starts.Decision.TheVariants.{Go, Done}
use Rattle.sched_plan.specs.Schedule.{Schedule}
use Rattle.sched_plan.specs.History.{prefixes}
use Rattle.sched_plan.proofs.HistoryLaws.{prefixes-push, last_moment-push}
use Rattle.sched_plan.specs.Starts.{StartsBy}
use Rattle.sched_plan.specs.declared.history.Event.{Event}
use Rattle.sched_plan.specs.declared.history.Answer.{Answer}
use Rattle.sched_step.specs.Progress.{Progress, fits}
use Rattle.sched_step.specs.StateOf.{IsStep, state_of}
use Rattle.sched_plan_course.specs.Course.{Course}
use Rattle.sched_plan_course.specs.Run.{event_at, next_moment, and_at, run}
use Rattle.sched_plan_course.specs.Lines.{line_after, lines_of, course_lines, IsLine}
use Rattle.sched_plan_course.specs.declared.lines.Line.{Line}

-- a longer history has one line more
pub lines_of-push : (s : Schedule) (h : List Event) (e : Event) →
    lines_of s (h ++ e ∷ []) ≡ lines_of s h ++ line_after s (h ++ e ∷ []) ∷ []
lines_of-push s h e =
    ap (map (line_after s)) (prefixes-push h e) ∙ map-append (line_after s) (prefixes h) ((h ++ e ∷ []) ∷ [])

-- what a step gives of the history with its event is that history's line
pub line_told : (s : Schedule) (h : List Event) (e : Event) (state : Progress) (given : Answer)
    → IsStep s (h ++ e ∷ []) state given →
    IsLine s (h ++ e ∷ []) state (record { moment = e.now; output = given.output; decision = given.decision })
line_told s h e state given step = record {
  state_is = step.state_is;
  line_is = λ i. record {
    moment = sym (last_moment-push h e) i;
    output = ap (λ (a : Answer). a.output) step.answer_is i;
    decision = ap (λ (a : Answer). a.decision) step.answer_is i;
  };
}

-- the run grows by the event that follows
run-grows : (s : Schedule) (o : Course) (n now : ℕ) → next_moment s o (run s o n) ≡ Some now → length (run s o n) ≡ n →
    run s o (n + 1) ≡ run s o n ++ event_at o n now ∷ []
run-grows s o n now next count =
    let grown : run s o (n + 1) ≡ run s o n ++ event_at o (length (run s o n)) now ∷ [] =
    rw add-one (ap (λ m. and_at o (run s o n) m) next) in
    grown ∙ ap (λ k. run s o n ++ event_at o k now ∷ []) count

-- where no event follows, the run stays as it is
run-ends : (s : Schedule) (o : Course) (n : ℕ) → next_moment s o (run s o n) ≡ None → (k : ℕ)
    → run s o (n + k) ≡ run s o n
run-ends s o n ends zero =
    let same : n + zero ≡ n = omega arith in
    ap (λ m. run s o m) same
run-ends s o n ends (suc k) =
    let step : n + suc k ≡ suc (n + k) = omega arith in
    let same = run-ends s o n ends k in
    ap (λ m. run s o m) step ∙ ap (λ h. and_at o h (next_moment s o h)) same ∙ ap (λ m. and_at o (run s o n) m) ends

-- the lines so far are the first of those of a longer run
abbrev Leads : List Line → List Line → Type 0
Leads front all = (rest : List Line) × (all ≡ front ++ rest)

leads_on : (s : Schedule) (o : Course) (front : List Line) (h : List Event) (m : Option ℕ)
    → Leads front (lines_of s h) →
    Leads front (lines_of s (and_at o h m))
leads_on s o front h None leads = leads
leads_on s o front h (Some now) leads = (
  leads.0 ++ line_after s (h ++ event_at o (length h) now ∷ []) ∷ [],
  lines_of-push s h (event_at o (length h) now)
      ∙ ap (λ ls. ls ++ line_after s (h ++ event_at o (length h) now ∷ []) ∷ []) leads.1
      ∙ append_assoc front leads.0 (line_after s (h ++ event_at o (length h) now ∷ []) ∷ []),
)

run-leads : (s : Schedule) (o : Course) (n k : ℕ) → Leads (lines_of s (run s o n)) (lines_of s (run s o (n + k)))
run-leads s o n zero =
    let same : n ≡ n + zero = omega arith in
    subst (λ m. Leads (lines_of s (run s o n)) (lines_of s (run s o m))) same
    ([], sym (append-nil (lines_of s (run s o n))))
run-leads s o n (suc k) =
    let step : suc (n + k) ≡ n + suc k = omega arith in
    subst (λ m. Leads (lines_of s (run s o n)) (lines_of s (run s o m))) step
    (leads_on s o (lines_of s (run s o n)) (run s o (n + k)) (next_moment s o (run s o (n + k))) (run-leads s o n k))

pub course-leads : (s : Schedule) (o : Course) (n : ℕ) → n ≤ o.steps →
    (rest : List Line) × (course_lines s o ≡ lines_of s (run s o n) ++ rest)
course-leads s o n within =
    let there : n + (o.steps - n) ≡ o.steps = omega arith in
    subst (λ m. Leads (lines_of s (run s o n)) (lines_of s (run s o m))) there (run-leads s o n (o.steps - n))

-- the moment that follows comes from the planned start
next_moment-push : (s : Schedule) (o : Course) (h : List Event) (e : Event) → next_moment s o (h ++ e ∷ []) ≡
    option_map (λ t. capped (t + o.took)) (start_of (line_after s (h ++ e ∷ [])).decision)
next_moment-push s o [] e = refl
next_moment-push s o (d ∷ h) e = refl

-- a planned start is not before the moment of its event
not_before : (now start : ℕ) (d : Decision) → StartsBy now d → Some start ≡ start_of d → now ≤ start
not_before now start (Go t) from is =
    let same : start ≡ t = cc in
    subst (λ x. now ≤ x) (sym same) from
not_before now start Done from is = cc

-- n events have come, the state is that after them, and the next event is at `now`
pub record IsAlong (s : Schedule) (o : Course) (n now : ℕ) (state : Progress) : Type 0 where
  pub state_is : state ≡ state_of s (run s o n)
  pub next_is : next_moment s o (run s o n) ≡ Some now
  pub count : length (run s o n) ≡ n
  pub fits_now : IsTrue (fits s state now)

pub along_init : (s : Schedule) (o : Course) (now : ℕ) (state : Progress) → now ≡ o.from → state ≡ state_of s [] →
    IsTrue (fits s state now) → IsAlong s o 0 now state
along_init s o now state first is fit = record {
  state_is = is;
  next_is = ap Some (sym first);
  count = refl;
  fits_now = fit;
}

-- the event at `now` comes, and the line is its own
module _ (s : Schedule) (o : Course) (n now : ℕ) (e : Event) (state next : Progress) (line : Line)
    (along : IsAlong s o n now state)
    (event_is : e ≡ event_at o n now)
    (stepped : (h : List Event) → state ≡ state_of s h → IsLine s (h ++ e ∷ []) next line) where
  grown : run s o (n + 1) ≡ run s o n ++ event_at o n now ∷ []
  grown = run-grows s o n now along.next_is along.count

  told : IsLine s (run s o n ++ event_at o n now ∷ []) next line
  told = subst (λ (x : Event). IsLine s (run s o n ++ x ∷ []) next line) event_is (stepped (run s o n) along.state_is)

  -- the lines so far with this one are those of the longer run
  pub lines_next : lines_of s (run s o n) ++ line ∷ [] ≡ lines_of s (run s o (n + 1))
  lines_next =
      ap (λ l. lines_of s (run s o n) ++ l ∷ []) told.line_is ∙ sym (lines_of-push s (run s o n) (event_at o n now))
      ∙ ap (lines_of s) (sym grown)

  follows : (start : Option ℕ) → start ≡ start_of line.decision →
      next_moment s o (run s o (n + 1)) ≡ option_map (λ t. capped (t + o.took)) start
  follows start is =
      ap (next_moment s o) grown ∙ next_moment-push s o (run s o n) (event_at o n now)
      ∙ ap (option_map (λ t. capped (t + o.took))) (sym (is ∙ ap (λ (l : Line). start_of l.decision) told.line_is))

  -- where the plan is done, these are all lines
  pub ended : n + 1 ≤ o.steps → None ≡ start_of line.decision → lines_of s (run s o (n + 1)) ≡ course_lines s o
  ended within done =
      let there : n + 1 + (o.steps - (n + 1)) ≡ o.steps = omega arith in
      ap (lines_of s) (sym (run-ends s o (n + 1) (follows None done) (o.steps - (n + 1))) ∙ ap (run s o) there)

  -- where it goes on, the next event is at its start and the time that its work took
  pub goes_on : (start then : ℕ) → Some start ≡ start_of line.decision → then ≡ capped (start + o.took) →
      StartsBy e.now line.decision → e.now ≤ FAR → ((later : ℕ) → e.now ≤ later → IsTrue (fits s next later)) →
      IsAlong s o (n + 1) then next
  goes_on start then going then_is from in_range fit =
      let later : e.now ≤ start = not_before e.now start line.decision from going in
      let after : e.now ≤ then = omega arith in
      record {
        state_is = told.state_is ∙ ap (state_of s) (sym grown);
        next_is = follows (Some start) going ∙ ap Some (sym then_is);
        count = ap length grown ∙ length-append (run s o n) (event_at o n now ∷ []) ∙ ap (λ k. k + 1) along.count;
        fits_now = fit then after;
      }
