-- A journal that grows by one event.
use Rattle.std.proofs.Common.{◌≡◌, ℕ, ◌+◌, ◌<◌, true, false, not, ◌||◌, nat_lt, min, List, [], ◌∷◌, ◌++◌, map, filter}
use Rattle.std.proofs.Common.{length, Option, Some, None, option_map, is_none, IsSome, refl, sym, ap, ◌∙◌, arith}
use Rattle.std.proofs.Common.{append-nil}
use Rattle.std.specs.List.{count_by}
use Rattle.std.proofs.lemmas.List.{map-append, length_push}
use Rattle.std.proofs.lemmas.List.Elements.{filter-append}
use Rattle.std.proofs.lemmas.List.Sums.{sum_by_push}
use Rattle.sched_time.specs.Decision.{start_of}
use Rattle.sched_time.specs.declared.starts.Decision.{Decision}
use Rattle.sched_time.specs.declared.starts.Decision.TheVariants.{Go, Done}
use Rattle.sched_plan.specs.Datum.{num}
use Rattle.sched_plan.specs.Schedule.{Schedule}
use Rattle.sched_plan.specs.History.{prefixes}
use Rattle.sched_plan.proofs.HistoryLaws.{prefixes-push}
use Rattle.sched_plan.specs.Answer.{answer, is_done}
use Rattle.sched_plan.specs.declared.history.Event.{Event}
use Rattle.sched_plan.specs.declared.history.Answer.{Answer}
use Rattle.sched_driver_tree.specs.Standing.{start_planned}
use Rattle.sched_driver.specs.Driven.{Driven, last_answer, next_start_of, after}
use Rattle.sched_effect.specs.Runs.{code_of}
use Rattle.sched_effect.specs.declared.ran.Ran.{Ran}
use Rattle.sched_task_law.specs.Kind.{Kind, calls}
use Rattle.sched_task_law.specs.Deadline.{in_time, ended_by, until, earlier}
use Rattle.sched_task_law.specs.Past.{decision_on, last_by, was_done, schedule_is_done, next_start_by, recurrences}
use Rattle.sched_task_law.specs.Past.{inputs, called_inputs, bit}

pub inputs-push : (h : List Event) (e : Event) → inputs (h ++ e ∷ []) ≡ inputs h ++ e.input ∷ []
inputs-push h e = map-append (λ (d : Event). d.input) h (e ∷ [])

pub called_inputs-push : (kind : Kind) (rs : List Ran) (r : Ran) → calls kind r ≡ true →
    called_inputs kind (rs ++ r ∷ []) ≡ called_inputs kind rs ++ num (code_of r) ∷ []
called_inputs-push kind rs r called =
    rw (filter-append (calls kind) rs (r ∷ [])) (rw called
    (map-append (λ (x : Ran). num (code_of x)) (filter (calls kind) rs) (r ∷ [])))

pub called_inputs-same : (kind : Kind) (rs : List Ran) (r : Ran) → calls kind r ≡ false →
    called_inputs kind (rs ++ r ∷ []) ≡ called_inputs kind rs
called_inputs-same kind rs r called =
    rw (filter-append (calls kind) rs (r ∷ [])) (rw called
    (ap (map (λ (x : Ran). num (code_of x))) (append-nil (filter (calls kind) rs))))

-- the answer to the last of some events
last_at : (deadline : Option ℕ) (s : Schedule) (h : List Event) → 0 < length h →
    last_by deadline (record { plan = s; journal = h }) ≡ Some (until deadline (answer s) h)
last_at deadline s [] some = absurd (omega arith)
last_at None s (e ∷ h) some = refl
last_at (Some end) s (e ∷ h) some = refl

pub is_done_some : (deadline : Option ℕ) (d : Driven) → 0 < length d.journal →
    schedule_is_done deadline d ≡ is_done (decision_on deadline d.plan d.journal)
is_done_some deadline d some = ap was_done (last_at deadline d.plan d.journal some)

-- after a step the next start is that of its answer
pub next_start_some : (deadline : Option ℕ) (d : Driven) → 0 < length d.journal →
    next_start_by deadline d ≡ start_of (decision_on deadline d.plan d.journal)
next_start_some deadline d some = ap start_planned (last_at deadline d.plan d.journal some)

pub recurrences-push : (deadline : Option ℕ) (d : Driven) (e : Event) →
    recurrences deadline (after d e) ≡ recurrences deadline d + bit (not (schedule_is_done deadline (after d e)))
recurrences-push deadline d e =
    let goes = λ (h : List Event). not (is_done (decision_on deadline d.plan h)) in
    ap (count_by goes) (prefixes-push d.journal e)
    ∙ sum_by_push (λ (h : List Event). bit (goes h)) (prefixes d.journal) (d.journal ++ e ∷ [])
    ∙ ap (λ b. recurrences deadline d + bit (not b))
    (sym (is_done_some deadline (after d e) (omega (arith, length_push d.journal e))))

-- what is not done has a start
pub start_some : (d : Decision) → is_done d ≡ false → IsSome (start_of d)
start_some (Go start) goes = refl
start_some Done goes = absurd cc

-- The start that a schedule has by a deadline is its own, where that is in time; there is one unless it has none, or a
-- late one.
start_of_last : (end : ℕ) (given : Option Answer) →
    start_planned (option_map (ended_by (Some end)) given) ≡ in_time (Some end) (start_planned given)
start_of_last end given = grind arith

pub none_in_time : (start : Option ℕ) → start ≡ in_time None start
none_in_time start = grind arith

pub next_start_in_time : (deadline : Option ℕ) (d : Driven) →
    next_start_by deadline d ≡ in_time deadline (next_start_of d)
next_start_in_time None d = none_in_time (next_start_of d)
next_start_in_time (Some end) d = start_of_last end (last_answer d.plan d.journal)

done_is_none : (d : Decision) → is_done d ≡ is_none (start_of d)
done_is_none d = grind arith

-- after a step it is done where it has planned no start
pub done_some : (deadline : Option ℕ) (d : Driven) → 0 < length d.journal →
    schedule_is_done deadline d ≡ is_none (next_start_by deadline d)
done_some deadline d some =
    is_done_some deadline d some ∙ done_is_none (decision_on deadline d.plan d.journal)
    ∙ ap is_none (sym (next_start_some deadline d some))

pub done_after : (deadline : Option ℕ) (d : Driven) (e : Event) →
    schedule_is_done deadline (after d e) ≡ is_none (next_start_by deadline (after d e))
done_after deadline d e = done_some deadline (after d e) (omega (arith, length_push d.journal e))

-- of two deadlines the earlier one counts
pub past_earlier : (a b start : ℕ) → nat_lt (min a b) start ≡ (nat_lt a start || nat_lt b start)
past_earlier a b start = grind arith

pub in_time_earlier : (a b start : Option ℕ) → in_time (earlier a b) start ≡ in_time a (in_time b start)
in_time_earlier a b start = grind arith

-- by the earlier of two deadlines a plan has the start that it has by one of them, where that is in time
pub start_by_both : (a b : Option ℕ) (d : Driven) → in_time a (next_start_by b d) ≡ next_start_by (earlier a b) d
start_by_both a b d =
    ap (in_time a) (next_start_in_time b d) ∙ sym (in_time_earlier a b (next_start_of d))
    ∙ sym (next_start_in_time (earlier a b) d)
