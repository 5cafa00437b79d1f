-- What one more event does to the outputs along a history.
use Rattle.std.proofs.Common.{◌≡◌, ℕ, ◌+◌, List, [], ◌∷◌, ◌++◌, map, Bool, true, false, cond, refl, sym, ap, ◌∙◌, arith}
use Rattle.std.specs.Prelude.{if◌then◌else◌, max, filter, zip, fold, sum}
use Rattle.std.proofs.lemmas.List.{map-append, length_push, append-nil}
use Rattle.std.proofs.lemmas.List.Elements.{filter-append}
use Rattle.std.proofs.lemmas.List.Sums.{fold-append, sum_by-append}
use Rattle.sched_time.specs.Capped.{capped}
use Rattle.sched_plan.specs.Datum.{Datum, unit, num, pair, list}
use Rattle.sched_plan.specs.History.{last_moment, prefixes}
use Rattle.sched_plan.proofs.HistoryLaws.{prefixes-push}
use Rattle.sched_plan.specs.Outputs.{goes_on, outputs, before_last, earlier_outputs, numbers_in, sum_in, count_in}
use Rattle.sched_plan.specs.Outputs.{greatest_in, number_of, with_input, fed}
use Rattle.sched_plan.specs.declared.history.Event.{Event}
use Rattle.sched_plan.specs.declared.history.Answer.{Answer}

-- the new output stands at the end, or there is none
output_or_not : (output : List Event → Datum) (ds : List Datum) (g : List Event) (goes : Bool) →
    ds ++ map output (cond goes (g ∷ []) []) ≡ cond goes (ds ++ output g ∷ []) ds
output_or_not output ds g true = refl
output_or_not output ds g false = append-nil ds

-- a capped sum goes on as the sum
capped_sum : (m n : ℕ) → capped (m + n) ≡ capped (capped m + n)
capped_sum m n = omega arith

-- the outputs grow by the new one where the schedule goes on there
pub outputs-push : (f : List Event → Answer) (h : List Event) (e : Event) →
    outputs f (h ++ e ∷ []) ≡
    (if goes_on (f (h ++ e ∷ [])).decision then outputs f h ++ (f (h ++ e ∷ [])).output ∷ [] else outputs f h)
outputs-push f h e =
    let goes : List Event → Bool = λ p. goes_on (f p).decision in
    let output : List Event → Datum = λ p. (f p).output in
    ap (λ ps. map output (filter goes ps)) (prefixes-push h e)
    ∙ ap (map output) (filter-append goes (prefixes h) ((h ++ e ∷ []) ∷ []))
    ∙ map-append output (filter goes (prefixes h)) (filter goes ((h ++ e ∷ []) ∷ []))
    ∙ output_or_not output (map output (filter goes (prefixes h))) (h ++ e ∷ []) (goes (h ++ e ∷ []))

-- without its last event a history is what it was before
pub before_last-push : (h : List Event) (e : Event) → before_last (h ++ e ∷ []) ≡ h
before_last-push [] e = refl
before_last-push (d ∷ []) e = refl
before_last-push (d ∷ c ∷ h) e = ap (λ g. d ∷ g) (before_last-push (c ∷ h) e)

-- what a step finds of earlier outputs are all outputs so far
pub earlier_outputs-push : (f : List Event → Answer) (h : List Event) (e : Event)
    → earlier_outputs f (h ++ e ∷ []) ≡ outputs f h
earlier_outputs-push f h e = ap (outputs f) (before_last-push h e)

-- the numbers of a value alone
sum_of_one : (d : Datum) → sum (numbers_in (d ∷ [])) ≡ number_of d
sum_of_one unit = refl
sum_of_one (num n) = omega arith
sum_of_one (pair a b) = refl
sum_of_one (list items) = refl

greatest_with_one : (m : ℕ) (d : Datum) → fold max m (numbers_in (d ∷ [])) ≡ max m (number_of d)
greatest_with_one m unit = omega arith
greatest_with_one m (num n) = refl
greatest_with_one m (pair a b) = omega arith
greatest_with_one m (list items) = omega arith

numbers_in-append : (ds es : List Datum) → numbers_in (ds ++ es) ≡ numbers_in ds ++ numbers_in es
numbers_in-append [] es = refl
numbers_in-append (unit ∷ ds) es = numbers_in-append ds es
numbers_in-append (num n ∷ ds) es = ap (λ ns. n ∷ ns) (numbers_in-append ds es)
numbers_in-append (pair a b ∷ ds) es = numbers_in-append ds es
numbers_in-append (list items ∷ ds) es = numbers_in-append ds es

-- a sum, a count and a greatest one over one more value, from what is kept
pub sum_in-push : (ds : List Datum) (d : Datum) → sum_in (ds ++ d ∷ []) ≡ capped (sum_in ds + number_of d)
sum_in-push ds d =
    ap (λ ns. capped (sum ns)) (numbers_in-append ds (d ∷ []))
    ∙ ap capped (sum_by-append (λ n. n) (numbers_in ds) (numbers_in (d ∷ [])))
    ∙ ap (λ n. capped (sum (numbers_in ds) + n)) (sum_of_one d)
    ∙ capped_sum (sum (numbers_in ds)) (number_of d)

pub count_in-push : (ds : List Datum) (d : Datum) → count_in (ds ++ d ∷ []) ≡ capped (count_in ds + 1)
count_in-push ds d = omega (arith, length_push ds d)

pub greatest_in-push : (ds : List Datum) (d : Datum) → greatest_in (ds ++ d ∷ []) ≡ max (greatest_in ds) (number_of d)
greatest_in-push ds d =
    ap (fold max 0) (numbers_in-append ds (d ∷ []))
    ∙ fold-append max 0 (numbers_in ds) (numbers_in (d ∷ []))
    ∙ greatest_with_one (greatest_in ds) d

-- The history that a second schedule is fed.

zip-map : (f : List Event → List Event) (G : List Event × Event → Event) (ps : List (List Event)) (h : List Event) →
    map G (zip (map f ps) h) ≡ map (λ p. G (f p.0, p.1)) (zip ps h)
zip-map f G [] h = refl
zip-map f G (p ∷ ps) [] = refl
zip-map f G (p ∷ ps) (e ∷ h) = ap (λ g. G (f p, e) ∷ g) (zip-map f G ps h)

-- its first event, and the others as those that the later events of the schedule are fed
fed-cons : (f : List Event → Answer) (e : Event) (h : List Event) →
    fed f (e ∷ h) ≡ with_input (f (e ∷ [])).output e ∷ fed (λ p. f (e ∷ p)) h
fed-cons f e h =
    ap (λ g. with_input (f (e ∷ [])).output e ∷ g)
    (zip-map (λ p. e ∷ p) (λ p. with_input (f p.0).output p.1) (prefixes h) h)

-- it grows by the event with the output at that event as its input
pub fed-push : (f : List Event → Answer) (h : List Event) (e : Event) →
    fed f (h ++ e ∷ []) ≡ fed f h ++ with_input (f (h ++ e ∷ [])).output e ∷ []
fed-push f [] e = refl
fed-push f (d ∷ h) e =
    fed-cons f d (h ++ e ∷ [])
    ∙ ap (λ g. with_input (f (d ∷ [])).output d ∷ g) (fed-push (λ p. f (d ∷ p)) h e)
    ∙ ap (λ g. g ++ with_input (f (d ∷ h ++ e ∷ [])).output e ∷ []) (sym (fed-cons f d h))

pub fed-last_moment : (f : List Event → Answer) (h : List Event) → last_moment (fed f h) ≡ last_moment h
fed-last_moment f [] = refl
fed-last_moment f (e ∷ []) = refl
fed-last_moment f (e ∷ c ∷ h) = ap last_moment (fed-cons f e (c ∷ h)) ∙ fed-last_moment (λ p. f (e ∷ p)) (c ∷ h)
