-- The ends of a board's jobs, one by one, and their sum.
use Rattle.std.proofs.Common.{◌≡◌, ℕ, suc, ◌+◌, ◌<◌, ◌≤◌, true, false, List, [], ◌∷◌, ◌++◌, map, length, refl, sym, ap}
use Rattle.std.proofs.Common.{◌∙◌, arith, length-append}
use Rattle.std.specs.Prelude.{All, slice_index_or}
use Rattle.std.proofs.lemmas.List.Elements.{All-nil, All-push}
use Rattle.sched_ticket.specs.Lists.{total}
use Rattle.sched_ticket.specs.View.{joined_view}
use Rattle.sched_ticket.specs.Steps.{IsSound, IsWithin}
use Rattle.sched_ticket.specs.Whole.{IsWhole}
use Rattle.sched_ticket.specs.Held.{Name, Held, IsOf}
use Rattle.sched_ticket.specs.declared.view.Terms.{Terms}
use Rattle.sched_ticket.specs.declared.view.View.{View}
use Rattle.sched_ticket.proofs.Sums.{total-append}
use Rattle.sched_task_law.specs.Kind.{retry}
use Rattle.sched_task_law.specs.Past.{Past}
use Rattle.sched_task_law.specs.Law.{Law, is_refused}
use Rattle.sched_task_law.proofs.Lists.{by_test}
use Rattle.sched_pool_job.specs.Jobs.{IsRefusedBy}
use Rattle.sched_task_law.proofs.Events.{denied_is}
use Rattle.sched_pool.specs.Ends.{joined, IsEnd, has_refused, Agrees}

append_none : (xs : List ℕ) → xs ++ [] ≡ xs
append_none [] = refl
append_none (x ∷ xs) = ap (λ l. x ∷ l) (append_none xs)

append_twice : (xs ys zs : List ℕ) → (xs ++ ys) ++ zs ≡ xs ++ (ys ++ zs)
append_twice [] ys zs = refl
append_twice (x ∷ xs) ys zs = ap (λ l. x ∷ l) (append_twice xs ys zs)

map_push : {A : Type 0} (f : A → ℕ) (xs : List A) (x : A) → map f (xs ++ x ∷ []) ≡ map f xs ++ f x ∷ []
map_push f [] x = refl
map_push f (y ∷ ys) x = ap (λ l. f y ∷ l) (map_push f ys x)

joined_push : (xs : List (List ℕ)) (x : List ℕ) → joined (xs ++ x ∷ []) ≡ joined xs ++ x
joined_push [] x = append_none x
joined_push (y ∷ ys) x = ap (λ l. y ++ l) (joined_push ys x) ∙ sym (append_twice y (joined ys) x)

-- a pass's tickets are within the limit of a budget that keeps it
limited : (b : Name) (p : Held) → IsOf b p → IsWithin p.has → b.terms.rises ≡ false
    → length p.has.tickets ≤ b.terms.limit
limited b p of within keeps =
    omega (arith, within.few, within.fixed (ap (λ (t : Terms). t.rises) of.1 ∙ keeps), ap (λ (t : Terms). t.limit) of.1)

-- no job was taken back yet
pub none_taken : (b : Name) (before : Held) → IsOf b before → IsWithin before.has → IsEnd b 0 before [] before 0
none_taken b before of within = record {
  all = refl;
  laws = All-nil (Law retry);
  of = of;
  sum = refl;
  drawn = [];
  each = refl;
  tickets = sym (append_none before.has.tickets);
  sound = λ some. absurd (omega (arith, some));
  limited = λ keeps. omega (arith, limited b before of within keeps);
  found = omega (arith, within.few);
  refused = All-nil (IsRefusedBy before);
}

length_joined : (xs : List (List ℕ)) → length (joined xs) ≡ total (λ n. n) (map length xs)
length_joined [] = refl
length_joined (x ∷ xs) = omega (arith, length-append x (joined xs), length_joined xs)

total_map : (f : Past → ℕ) (vs : List Past) → total (λ n. n) (map f vs) ≡ total f vs
total_map f [] = refl
total_map f (v ∷ vs) = ap (λ n. f v + n) (total_map f vs)

-- the tickets of the pass are those handed in and those granted
pub count_taken : (b : Name) (n : ℕ) (before : Held) (ends : List Past) (pass : Held) (granted : ℕ) →
    IsEnd b n before ends pass granted → length pass.has.tickets ≡ length before.has.tickets + granted
count_taken b n before ends pass granted h =
    let f : Past → ℕ = λ w. w.granted in
    omega (
      arith,
      ap (λ l. length l) h.tickets,
      length-append before.has.tickets (joined h.drawn),
      length_joined h.drawn,
      ap (λ l. total (λ n. n) l) h.each,
      total_map f ends,
      h.sum,
    )

-- a pass keeps its refusals where another is joined into it
more_refused : (p mine q : Held) → q.has ≡ joined_view p.has mine.has → (v : Past) → IsRefusedBy p v → IsRefusedBy q v
more_refused p mine q join v refused = λ denied.
    omega (
      arith,
      refused denied,
      ap (λ (w : View). length w.refusals) join,
      length-append p.has.refusals mine.has.refusals,
    )

its_refusal : (p mine q : Held) → q.has ≡ joined_view p.has mine.has → (v : Past) → IsRefusedBy mine v → IsRefusedBy q v
its_refusal p mine q join v refused = λ denied.
    omega (
      arith,
      refused denied,
      ap (λ (w : View). length w.refusals) join,
      length-append p.has.refusals mine.has.refusals,
    )

-- one more job is taken back, with its pass
pub one_taken : (b : Name) (n : ℕ) (before p mine q : Held) (ends : List Past) (granted : ℕ) (v : Past) →
    IsEnd b n before ends p granted → Law retry v → v.granted ≡ length mine.has.tickets → IsRefusedBy mine v →
    IsOf b q → q.has ≡ joined_view p.has mine.has → IsSound q.has
    → IsEnd b (n + 1) before (ends ++ v ∷ []) q (granted + v.granted)
one_taken b n before p mine q ends granted v h law same refused of join sound =
    let f : Past → ℕ = λ w. w.granted in
    let counted : length q.has.tickets ≡ length before.has.tickets + (granted + v.granted) = omega (
      arith,
      count_taken b n before ends p granted h,
      same,
      ap (λ (w : View). length w.tickets) join,
      length-append p.has.tickets mine.has.tickets,
    ) in
    record {
      all = omega (arith, h.all, length-append ends (v ∷ []));
      laws = All-push (Law retry) ends v h.laws law;
      of = of;
      sum = omega (arith, h.sum, total-append f ends (v ∷ []));
      drawn = h.drawn ++ mine.has.tickets ∷ [];
      each = map_push length h.drawn mine.has.tickets
          ∙ ap (λ l. l ++ length mine.has.tickets ∷ []) h.each
          ∙ ap (λ k. map f ends ++ k ∷ []) (sym same)
          ∙ sym (map_push f ends v);
      tickets = ap (λ (w : View). w.tickets) join
          ∙ ap (λ l. l ++ mine.has.tickets) h.tickets
          ∙ append_twice before.has.tickets (joined h.drawn) mine.has.tickets
          ∙ ap (λ l. before.has.tickets ++ l) (sym (joined_push h.drawn mine.has.tickets));
      sound = λ _. sound;
      limited = λ keeps. omega (arith, limited b q of sound.within keeps, counted);
      found = omega (arith, sound.within.few, counted);
      refused = All-push (IsRefusedBy q) ends v
          (λ k d small. more_refused p mine q join (slice_index_or ends k d) (h.refused k d small))
          (its_refusal p mine q join v refused);
    }

-- where a job was refused, so was the pass
was_refused : (pass : Held) (ends : List Past) → All (Law retry) ends → All (IsRefusedBy pass) ends
    → has_refused ends ≡ true →
    0 < length pass.has.refusals
was_refused pass [] laws refused some = absurd (cc)
was_refused pass (v ∷ ends) laws refused some =
    by_test (is_refused v.over)
    (λ yes. refused 0 v (omega arith) (denied_is retry v v.over (laws 0 v (omega arith)).ended ∙ yes))
    (λ no. was_refused pass ends (λ k d small. laws (suc k) d (omega (arith, small)))
    (λ k d small. refused (suc k) d (omega (arith, small))) (rw no at some))

pub agrees : (b : Name) (n : ℕ) (before : Held) (ends : List Past) (pass : Held) (granted : ℕ) →
    IsEnd b n before ends pass granted → (closed : IsWhole b.terms pass.has)
    → Agrees b before ends pass granted closed.limit
agrees b n before ends pass granted h closed = record {
  count = count_taken b n before ends pass granted h;
  full = λ some unraised. omega (arith, closed.count unraised, was_refused pass ends h.laws h.refused some);
}
