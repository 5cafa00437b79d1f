-- A share goes on by claims and by closing jobs.
use Rattle.std.proofs.Common.{◌≡◌, ℕ, ◌+◌, ◌<◌, ◌≤◌, Bool, true, false, List, [], ◌∷◌, ◌++◌, length, take, drop, Option}
use Rattle.std.proofs.Common.{Some, None, is_some, if◌then◌else◌, refl, sym, ap, ◌∙◌, subst, arith, append_assoc}
use Rattle.std.proofs.Common.{length-append, take-append-drop, ⊎_elim}
use Rattle.std.specs.Option.{ForSome}
use Rattle.sched_ticket.specs.Lists.{total}
use Rattle.sched_ticket.specs.Held.{Name, Held, IsOf}
use Rattle.sched_ticket.specs.Calls.{Drew, DrawRefused}
use Rattle.sched_ticket.specs.declared.view.View.{View}
use Rattle.sched_ticket.proofs.Sums.{total-append}
use Rattle.sched_pool_claim.specs.Portion.{Portion, Took, IsShareOf}
use Rattle.sched_pool_worker.specs.Working.{Noted, WentOn, numbers, open_number, open_numbers, still_to_do}

pub went_nowhere : (s : Portion) → WentOn s s
went_nowhere s = record { claimed = []; closed = []; tickets = refl; active = λ h. refl; refusals = omega arith }

pub went_then : (s t u : Portion) → WentOn s t → WentOn t u → WentOn s u
went_then s t u first rest = record {
  claimed = rest.claimed ++ first.claimed;
  closed = first.closed ++ rest.closed;
  tickets =
      rest.tickets ∙ ap (λ ts. rest.claimed ++ ts) first.tickets
      ∙ sym (append_assoc rest.claimed first.claimed s.pass.has.tickets);
  active = λ h. omega (
    arith,
    first.active h,
    rest.active h,
    total-append h first.closed t.active,
    total-append h first.claimed s.active,
    total-append h rest.closed u.active,
    total-append h rest.claimed t.active,
    total-append h (first.closed ++ rest.closed) u.active,
    total-append h first.closed rest.closed,
    total-append h (rest.claimed ++ first.claimed) s.active,
    total-append h rest.claimed first.claimed,
  );
  refusals = omega (arith, first.refusals, rest.refusals);
}

drawn_refusals : (v : View) (k : ℕ) (w : View) → Drew v k w → w.refusals ≡ v.refusals
drawn_refusals v k w d = ap (λ (u : View). u.refusals) d.gained ∙ ap (λ (u : View). u.refusals) d.asks.same

drawn_terms : (v : View) (k : ℕ) (w : View) → Drew v k w → w.terms ≡ v.terms
drawn_terms v k w d = ap (λ (u : View). u.terms) d.gained ∙ ap (λ (u : View). u.terms) d.asks.same

-- a claim of a job
pub went_on_by : (s t : Portion) (job : ℕ) → Took s job t → t.pass.has.tickets ≡ job ∷ s.pass.has.tickets → WentOn s t
went_on_by s t job took tickets = record {
  claimed = job ∷ [];
  closed = [];
  tickets = tickets;
  active = λ h. omega (arith, ap (total h) took.active, total-append h s.active (job ∷ []));
  refusals = omega (arith, ap length (drawn_refusals s.pass.has job t.pass.has took.drew));
}

pub to_do_as_before : (s t : Portion) (job : ℕ) → Took s job t → t.pass.has.tickets ≡ job ∷ s.pass.has.tickets →
    length s.pass.has.tickets ≤ job → still_to_do t ≡ still_to_do s
to_do_as_before s t job took tickets later = omega (
  arith,
  took.below,
  later,
  ap length tickets,
  ap length took.active,
  length-append s.active (job ∷ []),
  ap (λ k. k.limit) (drawn_terms s.pass.has job t.pass.has took.drew),
)

-- what a refused draw leaves
pub record IsRefused (v w : View) : Type 0 where
  pub refusals : length v.refusals ≤ length w.refusals
  pub some : 0 < length w.refusals
  pub terms : w.terms ≡ v.terms

pub refused : (v w : View) → DrawRefused v w → IsRefused v w
refused v w none = ⊎_elim
    (λ before. record {
      refusals = omega (arith, ap (λ (u : View). length u.refusals) before.2);
      some = omega (arith, ap (λ (u : View). length u.refusals) before.2, before.1);
      terms = ap (λ (u : View). u.terms) before.2;
    })
    (λ now. record {
      refusals = omega (
        arith,
        ap (λ (u : View). length u.refusals) now.gained,
        ap (λ (u : View). length u.refusals) now.asks.same,
      );
      some = omega (arith, ap (λ (u : View). length u.refusals) now.gained);
      terms = ap (λ (u : View). u.terms) now.gained ∙ ap (λ (u : View). u.terms) now.asks.same;
    })
    none

-- no job is left to claim
pub went_none : (s t : Portion) → DrawRefused s.pass.has t.pass.has → t.pass.has.tickets ≡ s.pass.has.tickets
    → t.active ≡ s.active → WentOn s t
went_none s t none tickets active = record {
  claimed = [];
  closed = [];
  tickets = tickets;
  active = λ h. ap (total h) active;
  refusals = (refused s.pass.has t.pass.has none).refusals;
}

pub to_do_of_none : (s t : Portion) → DrawRefused s.pass.has t.pass.has → t.pass.has.tickets ≡ s.pass.has.tickets
    → t.active ≡ s.active →
    still_to_do t ≡ still_to_do s
to_do_of_none s t none tickets active = omega (
  arith,
  ap length tickets,
  ap length active,
  ap (λ k. k.limit) (refused s.pass.has t.pass.has none).terms,
)

-- the job where it was seen over
abbrev over_number : Noted → List ℕ
over_number seat = if is_some seat.over then seat.number ∷ [] else []

abbrev over_numbers : List Noted → List ℕ
over_numbers [] = []
over_numbers (seat ∷ seats) = over_number seat ++ over_numbers seats

each_weighs : (h : ℕ → ℕ) (n : ℕ) (over : Bool) →
    total h (if over then n ∷ [] else []) + total h (if over then [] else n ∷ []) ≡ h n
each_weighs h n true = omega arith
each_weighs h n false = omega arith

-- a job is over or open
over_or_open : (h : ℕ → ℕ) (seats : List Noted)
    → total h (over_numbers seats) + total h (open_numbers seats) ≡ total h (numbers seats)
over_or_open h [] = omega arith
over_or_open h (seat ∷ seats) = omega (
  arith,
  over_or_open h seats,
  each_weighs h seat.number (is_some seat.over),
  total-append h (over_number seat) (over_numbers seats),
  total-append h (open_number seat) (open_numbers seats),
)

-- closing what was seen over
pub went_by_closing : (s t : Portion) (seats : List Noted) (n : ℕ) → t.pass ≡ s.pass → numbers seats ≡ take n s.active →
    t.active ≡ open_numbers seats ++ drop n s.active → WentOn s t
went_by_closing s t seats n pass same active = record {
  claimed = [];
  closed = over_numbers seats;
  tickets = ap (λ (p : Held). p.has.tickets) pass;
  active = λ h. omega (
    arith,
    over_or_open h seats,
    ap (total h) same,
    ap (total h) active,
    total-append h (over_numbers seats) t.active,
    total-append h (open_numbers seats) (drop n s.active),
    total-append h (take n s.active) (drop n s.active),
    ap (total h) (take-append-drop n s.active),
  );
  refusals = omega (arith, ap (λ (p : Held). length p.has.refusals) pass);
}

-- a share's jobs have places where those of its claims have
pub have_places : (claims : Option Name) (s : Portion) (places : ℕ) → IsShareOf claims s →
    ForSome claims (λ claims. claims.terms.limit ≤ places) → s.pass.has.terms.limit ≤ places
have_places None s places of below = absurd of
have_places (Some claims) s places of below = omega (arith, below claims refl, ap (λ k. k.limit) of.1)

-- what a share is of is seen by its pass
pub of_same : (claims : Option Name) (s t : Portion) → t.pass ≡ s.pass → IsShareOf claims s → IsShareOf claims t
of_same None s t pass of = of
of_same (Some claims) s t pass of = subst (λ p. IsOf claims p) (sym pass) of
