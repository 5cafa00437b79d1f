-- Retries that are taken back, one by one, and the close of their quota.
use Rattle.std.proofs.Common.{◌≡◌, ℕ, ◌+◌, ◌≤◌, Option, None, Some, true, List, [], ◌∷◌, ◌++◌, map, length, cond, refl}
use Rattle.std.proofs.Common.{sym, ap, ◌∙◌, subst, arith, length-append, eq-eqb, ne_eqb, lt_of_not-le}
use Rattle.std.specs.Prelude.{All}
use mathlib.Core.Logic.{dite}
use native.Mathlib.Decide.{ℕ_discrete, dec_le}
use Rattle.std.proofs.lemmas.List.Elements.{All-nil, All-push, All-weaker}
use Rattle.sched_ticket.specs.Lists.{total, times, is, Each, IsSame}
use Rattle.sched_ticket.proofs.Sums.{total-append, Each-append, is-same, is-other}
use Rattle.sched_ticket_quota.specs.Windows.{window_of, first_of, within, allowed, count_in}
use Rattle.sched_ticket_quota.proofs.Numbers.{within-yes, within-low, within-high}
use Rattle.sched_ticket_quota.specs.View.{joined_view}
use Rattle.sched_ticket_quota.specs.Calls.{Joined, joined_by}
use Rattle.sched_ticket_quota.specs.Held.{Name, Held, IsOf}
use Rattle.sched_ticket_quota.specs.Whole.{IsWhole}
use Rattle.sched_ticket_quota.specs.declared.view.Terms.{Terms}
use Rattle.sched_ticket_quota.specs.declared.view.View.{View}
use Rattle.sched_task_law.specs.Kind.{retry}
use Rattle.sched_task_law.specs.Past.{Past}
use Rattle.sched_task_law.specs.Law.{Law, is_refused}
use Rattle.sched_pool_json.specs.Job.{Job}
use Rattle.sched_pool_scripted.specs.Ends.{AreEndsOf}
use Rattle.sched_pool_scripted.specs.Windows.{HasDistinct}
use Rattle.sched_pool_scripted.specs.Driven.{IsUnused}
use Rattle.sched_pool_scripted.specs.QuotaBatch.{last_window, IsFull, AreRunOnQuota, AreTaken, asked_in, IsJust}
use Rattle.sched_pool_scripted.proofs.Noted.{joined_same, mapped_append, have_same, distinct_of_same}

-- no retry was taken back yet
pub none_taken : (quota : Name) (pass : Held) → IsOf quota pass → IsUnused pass.has → AreTaken quota [] pass []
none_taken quota pass of unused = record {
  laws = All-nil (Law retry);
  of = of;
  sum = ap length unused.tickets;
  once = λ x. omega (arith, ap (times x) unused.tickets);
  asked = ap length unused.requests;
  unchanged = unused.unchanged;
  early = subst (Each (λ n. window_of n ≡ 0)) (sym unused.requests) tt;
  noted = subst (λ (ts : List ℕ). IsSame [] (map window_of ts)) (sym unused.tickets) (λ h. refl);
}

-- a pass has the tickets, the requests and the terms that two had, in whichever order
record IsBoth (v w u : View) : Type 0 where
  tickets : length u.tickets ≡ length v.tickets + length w.tickets
  windows : IsSame (map window_of v.tickets ++ map window_of w.tickets) (map window_of u.tickets)
  requests : length u.requests ≡ length v.requests + length w.requests
  early : Each (λ n. window_of n ≡ 0) v.requests → Each (λ n. window_of n ≡ 0) w.requests
      → Each (λ n. window_of n ≡ 0) u.requests
  unchanged : v.changes ≡ [] → w.changes ≡ [] → u.changes ≡ []

has_both : (v w u : View) → u ≡ joined_view v w → IsBoth v w u
has_both v w u joined =
    let tickets = ap (λ (x : View). x.tickets) joined in
    let requests = ap (λ (x : View). x.requests) joined in record {
      tickets = ap length tickets ∙ length-append v.tickets w.tickets;
      windows = λ h. ap (total h) (sym (ap (map window_of) tickets ∙ mapped_append window_of v.tickets w.tickets));
      requests = ap length requests ∙ length-append v.requests w.requests;
      early = λ these those. subst (Each (λ n. window_of n ≡ 0)) (sym requests)
          (Each-append (λ n. window_of n ≡ 0) v.requests w.requests these those);
      unchanged = λ none none'.
          ap (λ (x : View). x.changes) joined ∙ ap (λ (xs : List ℕ). xs ++ w.changes) none ∙ none';
    }

turned : (v w u : View) → IsBoth w v u → IsBoth v w u
turned v w u both = record {
  tickets = omega (arith, both.tickets);
  windows = λ h. omega (
    arith,
    both.windows h,
    total-append h (map window_of v.tickets) (map window_of w.tickets),
    total-append h (map window_of w.tickets) (map window_of v.tickets),
  );
  requests = omega (arith, both.requests);
  early = λ these those. both.early those these;
  unchanged = λ none none'. both.unchanged none' none;
}

joined_both : (latest : Option ℕ) (v w u : View) → u ≡ joined_by latest v w → IsBoth v w u
joined_both None v w u joined = has_both v w u joined
joined_both (Some t) v w u joined = turned v w u (has_both w v u joined)

-- one more, with its pass
pub one_taken : (quota : Name) (ends : List Past) (v : Past) (p own q : Held) (windows noted : List ℕ) →
    AreTaken quota ends p windows → Law retry v → v.granted ≡ length own.has.tickets → length own.has.requests ≡ 1 →
    own.has.changes ≡ [] → Each (λ n. window_of n ≡ 0) own.has.requests →
    IsSame noted (map window_of own.has.tickets) → IsOf quota q → Joined p own q →
    ((x : ℕ) → times x q.has.tickets ≤ 1) → AreTaken quota (ends ++ v ∷ []) q (windows ++ noted)
one_taken quota ends v p own q windows noted taken law granted asked unchanged early same of join once =
    let f : Past → ℕ = λ w. w.granted in
    let both = joined_both own.latest p.has own.has q.has join.has in
    let noted-same =
    joined_same windows (map window_of p.has.tickets) noted (map window_of own.has.tickets) taken.noted same in
    record {
      laws = All-push (Law retry) ends v taken.laws law;
      of = of;
      sum = omega (arith, both.tickets, taken.sum, granted, total-append f ends (v ∷ []));
      once = once;
      asked = omega (arith, both.requests, taken.asked, asked, length-append ends (v ∷ []));
      unchanged = both.unchanged taken.unchanged unchanged;
      early = both.early taken.early early;
      noted = λ h. noted-same h ∙ both.windows h;
    }

as_many : (jobs : List Job) (ends : List Past) → AreEndsOf jobs ends → length ends ≡ length jobs
as_many [] [] each = refl
as_many [] (v ∷ ends) each = absurd each
as_many (job ∷ jobs) [] each = absurd each
as_many (job ∷ jobs) (v ∷ ends) each = omega (arith, as_many jobs ends each.1)

-- a number is of a window where it is among the window's
within-is : (w n : ℕ) → within (first_of w) 4294967296 n ≡ is w (window_of n)
within-is w n = dite (ℕ_discrete (window_of n) w)
    (λ here.
    omega (arith, is-same w (window_of n) here, within-yes (first_of w) 4294967296 n (omega arith) (omega arith)))
    (λ not. dite (dec_le (first_of w) n)
    (λ from.
    omega (arith, is-other w (window_of n) not, within-high (first_of w) 4294967296 n (omega (arith, from, not))))
    (λ low. omega (arith, is-other w (window_of n) not, within-low (first_of w) 4294967296 n (lt_of_not-le low))))

count-times : (w : ℕ) (xs : List ℕ) → count_in w xs ≡ times w (map window_of xs)
count-times w [] = refl
count-times w (n ∷ ns) = omega (arith, within-is w n, count-times w ns)

-- requests that are all of the window 0
count-asked : (w : ℕ) (xs : List ℕ) → Each (λ n. window_of n ≡ 0) xs → count_in w xs ≡ asked_in (length xs) w
count-asked w [] early = dite (ℕ_discrete w 0)
    (λ here. omega (arith, ap {B = ℕ} (λ b. cond b 0 0) (eq-eqb w 0 here)))
    (λ not. omega (arith, ap {B = ℕ} (λ b. cond b 0 0) (ne_eqb w 0 not)))
count-asked w (n ∷ ns) early = dite (ℕ_discrete w 0)
    (λ here. omega (
      arith,
      ap {B = ℕ} (λ b. cond b (length ns) 0) (eq-eqb w 0 here),
      ap {B = ℕ} (λ b. cond b (length (n ∷ ns)) 0) (eq-eqb w 0 here),
      within-is w n,
      is-same w (window_of n) (early.0 ∙ sym here),
      count-asked w ns early.1,
    ))
    (λ not. omega (
      arith,
      ap {B = ℕ} (λ b. cond b (length ns) 0) (ne_eqb w 0 not),
      ap {B = ℕ} (λ b. cond b (length (n ∷ ns)) 0) (ne_eqb w 0 not),
      within-is w n,
      is-other w (window_of n) (λ e. not (sym e ∙ early.0)),
      count-asked w ns early.1,
    ))

-- a window is full that stands as often among those of the tickets
full_where : (k : Terms) (all : View) (requests : ℕ) (sorted : List ℕ) (w : ℕ)
    → IsSame sorted (map window_of all.tickets) →
    length all.requests ≡ requests → Each (λ n. window_of n ≡ 0) all.requests
    → times w sorted ≡ allowed k (asked_in requests w) → IsFull k all w
full_where k all requests sorted w same many early just =
    let asked : asked_in requests w ≡ count_in w all.requests =
    ap (λ n. asked_in n w) (sym many) ∙ sym (count-asked w all.requests early) in
    count-times w all.tickets ∙ sym (same (is w)) ∙ just ∙ ap (allowed k) asked

-- the jobs that were taken back were run on the quota that was closed with their pass
pub are_run : (jobs : List Job) (quota : Name) (k : Terms) (ends : List Past) (pass : Held) (windows sorted : List ℕ)
    (granted count : ℕ) →
    quota.terms ≡ k → AreEndsOf jobs ends → AreTaken quota ends pass windows → IsWhole quota.terms pass.has →
    granted ≡ length pass.has.tickets → IsSame sorted (map window_of pass.has.tickets) → HasDistinct count sorted →
    All (IsJust k (length jobs) sorted) ends → AreRunOnQuota jobs k ends granted count
are_run jobs quota k ends pass windows sorted granted count made each taken whole closed same counted just = record {
  each = each;
  laws = taken.laws;
  sum = closed ∙ taken.sum;
  all = pass.has;
  tickets = sym closed;
  once = taken.once;
  requests = taken.asked ∙ as_many jobs ends each;
  within = (subst (λ (t : Terms). IsWhole t pass.has) made whole).unchanged taken.unchanged;
  windows_are = distinct_of_same count sorted (map window_of pass.has.tickets) counted
      (have_same sorted (map window_of pass.has.tickets) same);
  full = All-weaker (IsJust k (length jobs) sorted)
      (λ v. is_refused v.over ≡ true → IsFull k pass.has (last_window k v))
      (λ v just refused. full_where k pass.has (length jobs) sorted (last_window k v) same
      (taken.asked ∙ as_many jobs ends each) taken.early (just refused)) ends just;
}
