-- A claim keeps what is true of every share, and so does closing a job.
use Rattle.std.proofs.Common.{◌≡◌, ℕ, zero, suc, ◌+◌, ◌<◌, ◌≤◌, false, List, [], ◌∷◌, ◌++◌, length, min, take, drop}
use Rattle.std.proofs.Common.{refl, sym, ap, ◌∙◌, subst, arith}
use Rattle.std.specs.Prelude.{All, remove}
use Rattle.std.proofs.lemmas.List.Elements.{All-append, All-push, All-take, All-drop}
use mathlib.Core.Logic.{dite}
use native.Mathlib.Decide.{ℕ_discrete}
use Rattle.sched_ticket.specs.Lists.{total, times, is, Each}
use Rattle.sched_ticket.specs.Held.{Held}
use Rattle.sched_ticket.specs.Calls.{Drew}
use Rattle.sched_ticket.specs.declared.view.View.{View}
use Rattle.sched_ticket.proofs.Sums.{total-append, total-one, is-same, is-other}
use Rattle.sched_pool_claim.specs.Portion.{Portion, IsPortion, claims_of, refusals_of}

times-later : (k : ℕ) (ts : List ℕ) → Each (λ t. t < k) ts → times k ts ≡ 0
times-later k [] e = refl
times-later k (t ∷ ts) e = omega (arith, times-later k ts e.1, is-other k t (λ same. absurd (omega (arith, e.0, same))))

-- a ticket after all others stands once
once_more : (job k : ℕ) (ts : List ℕ) → Each (λ t. t < k) ts → times job ts ≤ 1 → is job k + times job ts ≤ 1
once_more job k ts later once = dite (ℕ_discrete k job)
    (λ same. omega (arith, is-same job k same, ap (λ x. times x ts) same, times-later k ts later))
    (λ other. omega (arith, is-other job k other, once))

total-remove : (h : ℕ → ℕ) (l : List ℕ) (i : ℕ) → total h (remove l i) ≤ total h l
total-remove h [] zero = omega arith
total-remove h [] (suc i) = omega arith
total-remove h (x ∷ xs) zero = omega arith
total-remove h (x ∷ xs) (suc i) = omega (arith, total-remove h xs i)

pub drawn_below : (v : View) (k : ℕ) (w : View) → v.terms.rises ≡ false → Drew v k w → k < v.terms.limit
drawn_below v k w fixed d = omega (arith, d.ticket, d.asks.limit.fixed fixed)

-- the draw leaves what the budget was made with, and adds the ticket
drawn_terms : (v : View) (k : ℕ) (w : View) → Drew v k w → w.terms ≡ v.terms
drawn_terms v k w d = ap (λ (u : View). u.terms) d.gained ∙ ap (λ (u : View). u.terms) d.asks.same

drawn_tickets : (h : ℕ → ℕ) (v : View) (k : ℕ) (w : View) → Drew v k w → total h w.tickets ≡ h k + total h v.tickets
drawn_tickets h v k w d =
    omega (arith, ap (λ (u : View). total h u.tickets) d.gained, ap (λ (u : View). total h u.tickets) d.asks.same)

-- fewer jobs are active than were claimed, and those are fewer than the ticket's number
pub has_room : (p : Held) (active : List ℕ) (room k : ℕ) (w : View) → IsPortion p active room → Drew p.has k w
    → length active < room
has_room p active room k w s d =
    omega (
      arith,
      s.claimed (λ _. 1),
      total-one active,
      total-one p.has.tickets,
      d.later.1,
      drawn_below p.has k w s.fixed d,
      s.room_is,
    )

pub takes : (p q : Held) (active : List ℕ) (room k : ℕ) → IsPortion p active room → Drew p.has k q.has
    → IsPortion q (active ++ k ∷ []) room
takes p q active room k s d =
    let same = drawn_terms p.has k q.has d in
    record {
      once = λ job.
          omega (arith, drawn_tickets (is job) p.has k q.has d, once_more job k p.has.tickets d.later.0 (s.once job));
      claimed = λ h. omega (arith, s.claimed h, total-append h active (k ∷ []), drawn_tickets h p.has k q.has d);
      below = subst (λ t. All (λ job. job < t.limit) (active ++ k ∷ [])) (sym same)
          (All-push (λ job. job < p.has.terms.limit) active k s.below (drawn_below p.has k q.has s.fixed d));
      room_is = subst (λ t. t.limit ≤ room) (sym same) s.room_is;
      fixed = subst (λ t. t.rises ≡ false) (sym same) s.fixed;
    }

pub closes : (p : Held) (active : List ℕ) (room at : ℕ) → IsPortion p active room → IsPortion p (remove active at) room
closes p active room at s =
    let below = λ (job : ℕ). job < p.has.terms.limit in
    record {
      once = s.once;
      claimed = λ h. omega (arith, s.claimed h, total-remove h active at);
      below = All-append below (take at active) (drop (suc at) active)
          (All-take below at active s.below) (All-drop below (suc at) active s.below);
      room_is = s.room_is;
      fixed = s.fixed;
    }

pub min_of_more : (d n : ℕ) → n < d → min d n ≡ n
min_of_more d n h = omega arith

-- one more share
pub claims_of-push : (job : ℕ) (all rest : List Portion) (share : Portion) → all ≡ rest ++ share ∷ []
    → claims_of job all ≡ claims_of job rest + times job share.pass.has.tickets
claims_of-push job all rest share e =
    omega (arith, ap (claims_of job) e, total-append (λ (s : Portion). times job s.pass.has.tickets) rest (share ∷ []))

pub refusals_of-push : (all rest : List Portion) (share : Portion) → all ≡ rest ++ share ∷ []
    → refusals_of all ≡ refusals_of rest + length share.pass.has.refusals
refusals_of-push all rest share e =
    omega (arith, ap refusals_of e, total-append (λ (s : Portion). length s.pass.has.refusals) rest (share ∷ []))
