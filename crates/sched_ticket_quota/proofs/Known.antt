-- What a pass keeps, after a draw and after a join.
use Rattle.std.proofs.Common.{◌≡◌, ℕ, Bool, ◌+◌, ◌-◌, ◌<◌, max, List, ◌∷◌, ◌++◌, length, Option, None, Some, IfSome, ap}
use Rattle.std.proofs.Common.{◌∙◌, arith, length-append}
use Rattle.sched_ticket_quota.specs.Windows.{window_at, terms_of, floor_of, carried_to}
use Rattle.sched_ticket_quota.specs.View.{carried_by, joined_view}
use Rattle.sched_ticket_quota.specs.Steps.{Sat, IsSound}
use Rattle.sched_ticket_quota.specs.Held.{IsKnown}
use Rattle.sched_ticket_quota.specs.Calls.{Won}
use Rattle.sched_ticket_quota.specs.declared.view.Terms.{Terms}
use Rattle.sched_ticket_quota.specs.declared.view.View.{View}

-- what is carried to a window, by the words that a pass has read
pub carried_known : (v : View) (c : Bool) (k : Terms) (x q p d : ℕ) → v.carries ≡ c → v.terms ≡ k → v.current ≡ x
    → v.seen ≡ q → v.past ≡ p → v.found ≡ d → carried_by v ≡ carried_to c (terms_of k x) q p d
carried_known v c k x q p d kind terms current seen past found =
    ap (λ (z : Bool). carried_to z (terms_of v.terms v.current) v.seen v.past v.found) kind
    ∙ ap (λ (z : Terms). carried_to c (terms_of z v.current) v.seen v.past v.found) terms
    ∙ ap (λ (z : ℕ). carried_to c (terms_of k z) v.seen v.past v.found) current
    ∙ ap (λ (z : ℕ). carried_to c (terms_of k x) z v.past v.found) seen
    ∙ ap (λ (z : ℕ). carried_to c (terms_of k x) q z v.found) past
    ∙ ap (λ (z : ℕ). carried_to c (terms_of k x) q p z) found

-- and where the numbers of the window end
pub floor_known : (v : View) (c : Bool) (k : Terms) (x q : ℕ) → v.carries ≡ c → v.current ≡ x → v.seen ≡ q
    → floor_of v.carries (terms_of k v.current) v.seen v.back ≡ floor_of c (terms_of k x) q v.back
floor_known v c k x q kind current seen =
    ap (λ (z : Bool). floor_of z (terms_of k v.current) v.seen v.back) kind
    ∙ ap (λ (z : ℕ). floor_of c (terms_of k z) v.seen v.back) current
    ∙ ap (λ (z : ℕ). floor_of c (terms_of k x) z v.back) seen

-- a pass that has won a ticket may hand it back
pub won_known : (k : Terms) (m n : Sat) (t g w told from until : ℕ) (latest : Option ℕ)
    → IsKnown m g w told from until latest → n.1 ≡ m.1 → Won k m.0 t n.0 → IsKnown n (g + 1) w told from until (Some t)
won_known k m n t g w told from until latest known bare won =
    let gained = won.gained in
    let same = won.tries.same in record {
      bare = bare ∙ known.bare;
      tickets = omega
          (arith, ap (λ (v : View). length v.tickets) gained, ap (λ (v : View). length v.tickets) same, known.tickets);
      weight = ap (λ (v : View). v.weight) gained ∙ ap (λ (v : View). v.weight) same ∙ known.weight;
      told_is = ap (λ (v : View). v.told) gained ∙ ap (λ (v : View). v.told) same ∙ known.told_is;
      live = known.live;
      few_parts = known.few_parts;
      few_tickets = omega (arith, known.tickets, won.later.1, won.later.2);
      goes_on = λ some-until. omega (
        arith,
        known.goes_on some-until,
        won.tries.later,
        ap (λ (v : View). v.seen) gained,
        ap (λ (v : View). window_at v.terms from (until - 1)) gained,
        ap (λ (v : View). window_at v.terms from (until - 1)) same,
      );
      latest_is = (won.later.2, won.tried.tickets, ap (λ (v : View). v.tickets) gained);
    }

-- the latest ticket stays the first where others come after it
latest_joined : (latest : Option ℕ) (ts us all : List ℕ) → all ≡ ts ++ us
    → IfSome latest (λ t. (t < 17496587910722355200) × (others : List ℕ) × (ts ≡ t ∷ others))
    → IfSome latest (λ t. (t < 17496587910722355200) × (others : List ℕ) × (all ≡ t ∷ others))
latest_joined None ts us all joined known = tt
latest_joined (Some t) ts us all joined known =
    (known.0, known.1 ++ us, joined ∙ ap (λ (xs : List ℕ). xs ++ us) known.2)

-- a pass that has taken in another
pub joined_known : (m o n : Sat) (g h w u a b told from until from' until' : ℕ) (latest last : Option ℕ)
    → IsKnown m g w a from until latest → IsKnown o h u b from' until' last
    → n ≡ (joined_view m.0 o.0, m.1) → IsSound n.0 → told ≡ max a b → IsKnown n (g + h) (w + u) told from until latest
joined_known m o n g h w u a b told from until from' until' latest last this that joined sound later =
    let weight = ap (λ (x : Sat). x.0.weight) joined in
    let tickets = ap (λ (x : Sat). length x.0.tickets) joined in
    let sum : length n.0.tickets ≡ g + h =
    omega (arith, tickets, length-append m.0.tickets o.0.tickets, this.tickets, that.tickets) in record {
      bare = ap (λ (x : Sat). x.1) joined ∙ this.bare;
      tickets = sum;
      weight = omega (arith, weight, this.weight, that.weight);
      told_is = omega (arith, ap (λ (x : Sat). x.0.told) joined, this.told_is, that.told_is, later);
      live = omega (arith, this.live);
      few_parts = omega (arith, sound.few_parts, weight, this.weight, that.weight);
      few_tickets = omega (arith, sound.few_tickets, sum);
      goes_on = λ some-until. omega (
        arith,
        this.goes_on some-until,
        ap (λ (x : Sat). x.0.seen) joined,
        ap (λ (x : Sat). window_at x.0.terms from (until - 1)) joined,
      );
      latest_is = latest_joined latest m.0.tickets o.0.tickets n.0.tickets
          (ap (λ (x : Sat). x.0.tickets) joined) this.latest_is;
    }
