-- Handing back returns the latest ticket, once, and leaves the others.
use Rattle.std.proofs.Common.{rules, ◌≡◌, ℕ, List, ◌∷◌, get_or, Option, Some, refl, sym, ap, ◌∙◌}
use Rattle.sched_ticket_quota.specs.Calls.{HandedBack}
use Rattle.sched_ticket_quota.proofs.pass.Pass.hand_back.Goals as goal

-- lists that are one have one first number
first_same : (t u : ℕ) (ts us : List ℕ) → t ∷ ts ≡ u ∷ us → t ≡ u
first_same t u ts us same = ap (λ (xs : List ℕ). get_or xs 0 0) same

pub returns-clause-ok : goal.returns-clause-ok
returns-clause-ok c =
    let before = c.self.inside.seat.me.0 in
    let back : HandedBack before c.give_back.new.seat.me.0 = c.give_back.ensures.handed (search rules) in
    let has = rw c.in-Some.is at c.self.invariant.latest_is in
    let same = first_same _ _ _ _ (sym has.2 ∙ back.had) in
    rw (← c.self.view_is) (back, c.in-Some.is ∙ ap {B = Option ℕ} Some same, refl)
