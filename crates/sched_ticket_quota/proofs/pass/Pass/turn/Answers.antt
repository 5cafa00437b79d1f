-- After a turn, the moment is before the end of the window that the pass has seen.
use Rattle.std.proofs.Common.{ℕ, ap, ◌∙◌, ◌-◌, ◌≤◌, subst, inl, refl, arith}
use Rattle.sched_ticket_quota.specs.Windows.{window_of, window_at}
use Rattle.sched_ticket_quota.specs.Held.{Held}
use Rattle.sched_ticket_quota.specs.declared.view.Terms.{Terms}
use Rattle.sched_ticket_quota.proofs.Numbers.{window_at-mono}
use Rattle.sched_ticket_quota.proofs.pass.Pass.turn.Goals as goal

-- the moment is before the end of the window that the pass has seen
pub returns-then-get-self-clause-turned : goal.returns-then-get-self-clause-turned
returns-then-get-self-clause-turned c =
    let pass = c.self.invariant in
    let me = c.self.inside.seat.me.0 in
    let until = c.self.inside.until in
    let from = c.self.inside.start in
    let terms = ap (λ (p : Held). p.has.terms) c.self.view_is ∙ c.requires.1 in
    let start = ap (λ (p : Held). p.start) c.self.view_is ∙ c.requires.2 in
    let seen = ap (λ (p : Held). p.has.seen) c.self.view_is in
    let early : window_at me.terms from c.args.now ≤ window_of me.seen =
    omega (arith, pass.goes_on (omega arith), window_at-mono me.terms from c.args.now (until - 1) (omega arith)) in
    let here : window_at me.terms from c.args.now ≤ window_of c.args.self.now.has.seen = omega arith in
    inl (
      subst (λ (k : Terms). window_at k c.args.quota.now.start c.args.now ≤ window_of c.args.self.now.has.seen) terms
          (subst (λ (n : ℕ). window_at me.terms n c.args.now ≤ window_of c.args.self.now.has.seen) start here),
      refl,
    )
