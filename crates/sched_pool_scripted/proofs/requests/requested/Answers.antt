-- The pass of a job's retry has counted one request, in the window 0, and has no ticket.
use Rattle.std.proofs.Common.{rules, ◌≡◌, ◌∙◌, ℕ, List, length, is_some, refl, sym, ap, subst}
use Rattle.sched_ticket.specs.Lists.{Each}
use Rattle.sched_ticket_quota.specs.Windows.{window_of}
use Rattle.sched_ticket_quota.specs.Held.{Held}
use Rattle.sched_ticket_quota.specs.declared.view.View.{View}
use Rattle.sched_ticket_draws.specs.Quotas.{OfQuota}
use Rattle.sched_task_law.specs.Past.{Past}
use Rattle.sched_pool_scripted.specs.Driven.{IsUnused}
use Rattle.sched_pool_scripted.proofs.Passes.{turned_kept, told_tickets, told_requests, counts_one, counts_early}
use Rattle.sched_pool_scripted.proofs.Passes.{deposit_unchanged}
use Rattle.sched_pool_scripted.proofs.requests.requested.Goals as goal

pub returns-clause-retry : goal.returns-clause-retry
returns-clause-retry c =
    let quota = c.args.quota.now in
    let split = c.in-Ok.own.has in
    let asked = c.deposit.new.self.has in
    let told = c.seen.ensures.told in
    let unused : IsUnused split = subst IsUnused (sym c.in-Ok.ensures.ok.1)
    (record { told = c.requires.unused.told; tickets = refl; requests = refl; unchanged = refl }) in
    let counted = c.deposit.ensures.counted in
    let window : c.seen.result.window ≡ 0 = search rules in
    let e = c.in_ok-retry.ensures in
    let pass : c.in_ok-retry.retry.drawing.pass ≡ c.seen.new.self =
    ap (λ (d : OfQuota). d.pass) e.drawing ∙ c.new.ensures.pass in
    record {
      of = ap (λ (d : OfQuota). d.quota) e.drawing ∙ c.new.ensures.quota;
      had = e.had ∙ ap (λ (p : Held). length p.has.tickets) c.new.ensures.pass
          ∙ ap length (told_tickets quota c.args.now asked c.seen.new.self.has c.seen.result told
          ∙ c.deposit.ensures.tickets ∙ unused.tickets);
      untaken = e.untaken ∙ sym (ap (λ (p : Past). is_some p.over) e.past);
      asked = ap (λ (p : Held). length p.has.requests) pass
          ∙ ap length (told_requests quota c.args.now asked c.seen.new.self.has c.seen.result told)
          ∙ counts_one quota c.args.now split asked unused counted;
      unchanged = ap (λ (p : Held). p.has.changes) pass ∙ ap (λ (v : View). v.changes) told.tries.same
          ∙ ap (λ (xs : List ℕ × List ℕ). xs.1) (turned_kept quota c.args.now asked told.turned told.turns)
          ∙ deposit_unchanged quota c.args.now split asked counted ∙ unused.unchanged;
      early = subst (λ (p : Held). Each (λ n. window_of n ≡ 0) p.has.requests) (sym pass)
          (counts_early quota c.args.now c.args.now split asked c.seen.new.self.has c.seen.result unused counted told
          window);
    }
