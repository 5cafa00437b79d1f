-- A draw keeps the pass's invariant, and returns the ticket that it won or why there was none.
use Rattle.std.proofs.Common.{sym, ap, subst}
use Rattle.sched_ticket_quota.specs.Held.{Held}
use Rattle.sched_ticket_quota.specs.Calls.{Turned}
use Rattle.sched_ticket_quota.proofs.Known.{won_known}
use Rattle.sched_ticket_quota.proofs.pass.Pass.draw.Goals as goal

pub invariant_of-self-2 : goal.invariant_of-self-2
invariant_of-self-2 c =
    let won = c.in_ok-ticket.ensures in
    won_known _ c.self.inside.seat.me c.win.new.seat.me c.in_ok-ticket.ticket _ _ _ _ _ _ c.self.invariant
    won.seat.1 won.ok

pub returns-clause-ok : goal.returns-clause-ok
returns-clause-ok c =
    let here = sym (ap (λ (p : Held). p.has) c.self.view_is) in (
      c.self.inside.seat.me.0,
      subst (Turned c.args.quota.now c.args.now c.args.self.now.has) here c.turn.ensures.turned,
      c.in_ok-ticket.ensures.ok,
    )
