-- The tickets granted are those of each task that the machine may stand for.
use Rattle.std.proofs.Common.{◌≡◌, ap, arith}
use Rattle.sched_run_machine.specs.Machine.{Machine}
use Rattle.sched_run_machine.proofs.Calls.{has_drawn, seen}
use Rattle.sched_run_machine.proofs.machine.Machine.granted.Goals as goal

pub returns-clause-stands : goal.returns-clause-stands
returns-clause-stands g c =
    seen _ _ _ g.met.D.Draws.lawful _ c.args.self.now c.self.view_is c.self.invariant

pub overflow_sub-result : goal.overflow_sub-result
overflow_sub-result g c =
    let has = has_drawn _ _ _ g.met.D.Draws.lawful _ c.self.invariant in
    omega (arith, has.0, c.granted.ensures.granted)

pub returns-clause-tickets : goal.returns-clause-tickets
returns-clause-tickets g c =
    let has = has_drawn _ _ _ g.met.D.Draws.lawful _ c.self.invariant in
    let had : c.self.inside.had ≡ c.args.self.now.had =
    ap (λ (m : Machine g.row.R.Denot g.row.D.Denot). m.had) c.self.view_is in
    let granted : g.D.Draws.grants.granted c.self.inside.drawing ≡ g.D.Draws.grants.granted c.args.self.now.drawing =
    ap (λ (m : Machine g.row.R.Denot g.row.D.Denot). g.D.Draws.grants.granted m.drawing) c.self.view_is in
    omega (arith, has.0, c.granted.ensures.granted, had, granted)
