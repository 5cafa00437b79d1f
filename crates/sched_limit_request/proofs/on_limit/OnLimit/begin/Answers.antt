-- What the request that begins may give back, its pass has gained.
use Rattle.std.proofs.Common.{◌≡◌, false, sym}
use Rattle.sched_limit.specs.Quiet.{IsQuiet}
use Rattle.sched_limit.specs.Step.{Rules, rules}
use Rattle.sched_limit_request.proofs.QuietLooks.{held_at}
use Rattle.sched_limit_request.proofs.on_limit.OnLimit.begin.Goals as goal

pub invariant_of-self : goal.invariant_of-self
invariant_of-self g c =
    let x = c.self.inside.limit.value.machine in
    let m : Rules = rules g.M.Machine.next g.M.Refuses.refusal g.M.Refuses.generation g.M.Refuses.worth x in
    let quiet : IsQuiet m.next m.refusal c.args.word =
    rw (c.machine.ensures, c.deref.ensures) at (c.if-not-is_quiet.ensures.quiet (sym c.if-not-is_quiet.ensures.same)) in
    let free : c.self.inside.hold.request.counted ≡ false = rw (← c.request.ensures) c.if-request.false in
    let has = held_at m c.args.word quiet (g.M.Machine.tokens x) (g.M.Refuses.holds x) (g.met.M.Refuses.honest x)
    c.self.inside.hold.request c.self.inside.pass.has.moves free c.self.invariant.1 in
    (c.self.invariant.0, rw (c.begin.ensures, c.generation.ensures, c.machine-2.ensures, c.deref-2.ensures) has)
