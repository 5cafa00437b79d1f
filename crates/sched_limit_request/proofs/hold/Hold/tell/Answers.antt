-- What a request gives back, its pass has gained.
use Rattle.sched_limit_request.proofs.Given.{may_make}
use Rattle.sched_limit_request.proofs.hold.Hold.tell.Goals as goal

pub find-requires-clause-may : goal.find-requires-clause-may
find-requires-clause-may g c =
    rw (c.call_of-call.ensures, c.machine.ensures) (may_make _ _ _ (g.met.M.Refuses.honest c.args.limit.now.machine)
    c.args.told.now c.args.random c.args.self.now.request _ c.requires.held)
