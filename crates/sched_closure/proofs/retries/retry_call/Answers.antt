-- A first success needs no retry, and a first failure goes on.
use Rattle.std.proofs.Common.{refl}
use Rattle.std.proofs.lemmas.Fn.{called}
use Rattle.sched_closure.proofs.Unbegun.{wins_once}
use Rattle.sched_closure.proofs.retries.retry_call.Goals as goal

pub returns-in-Ok-clause-unbegun : goal.returns-in-Ok-clause-unbegun
returns-in-Ok-clause-unbegun g c = (
  c.call.new.self,
  record {
    moment = c.now-began.result;
    told = c.now-began.ensures;
    words = refl;
    nothing = refl;
    calls = called g.C.FnMut c.call.ensures c.in-Ok.is;
    wins = λ plan deadline drawing holds.
        wins_once g.D.Draws.grants g.met.D.Draws.lawful g.met.D.Quiet.quiet g.S.Drives.driving.keeps
        plan deadline drawing holds
        c.now-began.result _;
  },
)

pub returns-in-Err-clause-begun : goal.returns-in-Err-clause-begun
returns-in-Err-clause-begun g c =
    c.go_on.ensures.begun c.args.clock.now c.args.call c.now-began.ensures (called g.C.FnMut c.call.ensures c.in-Err.is)

pub returns-in-Err-clause-unbegun : goal.returns-in-Err-clause-unbegun
returns-in-Err-clause-unbegun g c =
    c.go_on.ensures.unbegun c.args.clock.now c.args.call c.now-began.ensures
    (called g.C.FnMut c.call.ensures c.in-Err.is)
