-- A throttle that is not split stays a throttle.
use Rattle.std.proofs.Common.{refl}
use Rattle.std.proofs.lemmas.Result.{err_from_is_err_and}
use Rattle.sched_limit_handle.proofs.any_limit.AnyLimitAsks.split.Goals as goal

pub returns-in_err-split-in-Throttle-clause-unsplit : goal.returns-in_err-split-in-Throttle-clause-unsplit
returns-in_err-split-in-Throttle-clause-unsplit c =
    let back = c.from_residual-in_err-split-in-Throttle in
    let p = err_from_is_err_and back.result back.ensures.1 in
    rw (p.1, p.2, c.in-Throttle.is) (c.split-in-Throttle.new.self, refl, c.in_err-split-in-Throttle.ensures.unsplit)
