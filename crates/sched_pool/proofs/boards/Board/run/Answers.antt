-- `run` works with as many shares as it was asked for, or returns why there are not so many.
use Rattle.std.proofs.Common.{refl, subst, arith}
use Rattle.sched_pool.specs.Boards.{RefusesShares}
use Rattle.sched_pool.specs.declared.faults.ShareFault.{ShareFault}
use Rattle.sched_pool.proofs.Crews.{are_shares}
use Rattle.sched_pool.proofs.boards.Board.run.Goals as goal

pub work_beside-requires-after_bounds : goal.work_beside-requires-after_bounds
work_beside-requires-after_bounds g c κs within = are_shares _ _ _ _ c.in-Ok.ensures.ok

pub returns-in-Err-BadWorkers-clause-err : goal.returns-in-Err-BadWorkers-clause-err
returns-in-Err-BadWorkers-clause-err g c =
    let refused = c.in-Err-BadWorkers.ensures.err in
    let out =
    subst (λ (fault : ShareFault). RefusesShares c.args.self c.len.result fault) c.in-Err-BadWorkers.field-0-is
    refused.0 in
    ((λ crew. out (omega (arith, crew.0), omega (arith, crew.1))), refused.1, refl)
