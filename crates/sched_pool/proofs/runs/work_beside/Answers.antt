-- What each worker takes with it may go to another thread.
use denote.Exit.{unseen}
use denote.Param.Send.{Quiet-if}
use mir.Syntax.{of_param, static}
use Rattle.sched_pool.proofs.Sends.{worker_sends}
use Rattle.sched_pool.proofs.runs.work_beside.Goals as goal

pub start_all-started-requires-send-D : goal.start_all-started-requires-send-D
start_all-started-requires-send-D g c κs within =
    let b = c.type_bounds in
    record {
      owned =
          (worker_sends (record { mir = static; lft = _ }) (record {
            mir = static;
            lft = _;
          }) _ _ _ _ _ _ _ _ g.X.Effect g.X.Item.Coded g.X.Fault.Coded g.N.Naming b.sync-R b.sync-Q b.send-C b.send-G
          b.send-X b.send-N b.send-X-Item b.send-X-Fault).owned;
      leaving = λ k. Quiet-if (k (of_param 1)) _ unseen (λ x w. tt) (λ x w. tt);
    }
