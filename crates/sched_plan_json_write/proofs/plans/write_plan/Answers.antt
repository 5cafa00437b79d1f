-- The JSON value that `write_plan` returns is read as the same plan.
use Rattle.std.proofs.Common.{arith}
use Rattle.serde_json.specs.View.{view}
use Rattle.sched_plan_json_write.proofs.Writings.{written_reads}
use Rattle.sched_plan_json_write.proofs.plans.write_plan.Goals as goal

pub returns-clause-reads : goal.returns-clause-reads
returns-clause-reads c =
    written_reads (view c.in_ok-value.value) c.args.plan.now c.in_ok-value.ensures c.shape-shape.ensures.valid
    (omega arith) (omega arith)
