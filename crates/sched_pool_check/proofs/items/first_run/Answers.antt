-- `first_run` returns the first run that has a fault, or that none has.
use Rattle.std.proofs.Common.{◌+◌, sym, drop, arith}
use Rattle.serde_json.specs.View.{view, items_view}
use Rattle.sched_pool_json.specs.JobsOf.{run_in}
use Rattle.sched_pool_check.proofs.Past.{next_of, past_item, past_refused}
use Rattle.sched_pool_check.proofs.items.first_run.Goals as goal

pub returns-in-Err : goal.returns-in-Err
returns-in-Err c =
    let n = c.loop-index.index in
    let values = c.args.runs.now in
    let v = c.index-runs-index.result in
    past_refused run_in (items_view values) (items_view (drop (n + 1) values)) (view v) n c.in-Err.fault
    (next_of run_in (items_view values) values n v (omega arith) c.index-runs-index.is c.loop-index.invariant)
    (sym c.in-Err.ensures)

pub loop-index-preserved : goal.loop-index-preserved
loop-index-preserved c =
    let n = c.loop-index.index in
    let values = c.args.runs.now in
    let v = c.index-runs-index.result in
    past_item run_in (items_view values) (items_view (drop (n + 1) values)) (view v) n
    (next_of run_in (items_view values) values n v (omega arith) c.index-runs-index.is c.loop-index.invariant)
    (c.in_default.field-0, sym c.in_default.ensures)
