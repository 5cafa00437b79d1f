-- The text that `to_json` returns is compact and is read as the same plan.
use Rattle.std.proofs.Common.{arith}
use Rattle.serde_json.specs.View.{view}
use Rattle.sched_plan_json_write.proofs.Writings.{text_compact, text_reads}
use Rattle.sched_plan_json_write.proofs.plans.to_json.Goals as goal

pub returns-clause-text : goal.returns-clause-text
returns-clause-text c =
    text_compact (view c.in_ok-value.value) c.args.plan.now c.in_ok-text.text c.in_ok-value.ensures.value
    c.in_ok-text.ensures.text

pub returns-clause-reads : goal.returns-clause-reads
returns-clause-reads c =
    text_reads (view c.in_ok-value.value) c.args.plan.now c.in_ok-text.text c.in_ok-value.ensures.value
    c.in_ok-value.ensures.reads
    (omega arith) c.in_ok-text.ensures.reads_back
