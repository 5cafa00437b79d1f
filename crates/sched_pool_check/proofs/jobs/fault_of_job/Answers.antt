-- The fault of a job is in its form, its plan or its runs, and its place leads there.
use Rattle.std.proofs.Common.{sym, ◌∙◌}
use Rattle.serde_json.specs.View.{view, items_view}
use Rattle.sched_plan_check.specs.Places.{place_of}
use Rattle.sched_plan_check.proofs.Nexts.{if_ok_by}
use Rattle.sched_pool_check.proofs.JobNexts.{pushed, to_form, has_runs, to_number, to_part, part_refused}
use Rattle.sched_pool_check.proofs.jobs.fault_of_job.Goals as goal

pub returns-in_default : goal.returns-in_default
returns-in_default c =
    to_form (view c.args.job.now) c.args.fault (place_of c.args.place.items) c.in_default.ensures.err.1 c.requires

pub unreachable-requires : goal.unreachable-requires
unreachable-requires c =
    has_runs (view c.args.job.now) (view c.in-Ok.plan.now)
    (items_view c.in-Ok.runs.now) c.in-Ok.ensures.ok c.in_default-get.ensures

pub returns-then-is_wrong_number : goal.returns-then-is_wrong_number
returns-then-is_wrong_number c =
    to_number (view c.args.job.now) (view c.in-Ok.plan.now) (view c.in-Some.value.now)
    (items_view c.in-Ok.runs.now) c.args.fault (place_of c.args.place.items) _
    c.in-Ok.ensures.ok (sym c.is_wrong_number.ensures ∙ c.if-is_wrong_number.true) c.in-Some.ensures c.requires
    (pushed c.args.place.items c.push.new.self.items _ c.in_ok-push.ensures.items)

pub fault_of_part-requires : goal.fault_of_part-requires
fault_of_part-requires c =
    part_refused (view c.args.job.now) (view c.in-Ok.plan.now)
    (items_view c.in-Ok.runs.now) c.args.fault c.in-Ok.ensures.ok
    (sym c.is_wrong_number.ensures ∙ c.if-is_wrong_number.false) c.requires

pub returns : goal.returns
returns c =
    if_ok_by c.fault_of_part.result _ _
    (λ found on.
    to_part (view c.args.job.now) (view c.in-Ok.plan.now) (view found.value.now)
    (items_view c.in-Ok.runs.now) found.fault (place_of c.args.place.items)
    (place_of found.place.items) c.in-Ok.ensures.ok (sym c.is_wrong_number.ensures ∙ c.if-is_wrong_number.false) on)
    c.fault_of_part.ensures
