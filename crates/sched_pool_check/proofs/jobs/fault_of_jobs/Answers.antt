-- The fault of jobs is in their form or number, or in the first job that has one.
use Rattle.std.proofs.Common.{inl, inr, Some, refl, sym, ap, ◌∙◌}
use Rattle.serde_json.specs.View.{view, items_view}
use Rattle.sched_pool_json.specs.JobsOf.{job_in}
use Rattle.sched_plan_check.specs.Places.{place_of}
use Rattle.sched_plan_check.proofs.Nexts.{if_ok_by}
use Rattle.sched_pool_check.proofs.JobLeads.{item_refused}
use Rattle.sched_pool_check.proofs.JobNexts.{to_whole, to_job}
use Rattle.sched_pool_check.proofs.jobs.fault_of_jobs.Goals as goal

pub returns-in_default : goal.returns-in_default
returns-in_default c =
    to_whole (view c.args.value.now) c.args.fault c.new.result.items c.new.ensures.items
    (inl (sym c.in_default.ensures)) c.requires

pub returns-then-are_too_many : goal.returns-then-are_too_many
returns-then-are_too_many c =
    let are = sym c.in-Some.ensures ∙ ap (λ vs. Some (items_view vs)) (sym c.as_slice-jobs.ensures.value) in
    to_whole
    (view c.args.value.now) c.args.fault c.new-then-are_too_many.result.items c.new-then-are_too_many.ensures.items
    (inr (items_view c.as_slice-jobs.result.now, are, sym c.are_too_many.ensures ∙ c.if-are_too_many.true)) c.requires

pub fault_of_job-requires : goal.fault_of_job-requires
fault_of_job-requires c =
    item_refused job_in c.in-Some-2.job.fault (items_view c.as_slice-jobs.result.now) c.in-Some-2.job.index
    (view c.in-Some-2.job.value.now)
    (rw c.in-Some-2.is at c.in_ok-job.ensures)

pub returns : goal.returns
returns c =
    let are = sym c.in-Some.ensures ∙ ap (λ vs. Some (items_view vs)) (sym c.as_slice-jobs.ensures.value) in
    let first = rw c.in-Some-2.is at c.in_ok-job.ensures in
    if_ok_by c.fault_of_job.result _ _
    (λ found on.
    to_job (view c.args.value.now) (view c.in-Some-2.job.value.now) (view found.value.now)
    (items_view c.as_slice-jobs.result.now) c.in-Some-2.job.index
    c.in-Some-2.job.fault found.fault c.new-place.result.items c.push.new.self.items _ (place_of found.place.items) are
    (sym c.are_too_many.ensures ∙ c.if-are_too_many.false) first c.new-place.ensures.items
    c.in_ok-push.ensures.items refl on)
    c.fault_of_job.ensures
