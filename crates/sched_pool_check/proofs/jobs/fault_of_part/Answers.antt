-- The fault of a job's part is in its first wrong run, or in its plan.
use Rattle.std.proofs.Common.{rules, ◌≡◌, ◌++◌, codes, ◌∷◌, [], refl}
use Rattle.serde_json.specs.View.{view, items_view}
use Rattle.sched_plan_check.specs.Places.{key, index}
use Rattle.sched_pool_check.specs.JobFaults.{of_run}
use Rattle.sched_pool_check.proofs.JobNexts.{pushed_twice, to_plan}
use Rattle.sched_pool_check.proofs.jobs.fault_of_part.Goals as goal

pub returns-in-Some : goal.returns-in-Some
returns-in-Some c = (
  key (codes "runs") ∷ index c.in-Some.run'.index ∷ [],
  pushed_twice c.args.place.items c.push.new.self.items c.push-in-Some.new.self.items _ _ c.in_ok-push.ensures.items
      c.in_ok-push-2.ensures.items,
  of_run c.in-Some.run'.index (view c.in-Some.run'.value.now) c.in-Some.ensures,
)

pub returns : goal.returns
returns c =
    let found = c.in-Fault.found in
    let extended : c.extend_from_slice.new.self.items ≡ c.push-2.new.self.items ++ found.place.items = search rules in
    to_plan (view c.args.plan.now) (items_view c.args.runs.now) found c.args.place.items c.push-2.new.self.items
    c.extend_from_slice.new.self.items _ refl
    c.in_ok-push-3.ensures.items extended c.in_default.ensures (rw c.in-Fault.is at c.in_ok-found.ensures)
