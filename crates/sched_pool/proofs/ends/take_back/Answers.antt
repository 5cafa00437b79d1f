-- Taking back a job adds its pass, with its tickets, to those taken back before.
use Rattle.std.proofs.Common.{◌≡◌, ◌+◌, ℕ, [], ◌∷◌, ◌++◌, length, vec_len, arith, subst, length-append}
use Rattle.sched_ticket.specs.Lists.{total}
use Rattle.sched_ticket.specs.Held.{Name, IsOf}
use Rattle.sched_ticket.proofs.Sums.{total-append}
use Rattle.sched_task_law.specs.Past.{Past}
use Rattle.sched_pool.specs.Ends.{IsEnd}
use Rattle.sched_pool.proofs.Sums.{none_taken, one_taken, count_taken}
use Rattle.sched_pool.proofs.ends.take_back.Goals as goal

pub loop-job-init : goal.loop-job-init
loop-job-init g c = record {
  ends = rw c.requires.none (none_taken g.N.Naming.budget c.args.pass c.requires.of c.count-handed_in.ensures.within);
  handed_in = c.count-handed_in.ensures.count;
  left = omega (arith, c.into_iter-job-iterator.ensures.into_iter_gives.1);
  room = c.requires.room;
}

pub push_reserved-requires : goal.push_reserved-requires
push_reserved-requires g c =
    let before = c.loop-job.invariant in
    omega (arith, c.loop-job.ends.ok.0, before.ends.all, before.left, before.room, c.in-Some.ensures.steps.1)

pub loop-job-preserved : goal.loop-job-preserved
loop-job-preserved g c =
    let e = c.into_end-end.ensures in
    let joined = c.join-pass.ensures in
    let before = c.loop-job.invariant in
    let granted : Past → ℕ = λ v. v.granted in
    let ends = c.loop-job.ends.items in
    let end = c.into_end-end.result.0 in
    let sum : total granted (ends ++ end ∷ []) ≡ total granted ends + end.granted =
    omega (arith, total-append granted ends (end ∷ [])) in
    let of = subst (λ (b : Name). IsOf b c.join-pass.result) c.requires.name joined.of in
    let taken = one_taken g.N.Naming.budget
    (length c.loop-job.yielded) c.args.pass c.loop-job.pass c.into_end-end.result.1 c.join-pass.result
    ends (total granted ends) end before.ends e.law e.granted e.refused of joined.joined joined.sound in
    record {
      ends = rw (c.push_reserved.ensures.items, length-append c.loop-job.yielded (c.in-Some.job ∷ []), sum) taken;
      handed_in = before.handed_in;
      left = omega (
        arith,
        before.left,
        c.in-Some.ensures.steps.1,
        length-append c.loop-job.yielded (c.in-Some.job ∷ []),
      );
      room = rw c.push_reserved.ensures.capacity before.room;
    }

pub overflow_sub-granted : goal.overflow_sub-granted
overflow_sub-granted g c =
    let last = c.loop-job.invariant in
    omega (arith, count_taken _ _ _ _ _ _ last.ends, last.handed_in, c.count.ensures.count)

pub returns : goal.returns
returns g c =
    let last = c.loop-job.invariant in
    let granted : Past → ℕ = λ v. v.granted in
    let ends = c.loop-job.ends.items in
    subst (λ (m : ℕ). IsEnd g.N.Naming.budget (vec_len c.args.jobs) c.args.pass ends c.loop-job.pass m)
    (omega (arith, count_taken _ _ _ _ _ _ last.ends, last.handed_in, c.count.ensures.count))
    (subst (λ (n : ℕ). IsEnd g.N.Naming.budget n c.args.pass ends c.loop-job.pass (total granted ends))
    (omega (arith, last.left, c.in-None.ensures.steps.0)) last.ends)
