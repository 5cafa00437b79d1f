-- A poll of the task is one of its law, by each journal that its driver may stand for.
use Rattle.std.proofs.Common.{true, [], Some, is_some, refl, sym, ap, ◌∙◌}
use Rattle.sched_task.specs.Course.{is_ready}
use Rattle.sched_task_law.specs.Kind.{repeats}
use Rattle.sched_run_machine.specs.Runner.{told_by}
use Rattle.sched_run_machine.proofs.Runs.{idle_by}
use Rattle.sched_run_machine.proofs.Made.{stays_so, comes_late, polled_run, leaves_task, grown_by}
use Rattle.sched_retry.specs.Ending.{EndingFits}
use Rattle.sched_retry.specs.declared.endings.Ending.TheVariants.{DeadlinePassed}
use Rattle.sched_retry.proofs.Polls.{some_by, fits_then, can_be_over}
use Rattle.sched_retry.proofs.reruns.RerunTask.poll_at.Goals as goal

pub returns-then-stays-clause-poll : goal.returns-then-stays-clause-poll
returns-then-stays-clause-poll g c =
    let r = c.self.inside in
    let ready = c.ready_where in
    rw (← c.self.view_is) (stays_so _ _ g.met.D.Draws.lawful _ r.machine c.args.tick.now r.runner (is_some r.ending)
    c.self.invariant.0 (rw c.if-stays.true at c.stays.ensures.looks) (is_ready ready.result)
    (ready.ensures ∙ ap is_some c.over.ensures))

pub time_out-requires : goal.time_out-requires
time_out-requires g c = record {
  looks = rw c.if-stays.false at c.stays.ensures.looks;
  late = sym c.is_too_late.ensures ∙ c.if-is_too_late.true;
}

pub returns-then-is_too_late-clause-poll : goal.returns-then-is_too_late-clause-poll
returns-then-is_too_late-clause-poll g c =
    let r = c.self.inside in
    let out = c.time_out.new.self in
    let late = sym c.is_too_late.ensures ∙ c.if-is_too_late.true in
    let fits = EndingFits g.X.Item.Coded.coded g.X.Fault.Coded.coded in
    rw (← c.self.view_is) (polled_run _ _ g.met.D.Draws.lawful _ fits r.machine out c.args.tick.now r.runner r.runner
    r.ending (Some DeadlinePassed) c.self.invariant []
    (comes_late _ _ g.met.D.Draws.lawful _ fits r.machine out c.args.tick.now r.runner r.runner r.ending
    (Some DeadlinePassed) c.self.invariant (rw c.if-stays.false at c.stays.ensures.looks)
    (c.stays.ensures.unended c.if-stays.false) c.time_out.ensures.polls late c.time_out.ensures.ends refl refl
    (rw c.time_out.ensures.ends.1 refl)) true (rw c.time_out.ensures.ends.1 refl))

pub invariant_of-self : goal.invariant_of-self
invariant_of-self g c =
    let r = c.self.inside in
    let out = c.time_out.new.self in
    let late = sym c.is_too_late.ensures ∙ c.if-is_too_late.true in
    let fits = EndingFits g.X.Item.Coded.coded g.X.Fault.Coded.coded in
    leaves_task _ _ g.met.D.Draws.lawful _ fits r.machine out c.args.tick.now r.runner r.runner r.ending
    (Some DeadlinePassed) c.self.invariant []
    (comes_late _ _ g.met.D.Draws.lawful _ fits r.machine out c.args.tick.now r.runner r.runner r.ending
    (Some DeadlinePassed) c.self.invariant (rw c.if-stays.false at c.stays.ensures.looks)
    (c.stays.ensures.unended c.if-stays.false) c.time_out.ensures.polls late c.time_out.ensures.ends refl refl
    (rw c.time_out.ensures.ends.1 refl))

pub report_poll-requires : goal.report_poll-requires
report_poll-requires g c =
    let r = c.self.inside in
    let polled = c.poll_run-polled in record {
      looks = rw c.if-stays.false at c.stays.ensures.looks;
      in_time = sym c.is_too_late.ensures ∙ c.if-is_too_late.false;
      unended = c.stays.ensures.unended c.if-stays.false;
      idle = λ none. c.self.invariant.0.1.under_way
          ∙ idle_by g.X.Item.Coded.coded g.X.Fault.Coded.coded r.runner polled.new.self c.args.tick.now polled.result
          polled.ensures.polls none;
    }

pub ending_of-requires : goal.ending_of-requires
ending_of-requires g c =
    can_be_over g.X.Item.Coded.coded g.X.Fault.Coded.coded (repeats (g.A.Aims.kind g.R.Drives.driving.keeps))
    c.poll_run-polled.result c.over-2.result (rw c.over-2.ensures c.report_poll.ensures.over)

pub invariant_of-self-2 : goal.invariant_of-self-2
invariant_of-self-2 g c =
    let r = c.self.inside in
    let polled = c.poll_run-polled in
    let told = c.report_poll in
    let ending = c.ending_of in
    let over = sym c.over-2.ensures ∙ ending.ensures.over in
    let grown = grown_by g.X.Item.Coded.coded g.X.Fault.Coded.coded r.runner polled.new.self c.args.tick.now
    polled.result told.new.self polled.ensures.polls told.ensures.under_way in
    leaves_task _ _ g.met.D.Draws.lawful _ (EndingFits g.X.Item.Coded.coded g.X.Fault.Coded.coded) r.machine
    told.new.self c.args.tick.now r.runner polled.new.self r.ending ending.result c.self.invariant
    (told_by g.X.Item.Coded.coded g.X.Fault.Coded.coded polled.result) (record {
      looks = rw c.if-stays.false at c.stays.ensures.looks;
      unended = c.stays.ensures.unended c.if-stays.false;
      polls = told.ensures.polls;
      grown = grown;
      over = ap is_some over ∙ some_by ending.result;
      fit = fits_then g.X.Item.Coded.coded g.X.Fault.Coded.coded told.new.self.over r.runner.runs polled.new.self.runs
          polled.result ending.result over ending.ensures.value grown.runs;
    })

pub returns-clause-poll : goal.returns-clause-poll
returns-clause-poll g c =
    let r = c.self.inside in
    let polled = c.poll_run-polled in
    let told = c.report_poll in
    let ending = c.ending_of in
    let ready = is_ready c.ready_where-2.result in
    let over = sym c.over-2.ensures ∙ ending.ensures.over in
    let grown = grown_by g.X.Item.Coded.coded g.X.Fault.Coded.coded r.runner polled.new.self c.args.tick.now
    polled.result told.new.self polled.ensures.polls told.ensures.under_way in
    rw (← c.self.view_is) (polled_run _ _ g.met.D.Draws.lawful _
    (EndingFits g.X.Item.Coded.coded g.X.Fault.Coded.coded) r.machine told.new.self c.args.tick.now r.runner
    polled.new.self r.ending ending.result c.self.invariant
    (told_by g.X.Item.Coded.coded g.X.Fault.Coded.coded polled.result) (record {
      looks = rw c.if-stays.false at c.stays.ensures.looks;
      unended = c.stays.ensures.unended c.if-stays.false;
      polls = told.ensures.polls;
      grown = grown;
      over = ap is_some over ∙ some_by ending.result;
      fit = fits_then g.X.Item.Coded.coded g.X.Fault.Coded.coded told.new.self.over r.runner.runs polled.new.self.runs
          polled.result ending.result over ending.ensures.value grown.runs;
    }) ready (c.ready_where-2.ensures ∙ ap is_some c.over-3.ensures))
