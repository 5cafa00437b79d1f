-- A poll with a report ends the run under way and then polls; a report of no run is refused.
use Rattle.sched_handle.proofs.retries.poll_retry.Goals as goal

pub returns-else-not-report-clause-polls : goal.returns-else-not-report-clause-polls
returns-else-not-report-clause-polls c =
    let after = c.poll_at-in-Some in
    rw c.in-Some.is (
      (
        c.report.new.self,
        record { polls = c.report.ensures.told c.if-not-report.false; deadline = c.report.ensures.deadline },
        after.ensures.polls,
      ),
      after.ensures.shows,
    )
