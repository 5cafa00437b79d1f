-- The law of looks that are requests.
use Rattle.sched_limit_request.proofs.QuietLooks as looks
use Rattle.sched_limit_request.proofs.laws.quiet_looks_are_requests.Goals as goal

pub returns-clause-buckets : goal.returns-clause-buckets
returns-clause-buckets c = looks.full_looks_are_requests

pub returns-clause-breakers : goal.returns-clause-breakers
returns-clause-breakers c = looks.calm_looks_are_requests
