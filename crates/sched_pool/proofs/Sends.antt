-- A board may be shared between threads where its effects may go to one, and so may what they give.
use denote.Param.Send.{IsSend, IsSync, sendable}
use Rattle.std.proofs.Crossing.{crosses}
use Rattle.sched_ticket.proofs.budget.Budget.TheSendSync as budget
use Rattle.sched_pool_claim.proofs.claims.Claims.TheSendSync as claims
use Rattle.sched_pool_job.proofs.Sends.{job_sends}
use Rattle.sched_pool_worker.specs.contracts.stations.Station as Station
use Rattle.sched_pool_claim.proofs.shares.Share.TheSendSync as share
use Rattle.sched_pool.specs.contracts.boards.Board as Board
use Rattle.sched_pool.specs.contracts.runs.Shift as Shift
use Rattle.sched_pool.specs.contracts.runs.Worker as Worker

pub board_shares : (κ : _) (X N I F : _) (e ic fc n : _) → IsSend X → IsSend N → IsSend I → IsSend F
    → IsSync (Board.the_row κ X N I F e ic fc n)
board_shares κ X N I F e ic fc n x sn i f =
    search (sendable, crosses, job_sends, claims.the_sync, budget.the_sync) depth 60

pub station_sends : (C G : _) → IsSend C → IsSend G → IsSend (Station.the_row C G)
station_sends C G c g = search (sendable, crosses) depth 60

shift_shares : (κ : _) (R Q : _) → IsSync R → IsSync Q → IsSync (Shift.the_row κ R Q)
shift_shares κ R Q r q = search (sendable, crosses) depth 60

-- and so may a worker
pub worker_sends : (κ η : _) (R X N C G Q I F : _) (e ic fc n : _) →
    IsSync R → IsSync Q → IsSend C → IsSend G → IsSend X → IsSend N → IsSend I → IsSend F →
    IsSend (Worker.the_row κ η R X N C G Q I F e ic fc n)
worker_sends κ η R X N C G Q I F e ic fc n r q c g x sn i f =
    search (sendable, board_shares, station_sends, shift_shares, share.the_send) depth 60
