-- What the worker and the watcher take to their threads may go there.
use denote.Exit.{no}
use denote.Param.{arg, param}
use denote.Param.Send.{IsSend, IsSync, sendable, param_send, arg_send, shr_send}
use denote.RattleType.{RattleType}
use denote.Struct.Tuple.{TupleAt}
use mathlib.Core.List.{[], ◌∷◌}
use Rattle.std.proofs.Crossing.{crosses}
use Rattle.sched_pool_claim.proofs.shares.Share.TheSendSync as share
use Rattle.sched_effect.specs.contracts.ran.Code as Code
use Rattle.sched_effect.specs.contracts.ran.CodeCoded.TheImpl as coded
use Rattle.sched_task.specs.contracts.clocks.VirtualClock as VirtualClock
use Rattle.sched_task.specs.contracts.words.MidWords as MidWords
use Rattle.sched_pool.specs.contracts.boards.Board as Board
use Rattle.sched_pool_tests.specs.contracts.tests.watchers.Noting as Noting
use Rattle.sched_pool_tests.specs.contracts.tests.watchers.Stuck as Stuck
use Rattle.sched_pool_tests.specs.contracts.tests.watchers.StuckEffect.TheImpl as stuck
use Rattle.sched_pool.proofs.Sends.{board_shares, station_sends}
use Rattle.sched_pool_tests.proofs.tests.watchers.works_watched.Goals as goal

stuck_sends : IsSend Stuck.the_row
stuck_sends = search (sendable, crosses) depth 60

code_sends : IsSend Code.the_row
code_sends = search (sendable, crosses) depth 60

its_board_shares : (κ N n : _) → IsSend N
    → IsSync (Board.the_row κ Stuck.the_row N Code.the_row Code.the_row stuck.ghosts coded.ghosts coded.ghosts n)
its_board_shares κ N n s =
    board_shares κ Stuck.the_row N Code.the_row Code.the_row stuck.ghosts coded.ghosts coded.ghosts n stuck_sends s
    code_sends code_sends

noting_shares : IsSync Noting.the_row
noting_shares = search (sendable, crosses) depth 60

clock_sends : IsSend VirtualClock.the_row
clock_sends = search (sendable, crosses) depth 60

words_send : IsSend MidWords.the_row
words_send = search (sendable, crosses) depth 60

all_send : (ν : _) (A B C D E : RattleType) → IsSend A → IsSend B → IsSend C → IsSend D → IsSend E
    → IsSend (TupleAt ν (A ∷ B ∷ C ∷ D ∷ E ∷ []))
all_send ν A B C D E a b c d e = search sendable depth 30

-- what a closure takes along
captured : (ν δ : _) (A B C D E : RattleType) → IsSend A → IsSend B → IsSend C → IsSend D → IsSend E
    → IsSend (param 1 (arg δ no (TupleAt ν (A ∷ B ∷ C ∷ D ∷ E ∷ []))))
captured ν δ A B C D E a b c d e = param_send 1 _ (arg_send δ no _ (all_send ν A B C D E a b c d e))

pub join-finish-requires-send-F : goal.join-finish-requires-send-F
join-finish-requires-send-F g c κs within =
    captured _ _ _ _ _ _ _
    (shr_send _ _ _ (its_board_shares _ _ _ c.type_bounds.send-N))
    (shr_send _ _ _ c.type_bounds.sync-R)
    share.the_send
    (station_sends _ _ clock_sends words_send)
    (shr_send _ _ _ noting_shares)
