-- What the watcher takes to its thread may go there.
use denote.Exit.{no}
use denote.Param.{arg, param}
use denote.Param.Send.{IsSend, IsSync, sendable, param_send, arg_send, shr_send}
use denote.RattleType.{RattleType}
use denote.Struct.Tuple.{TupleAt}
use mathlib.Core.List.{[], ◌∷◌}
use Rattle.std.proofs.Crossing.{crosses}
use Rattle.sched_effect.specs.contracts.ran.Code as Code
use Rattle.sched_effect.specs.contracts.ran.CodeCoded.TheImpl as coded
use Rattle.sched_pool.specs.contracts.boards.Board as Board
use Rattle.sched_pool_tests.specs.contracts.tests.watchers.Stuck as Stuck
use Rattle.sched_pool_tests.specs.contracts.tests.watchers.StuckEffect.TheImpl as stuck
use Rattle.sched_pool.proofs.Sends.{board_shares}
use Rattle.sched_pool_tests.proofs.tests.watchers.one_reads.Goals as goal

stuck_sends : IsSend Stuck.the_row
stuck_sends = search (sendable, crosses) depth 60

code_sends : IsSend Code.the_row
code_sends = search (sendable, crosses) depth 60

its_board_shares : (κ N n : _) → IsSend N
    → IsSync (Board.the_row κ Stuck.the_row N Code.the_row Code.the_row stuck.ghosts coded.ghosts coded.ghosts n)
its_board_shares κ N n s =
    board_shares κ Stuck.the_row N Code.the_row Code.the_row stuck.ghosts coded.ghosts coded.ghosts n stuck_sends s
    code_sends code_sends

all_send : (ν : _) (A B : RattleType) → IsSend A → IsSend B → IsSend (TupleAt ν (A ∷ B ∷ []))
all_send ν A B a b = search sendable depth 30

-- what a closure takes along
captured : (ν δ : _) (A B : RattleType) → IsSend A → IsSend B → IsSend (param 1 (arg δ no (TupleAt ν (A ∷ B ∷ []))))
captured ν δ A B a b = param_send 1 _ (arg_send δ no _ (all_send ν A B a b))

pub join-seen-requires-send-F : goal.join-seen-requires-send-F
join-seen-requires-send-F g c κs within =
    captured _ _ _ _
    (shr_send _ _ _ c.type_bounds.sync-R)
    (shr_send _ _ _ (its_board_shares _ _ _ c.type_bounds.send-N))
