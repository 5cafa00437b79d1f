-- The exit status where printing a pool stopped.
use Rattle.std.specs.Prelude.{ℕ, List, codes}
use Rattle.sched_cli_plan.specs.PrintStatus.{print_line, print_status}
use Rattle.sched_cli_pool.specs.declared.faults.PoolFault.{PoolFault}
use Rattle.sched_cli_pool.specs.declared.faults.PoolFault.TheVariants.{Print, NotStarted, Unfinished, Mixed}

-- the status that the program exits with where printing a pool stopped
abbrev pub pool_status : PoolFault → ℕ
pool_status (Print fault) = print_status fault
pool_status Unfinished = 6
pool_status NotStarted = 7
pool_status Mixed = 8

-- the line that the program tells of it on standard error
abbrev pub pool_line : PoolFault → List ℕ
pool_line (Print fault) = print_line fault
pool_line Unfinished = codes "zsched: not finished"
pool_line NotStarted = codes "zsched: worker not started"
pool_line Mixed = codes "zsched: jobs mixed up"
