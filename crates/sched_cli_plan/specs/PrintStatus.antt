-- The exit status where printing a plan stopped.
use Rattle.std.specs.Prelude.{ℕ, List, codes}
use Rattle.sched_cli_plan.specs.declared.faults.PrintFault.{PrintFault}
use Rattle.sched_cli_plan.specs.declared.faults.PrintFault.TheVariants as print

-- the status that the program exits with where printing stopped
abbrev pub print_status : PrintFault → ℕ
print_status print.TooLong = 3
print_status print.NotJson = 3
print_status print.NotAPlan = 3
print_status print.OutOfRange = 3
print_status print.TooDeep = 3
print_status print.TooMany = 3
print_status print.ReadFailed = 4
print_status print.WriteFailed = 4
print_status print.NoMemory = 5

-- the line that the program tells of it on standard error
abbrev pub print_line : PrintFault → List ℕ
print_line print.ReadFailed = codes "zsched: read failed"
print_line print.TooLong = codes "zsched: input too long"
print_line print.NotJson = codes "zsched: not JSON"
print_line print.NotAPlan = codes "zsched: not a plan"
print_line print.OutOfRange = codes "zsched: number out of range"
print_line print.TooDeep = codes "zsched: too deep"
print_line print.TooMany = codes "zsched: too many nodes"
print_line print.NoMemory = codes "zsched: no memory"
print_line print.WriteFailed = codes "zsched: write failed"
