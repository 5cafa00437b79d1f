-- The inputs so far are in range.
use Rattle.sched_cli_words.specs.Options.{AreInputs}
use Rattle.sched_cli_words.proofs.words.inputs.Given as goal

-- those so far are in range
abbrev pub invariant-loop-number : goal.invariant-loop-number
invariant-loop-number l = AreInputs l.inputs.items
