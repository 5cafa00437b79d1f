-- What is left to read of a text that is given as a stream.
use Rattle.std.specs.Prelude.{ℕ, List}
use Rattle.sched_cli_plan.specs.declared.again.Given.{Given}

-- the bytes of the text that are left to read
abbrev pub rest_of : Given → List ℕ
rest_of given = given.rest.now
