-- How many nodes progress has, by which the calls that go down a state end.
use Rattle.std.specs.Prelude.{ℕ, ◌+◌}
use Rattle.sched_step.specs.Progress.{Progress, at_leaf, at_one, at_two}

abbrev pub progress_size : Progress → ℕ
progress_size (at_leaf s) = 1
progress_size (at_one k p) = progress_size p + 1
progress_size (at_two t p q) = progress_size p + progress_size q + 1
