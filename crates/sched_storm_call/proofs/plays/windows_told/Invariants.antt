-- The windows told so far are those of the report so far.
use Rattle.std.proofs.Common.{◌≡◌, map, take}
use Rattle.sched_storm_call.specs.Told.{window_told}
use Rattle.sched_storm_call.proofs.plays.windows_told.Given as goal

-- those so far are told
abbrev pub invariant-loop-window : goal.invariant-loop-window
invariant-loop-window l = l.told.items ≡ map window_told (take l.window-index l.window-items)
