-- The loop has played the events before this one.
use Rattle.std.proofs.Common.{take}
use Rattle.sched_driver_stepper.proofs.Plays.{HasPlayed}
use Rattle.sched_driver_stepper.proofs.steppers.Stepper.replay.Given as goal

abbrev pub invariant-loop-event : goal.invariant-loop-event
invariant-loop-event l = HasPlayed l.initial.self l.self (take l.event-index l.events)
