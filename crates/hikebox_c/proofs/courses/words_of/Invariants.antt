-- The words so far are those of the events so far.
use Rattle.std.proofs.Common.{◌≡◌, map, take}
use Rattle.hikebox_c.specs.declared.courses.EventGiven.{EventGiven}
use Rattle.hikebox_c.proofs.courses.words_of.Given as goal

-- those so far are there
abbrev pub invariant-loop-event : goal.invariant-loop-event
invariant-loop-event l = l.words.items ≡ map (λ (e : EventGiven). e.words) (take l.event-index l.events)
