-- Before the first event nothing is due but that requests come.
use Rattle.std.proofs.Common.{refl, rules}
use Rattle.sched_storm.proofs.Begins.{stands_at_first}
use Rattle.sched_storm.proofs.course.Course.new.Goals as goal

pub returns-clause-stands : goal.returns-clause-stands
returns-clause-stands c = stands_at_first _ (record {
  in_range = search rules;
  moments = c.requires.arrivals;
  words = search rules;
  requests = refl;
  comes = search rules;
  calls = refl;
  busy = refl;
  drawn = refl;
  limit = search rules;
  slots = search rules;
  slots_len = search rules;
  agenda = c.requires.nothing;
  clients = c.requires.clients;
  told = search rules;
  window = search rules;
  from = search rules;
  said = search rules;
  events = refl;
})
