-- After an event its request is next at the same moment, and else what is least due.
use Rattle.std.proofs.Common.{subst}
use Rattle.sched_storm.specs.Course.{keys_of, StandsAfter}
use Rattle.sched_storm.proofs.Taken.{may_put, put_in_agenda, not_in_agenda, in_turn}
use Rattle.sched_storm.proofs.course.Course.next_after.Goals as goal

pub add-requires-clause-at : goal.add-requires-clause-at
add-requires-clause-at c =
    let h = subst (λ o. StandsAfter c.args.turn.at c.args.turn.request c.args.self.now o) c.in-Some.is c.requires in
    (may_put c.args.self.now c.args.self.now.agenda c.args.turn.at c.args.turn.request c.in-Some.next h).0

pub add-requires-clause-number : goal.add-requires-clause-number
add-requires-clause-number c =
    let h = subst (λ o. StandsAfter c.args.turn.at c.args.turn.request c.args.self.now o) c.in-Some.is c.requires in
    (may_put c.args.self.now c.args.self.now.agenda c.args.turn.at c.args.turn.request c.in-Some.next h).1

pub take_next-requires-2 : goal.take_next-requires-2
take_next-requires-2 c =
    let h = subst (λ o. StandsAfter c.args.turn.at c.args.turn.request c.args.self.now o) c.in-Some.is c.requires in
    put_in_agenda c.args.self.now c.add.new.self c.args.turn.at c.args.turn.request c.in-Some.next h
    (c.in_ok-add.ensures (keys_of h.stands.held) h.stands.holds
    (not_in_agenda c.args.self.now c.args.self.now.agenda c.args.turn.at c.args.turn.request c.in-Some.next h))

pub returns-then-next-turn-clause-first : goal.returns-then-next-turn-clause-first
returns-then-next-turn-clause-first c =
    let h = subst (λ o. StandsAfter c.args.turn.at c.args.turn.request c.args.self.now o) c.in-Some.is c.requires in
    in_turn c.args.self.now c.args.self.now.agenda c.args.turn.at c.args.turn.request c.in-Some.next h
    c.if-next-turn.true
