-- What is told is what was told and one moment more.
use Rattle.std.proofs.Common.{List}
use Rattle.std.proofs.lemmas.Result.{on_ok_weaker}
use Rattle.sched_storm_report.specs.Told.{IsNext, AreTold}
use Rattle.sched_storm_report.specs.declared.moments.Moment.{Moment}
use Rattle.sched_storm_report.proofs.Standing.{told_more}
use Rattle.sched_storm_report.proofs.tally.Tally.tell.Goals as goal

pub returns-clause-told : goal.returns-clause-told
returns-clause-told c = let before = c.turn.new.self in let turned = c.in_ok-turn.ensures in
    let more = λ (next : IsNext c.args.moment before c.note.new.self) (told : List Moment)
    (was : AreTold c.args.peer.now told c.args.self.now).
    told_more c.args.peer.now told c.args.moment before _ (turned.stands told was.stands) before.in_line before.some
    turned.from turned.here c.requires.began next in
    on_ok_weaker c.note.result more c.note.ensures.next
