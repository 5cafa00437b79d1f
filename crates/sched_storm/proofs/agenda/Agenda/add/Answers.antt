-- A key that is put in is that of what is due of its request.
use Rattle.sched_storm.proofs.Keys.{put_by}
use Rattle.sched_storm.proofs.agenda.Agenda.add.Goals as goal

pub returns : goal.returns
returns c = λ keys h none.
    put_by c.args.self.now.keys c.add.new.self keys c.args.turn c.key.result c.add.result c.requires.number h none
    c.key.ensures c.add.ensures
