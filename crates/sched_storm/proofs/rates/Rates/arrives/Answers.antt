-- The moment at which a request comes is the greatest by which no more come.
use Rattle.std.proofs.Common.{subst, sym}
use Rattle.sched_storm.specs.Rates.{phases_of, IsGreatest}
use Rattle.sched_storm.proofs.Arrivals.{is_greatest}
use Rattle.sched_storm.proofs.rates.Rates.arrives.Goals as goal

pub returns-clause-greatest : goal.returns-clause-greatest
returns-clause-greatest c =
    let ks = phases_of c.args.self.now in
    subst (IsGreatest c.args.rate 0 ks c.args.number) (sym c.arrives_in.ensures)
    (is_greatest c.args.rate 0 ks c.args.number c.requires.rate c.requires.rates.in_order)
