-- The least moment at which so many units can have been done lies between the two.
use Rattle.std.proofs.Common.{ℕ, ◌+◌, ◌-◌, ◌/◌, arith}
use Rattle.sched_storm.proofs.Peer.{done_rises}
use Rattle.sched_storm.proofs.storm.Storm.done_at.Goals as goal

pub loop-early-init : goal.loop-early-init
loop-early-init c = record {
  order = c.requires.order;
  from = omega arith;
  near = omega arith;
  done = c.requires.done;
  before = λ k h.
      let rise = done_rises c.args.self.now k c.args.from (omega arith) in
      let start = c.requires.before in
      omega arith;
}

pub loop-early-preserved : goal.loop-early-preserved
loop-early-preserved c =
    let middle : ℕ = c.loop-early.early + (c.loop-early.late - c.loop-early.early) / 2 in
    record {
      order = omega arith;
      from = omega arith;
      near = c.loop-early.invariant.near;
      done = c.loop-early.invariant.done;
      before = λ k h.
          let rise = done_rises c.args.self.now k middle (omega arith) in
          let value = c.can_be_done.ensures.value in
          let low = c.if-can_be_done-units.false in
          omega arith;
    }
