-- Each seat whose job is over is closed at its place in the share.
use Rattle.std.proofs.Common.{◌≡◌, ◌∙◌, ◌++◌, rules, true, false, length, vec_len, drop, is_some, arith}
use Rattle.sched_pool_worker.specs.Working.{open_numbers}
use Rattle.sched_pool_worker.proofs.Closings.{closing_inside, closing_over, closing_open}
use Rattle.sched_pool_worker.proofs.works.close_over.Goals as goal

pub close-requires : goal.close-requires
close-requires g c =
    let wanted = open_numbers c.args.seats.items ++ drop (vec_len c.args.seats) c.args.share.now.active in
    let last : c.len.result ≡ length c.pop.new.self.items = omega (arith, c.len.ensures, c.pop.new.self.ok.0) in
    omega (
      arith,
      last,
      closing_inside c.loop-seat.seats.items c.pop.new.self.items c.in-Some.seat c.loop-seat.share.active wanted
          c.in-Some.ensures.items c.loop-seat.invariant.closing,
    )

pub loop-seat-preserved-then-is_some : goal.loop-seat-preserved-then-is_some
loop-seat-preserved-then-is_some g c =
    let wanted = open_numbers c.args.seats.items ++ drop (vec_len c.args.seats) c.args.share.now.active in
    let last : c.len.result ≡ length c.pop.new.self.items = omega (arith, c.len.ensures, c.pop.new.self.ok.0) in
    let over : is_some c.in-Some.seat.over ≡ true = search rules in
    record {
      pass = c.close.ensures.pass ∙ c.loop-seat.invariant.pass;
      closing =
          rw c.close.ensures.active
          (closing_over c.loop-seat.seats.items c.pop.new.self.items c.in-Some.seat c.loop-seat.share.active wanted
          c.in-Some.ensures.items c.loop-seat.invariant.closing c.len.result last over);
    }

pub loop-seat-preserved : goal.loop-seat-preserved
loop-seat-preserved g c =
    let wanted = open_numbers c.args.seats.items ++ drop (vec_len c.args.seats) c.args.share.now.active in
    let over : is_some c.in-Some.seat.over ≡ false = search rules in
    record {
      pass = c.loop-seat.invariant.pass;
      closing =
          closing_open c.loop-seat.seats.items c.pop.new.self.items c.in-Some.seat c.loop-seat.share.active wanted
          c.in-Some.ensures.items c.loop-seat.invariant.closing over;
    }
