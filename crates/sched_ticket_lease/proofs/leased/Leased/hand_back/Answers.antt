-- A number that was out is at hand.
use Rattle.std.proofs.Common.{refl, arith}
use Rattle.sched_ticket.specs.Lists.{is}
use Rattle.sched_ticket.proofs.Sums.{is-same}
use Rattle.sched_ticket_lease.proofs.Remembered.{remembers-less}
use Rattle.sched_ticket_lease.proofs.leased.Leased.hand_back.Goals as goal

pub invariant_of-self : goal.invariant_of-self
invariant_of-self c =
    let moves = rw c.in-Ok-true.field-0-test at c.in-Ok-true.ensures.moved in
    record {
      once = λ n.
          let before = c.self.invariant.once n in
          let less = moves.0 (is n) in
          let more = moves.1 (is n) in
          let kept = remembers-less _ _ _ _ (is n) c.trim-self-inside.ensures.kept in
          omega arith;
      few = c.trim-self-inside.ensures.few;
    }

pub returns-in-Ok-true-clause-ok : goal.returns-in-Ok-true-clause-ok
returns-in-Ok-true-clause-ok c =
    let moves = rw c.in-Ok-true.field-0-test at c.in-Ok-true.ensures.moved in
    rw (← c.self.view_is) (record {
      in_window = omega arith;
      at_hand = moves.1;
      was_out =
          let less = moves.0 (is c.args.ticket.number) in
          omega (arith, is-same c.args.ticket.number c.args.ticket.number refl);
      out = (c.move_number.new.self, moves.0, c.trim-self-inside.ensures.kept);
      drawn = c.saturating_sub-self-inside.ensures;
      window = refl;
      until = refl;
      ask_at = refl;
      requests = refl;
    })
