-- A number that was at hand is out.
use Rattle.std.proofs.Common.{refl, arith}
use Rattle.sched_ticket.specs.Lists.{is}
use Rattle.sched_ticket_lease.proofs.Remembered.{remembers-less, remembers-as}
use Rattle.sched_ticket_lease.proofs.leased.Leased.draw.Goals as goal

pub invariant_of-self : goal.invariant_of-self
invariant_of-self c =
    let moves = rw c.in-Ok-Some.field-0-is at c.in-Ok-Some.ensures.some in
    record {
      once = λ n.
          let before = c.self.invariant.once n in
          let less = moves.0 (is n) in
          let more = moves.1 (is n) in
          let kept = remembers-less _ _ _ _ (is n) c.trim-self-inside.ensures.kept in
          omega arith;
      few = c.trim-self-inside.ensures.few;
    }

pub returns-in-Ok-Some-clause-ok : goal.returns-in-Ok-Some-clause-ok
returns-in-Ok-Some-clause-ok c =
    let moves = rw c.in-Ok-Some.field-0-is at c.in-Ok-Some.ensures.some in
    rw (← c.self.view_is) (record {
      in_window = refl;
      in_time = omega arith;
      at_hand = moves.0;
      out = remembers-as _ _ _ _ _ moves.1 c.trim-self-inside.ensures.kept;
      drawn = c.saturating_add-self-inside.ensures;
      window = refl;
      until = refl;
      ask_at = refl;
      requests = refl;
    })
