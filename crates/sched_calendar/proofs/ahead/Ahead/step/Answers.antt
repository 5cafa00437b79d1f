-- The row of the next moment is taken.
use Rattle.std.proofs.Common.{ap, sym, ◌∙◌, ◌+◌, ◌<◌, ◌%◌, ◌≡◌, length, set, subst, arith}
use Rattle.sched_calendar.specs.Keys.{AreOf, times_in, row_at, row_of}
use Rattle.sched_calendar.proofs.Rows.{row_at-get, placed_step, here_of_row, times_step}
use Rattle.sched_calendar.proofs.ahead.Ahead.step.Goals as goal

pub invariant_of-self : goal.invariant_of-self
invariant_of-self c =
    let old = c.args.self.now in
    let few : (old.reached + 1) % 16384 < length old.rows.items = omega (arith, old.count, old.rows.ok) in
    record {
      count = old.count;
      placed = placed_step old.rows.items old.reached c.swap.new.y few old.placed
          (ap (λ r. r.items) c.swap.ensures.y_after ∙ c.requires.empty);
    }

pub returns-clause-moment : goal.returns-clause-moment
returns-clause-moment c =
    let old = c.args.self.now in
    let few : (old.reached + 1) % 16384 < length old.rows.items = omega (arith, old.count, old.rows.ok) in
    let was = row_at-get old.rows.items ((old.reached + 1) % 16384) _ few
    ∙ sym (ap (λ r. r.items) (c.swap.ensures.x_after ∙ c.index_mut.ensures.value)) in
    subst (AreOf (old.reached + 1)) was (here_of_row old.rows.items old.reached old.placed)

pub returns-clause-times : goal.returns-clause-times
returns-clause-times c = λ k.
    let old = c.args.self.now in
    let few : (old.reached + 1) % 16384 < length old.rows.items = omega (arith, old.count, old.rows.ok) in
    let was = row_at-get old.rows.items ((old.reached + 1) % 16384) _ few
    ∙ sym (ap (λ r. r.items) (c.swap.ensures.x_after ∙ c.index_mut.ensures.value)) in
    let all = times_step old.rows.items old.reached k c.swap.new.y few old.placed
    (ap (λ r. r.items) c.swap.ensures.y_after ∙ c.requires.empty) in
    subst (λ r. times_in k r
    + times_in k (row_at (set old.rows.items ((old.reached + 1) % 16384) c.swap.new.y) (row_of k))
    ≡ times_in k (row_at old.rows.items (row_of k))) was all
