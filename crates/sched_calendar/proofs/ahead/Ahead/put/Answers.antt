-- A key is put into its row.
use Rattle.std.proofs.Common.{ap, sym, ◌∙◌, ◌<◌, ◌%◌, length, true, arith}
use Rattle.sched_calendar.proofs.Rows.{row_at-get, put_is, placed_put, times_put_row}
use Rattle.sched_calendar.specs.Keys.{row_at}
use Rattle.sched_calendar.proofs.ahead.Ahead.put.Goals as goal

pub invariant_of-self : goal.invariant_of-self
invariant_of-self c =
    let old = c.args.self.now in
    let row = c.moment_of.result % 16384 in
    let few : row < length old.rows.items = omega (arith, old.count, old.rows.ok) in
    let here = ap (λ m. m % 16384) (sym c.moment_of.ensures) in
    let was = ap (λ r. r.items) c.index_mut.ensures.value ∙ sym (row_at-get old.rows.items row _ few) in
    record {
      count = old.count;
      placed = placed_put old.rows.items row old.reached c.push.new.self (record { 0 = c.args.key }) _ few here
          c.requires old.placed
          (put_is _ (row_at old.rows.items row) c.push.new.self.items (record { 0 = c.args.key }) _ was
          c.push.ensures.items);
    }

pub returns-clause-times : goal.returns-clause-times
returns-clause-times c = λ k.
    let old = c.args.self.now in
    let row = c.moment_of.result % 16384 in
    let few : row < length old.rows.items = omega (arith, old.count, old.rows.ok) in
    let here = ap (λ m. m % 16384) (sym c.moment_of.ensures) in
    let was = ap (λ r. r.items) c.index_mut.ensures.value ∙ sym (row_at-get old.rows.items row _ few) in
    times_put_row old.rows.items row k c.push.new.self (record { 0 = c.args.key }) few here
    (put_is _ (row_at old.rows.items row) c.push.new.self.items (record { 0 = c.args.key }) true was
    c.in_ok-push.ensures.items)
