-- A key is put into the heap.
use Rattle.std.proofs.Common.{◌∷◌, arith}
use Rattle.std.proofs.lemmas.List.Sums.{sum_by-cons}
use Rattle.std.proofs.lemmas.List.Sorted.{sum_by-IsPermutation}
use Rattle.std.specs.BinaryHeap.{heap_items}
use Rattle.sched_calendar.specs.Keys.{is_at}
use Rattle.sched_calendar.proofs.calendar.Calendar.add.Goals as goal

pub returns-in_ok-push : goal.returns-in_ok-push
returns-in_ok-push c = λ k.
    let old = heap_items c.args.self.now.others in
    let all = sum_by-IsPermutation (is_at k) (record { 0 = c.args.key } ∷ old) (heap_items c.push.new.self)
    c.in_ok-push.ensures.permutation in
    let one = sum_by-cons (is_at k) (record { 0 = c.args.key }) old in
    omega arith
