-- The count of a window is between its two partition points, since the windows rise.
use Rattle.std.proofs.Common.{ℕ, ltb, leb, ltb-true, ltb-false, leb-true, leb-false, arith, rules}
use Rattle.std.proofs.lemmas.List.Sorted.{IsPartitionPoint-from_clause, IsPartitionedBy-leb, IsPartitionedBy-ltb}
use Rattle.std.proofs.lemmas.List.Sorted.{IsNonDecreasingBy-from_sort}
use Rattle.sched_pool_scripted.proofs.Spread.{times_between}
use Rattle.sched_pool_scripted.proofs.refusals.count_of.Goals as goal

pub returns : goal.returns
returns c =
    let xs = c.args.windows.now in
    let w : ℕ = c.args.window in
    let rises = IsNonDecreasingBy-from_sort (λ x. x) xs c.requires in
    let below = IsPartitionPoint-from_clause (λ x. ltb x w) _ _ c.partition_point-below.ensures.partitioned
    (IsPartitionedBy-ltb (λ x. x) xs w rises) (λ a r q k. search rules) in
    let through = IsPartitionPoint-from_clause (λ x. leb x w) _ _ c.partition_point-through.ensures.partitioned
    (IsPartitionedBy-leb (λ x. x) xs w rises) (λ a r q k. search rules) in
    omega (
      arith,
      c.saturating_sub.ensures,
      times_between xs w c.partition_point-below.result c.partition_point-through.result
          c.partition_point-below.ensures.bound c.partition_point-through.ensures.bound
          (λ i low. ltb-true _ w (below.0 i 0 (omega arith) low)) (λ i low lt. ltb-false _ w (below.1 i 0 low lt))
          (λ i low. leb-true _ w (through.0 i 0 (omega arith) low)) (λ i low lt. leb-false _ w (through.1 i 0 low lt)),
    )
