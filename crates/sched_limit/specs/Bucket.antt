-- The bucket as a sequential machine: its word is the level.
use Rattle.std.specs.Prelude.{ℕ, ◌+◌, ◌-◌, ◌*◌, ◌≤◌, min, true, false, if◌then◌else◌, nat_lt, Option, Some, None}
use Rattle.sched_limit_word.specs.declared.call.Call.{Call}
use Rattle.sched_limit_word.specs.declared.call.Call.TheVariants.{Admit, Draw, Failed, Succeeded, Ended, Returned}
use Rattle.sched_limit_word.specs.declared.call.Call.TheVariants.{Closed, OpenedByHand, ClosedByHand}
use Rattle.sched_limit.specs.declared.refusal.Refusal.{Refusal}
use Rattle.sched_limit.specs.declared.refusal.Refusal.TheVariants.{LevelLow}
use Rattle.sched_limit.specs.declared.bucket.Bucket.{Bucket}

-- terms that a bucket can be made with
pub record AreTerms (b : Bucket) : Type 0 where
  pub capacity : b.capacity ≤ 1099511627776
  pub floor : b.floor ≤ b.capacity
  pub debit : b.debit ≤ b.capacity
  pub credit : b.credit ≤ b.capacity

-- gRPC's bucket of m tokens, of which a success gives t thousandths
abbrev pub grpc_bucket : ℕ → ℕ → Bucket
grpc_bucket m t = record { capacity = 1000 * m; floor = 500 * m + 1; debit = 1000; credit = t; refund = false }

-- that of the AWS SDKs
abbrev pub aws_bucket : Bucket
aws_bucket = record { capacity = 500000; floor = 0; debit = 0; credit = 1000; refund = true }

-- a draw that would leave less than the floor changes nothing
abbrev pub drawn : Bucket → ℕ → ℕ → ℕ
drawn b cost level = if nat_lt level (b.floor + cost) then level else level - cost

abbrev pub bucket_next : Bucket → Call → ℕ → ℕ
bucket_next b (Admit now random before) level = level
bucket_next b (Draw now cost slots) level = drawn b cost level
bucket_next b (Failed now generation) level = level - b.debit
bucket_next b (Succeeded now generation worth) level = min (level + worth) b.capacity
bucket_next b (Ended slots) level = level
bucket_next b (Returned cost slots) level = min (level + cost) b.capacity
bucket_next b (Closed now) level = level
bucket_next b (OpenedByHand now until) level = level
bucket_next b (ClosedByHand now) level = level

abbrev pub bucket_refusal : Bucket → Call → ℕ → Option Refusal
bucket_refusal b (Admit now random before) level = None
bucket_refusal b (Draw now cost slots) level = if nat_lt level (b.floor + cost) then Some (LevelLow level) else None
bucket_refusal b (Failed now generation) level = None
bucket_refusal b (Succeeded now generation worth) level = None
bucket_refusal b (Ended slots) level = None
bucket_refusal b (Returned cost slots) level = None
bucket_refusal b (Closed now) level = None
bucket_refusal b (OpenedByHand now until) level = None
bucket_refusal b (ClosedByHand now) level = None

-- a success gives the credit, or with refund what the last granted draw of its request took
abbrev pub bucket_worth : Bucket → Option ℕ → ℕ
bucket_worth b None = b.credit
bucket_worth b (Some cost) = if b.refund then cost else b.credit
