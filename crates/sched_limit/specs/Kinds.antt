-- The machines of one word, as what calls make of their words.
use Rattle.sched_limit.specs.Step.{Rules, rules}
use Rattle.sched_limit.specs.Bucket.{bucket_next, bucket_refusal, bucket_worth}
use Rattle.sched_limit.specs.InFlight.{flight_next, flight_refusal}
use Rattle.sched_limit.specs.Adaptive.{adaptive_next, adaptive_refusal}
use Rattle.sched_limit.specs.Breaker.{breaker_next, breaker_refusal}
use Rattle.sched_limit.specs.Word.{stamp_of}
use Rattle.sched_limit.specs.declared.adaptive.Adaptive.{Adaptive}
use Rattle.sched_limit.specs.declared.bucket.Bucket.{Bucket}
use Rattle.sched_limit.specs.declared.in_flight.InFlight.{InFlight}
use Rattle.sched_limit.specs.declared.breaker.Breaker.{Breaker}

abbrev pub bucket_rules : Bucket → Rules
bucket_rules = rules bucket_next bucket_refusal (λ b word. 0) bucket_worth

abbrev pub flight_rules : InFlight → Rules
flight_rules = rules flight_next flight_refusal (λ k word. 0) (λ k drawn. 0)

abbrev pub adaptive_rules : Adaptive → Rules
adaptive_rules = rules adaptive_next (λ k. adaptive_refusal) (λ k word. 0) (λ k drawn. 0)

abbrev pub breaker_rules : Breaker → Rules
breaker_rules = rules breaker_next breaker_refusal (λ b word. stamp_of word) (λ b drawn. 0)
