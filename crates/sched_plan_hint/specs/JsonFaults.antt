-- Why a text is no JSON, in words.
use Rattle.std.specs.Prelude.{ℕ, List, codes}
use Rattle.sched_plan_hint.specs.declared.json_faults.JsonFault.{JsonFault}
use Rattle.sched_plan_hint.specs.declared.json_faults.JsonFault.TheVariants.{Empty, EndsTooSoon, TooLarge, Unexpected}

abbrev pub json_words : JsonFault → List ℕ
json_words Empty = codes "the text is empty"
json_words EndsTooSoon = codes "the text ends too soon"
json_words TooLarge = codes "the number is too large"
json_words Unexpected = codes "what stands here is not JSON, or is nested more than 127 deep"
