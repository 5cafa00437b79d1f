-- `next_u64` takes two steps of the generator, as every generator of 32-bit words does.
use Rattle.std.proofs.Common.{rules}
use Rattle.rand_core.proofs.StepsLemmas.{meets_next_u64}
use Rattle.sched_task.proofs.words.MidWordsRng.next_u64.Goals as goal

pub returns : goal.returns
returns c = meets_next_u64 _ _ _ _ (search rules)
