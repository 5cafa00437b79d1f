-- `fill_bytes` takes the bytes of the generator's next words, as every generator of 32-bit words does.
use Rattle.std.proofs.Common.{rules}
use Rattle.rand_core.proofs.StepsLemmas.{meets_fill_bytes}
use Rattle.sched_task.proofs.words.MidWordsRng.fill_bytes.Goals as goal

pub returns : goal.returns
returns c = meets_fill_bytes _ _ _ _ _ (search rules)
