-- A new limit keeps the rule.
use Rattle.std.proofs.Common.{refl}
use Rattle.sched_limit_word.proofs.Parts.{first_kept}
use Rattle.sched_limit_word.proofs.limit.Limit.new.Goals as goal

pub of_words-requires : goal.of_words-requires
of_words-requires g c = first_kept _ _ _ _ refl c.first.ensures
