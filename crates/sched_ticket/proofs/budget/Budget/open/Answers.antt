-- The words that a new budget starts with keep its rule.
use Rattle.std.proofs.Common.{ap, arith}
use Rattle.sched_ticket.specs.Rule.{laid}
use Rattle.sched_ticket.proofs.Moves.{first_kept}
use Rattle.sched_ticket.proofs.budget.Budget.open.Goals as goal

pub of_words-requires : goal.of_words-requires
of_words-requires c =
    first_kept _ _ _ (omega arith) (ap (λ made. laid 0 made c.args.about.limit) c.made_at_first-made.ensures)
