-- The shares that a board makes are its own.
use Rattle.std.proofs.Common.{ℕ, List, Option, sym, ap, subst}
use Rattle.std.specs.Prelude.{All, slice_index_or}
use Rattle.sched_ticket.specs.Held.{Name}
use Rattle.sched_pool_claim.specs.Portion.{Portion, IsShareOf}
use Rattle.sched_pool.specs.Boards.{Boarded, SharedOut}

pub are_shares : (board after : Boarded) (workers : ℕ) (shares : List Portion) → SharedOut board workers shares after →
    All (IsShareOf after.claims) shares
are_shares board after workers shares h = λ k d small.
    subst (λ (o : Option Name). IsShareOf o (slice_index_or shares k d)) (sym (ap (λ (b : Boarded). b.claims) h.sealed))
    (h.each k d small).0.0
