-- The words that a new quota starts with keep its rule.
use Rattle.std.proofs.Common.{◌≡◌, List, ℕ, [], ◌∷◌, refl, sym, subst, arith}
use mathlib.Core.Option.{Option}
use Rattle.sched_ticket_quota.specs.View.{first_of_kind}
use Rattle.sched_ticket_quota.specs.Rule.{IsKept}
use Rattle.sched_ticket_quota.specs.declared.view.Kind.{Kind}
use Rattle.sched_ticket_quota.proofs.Parts.{first_kept}
use Rattle.sched_ticket_quota.proofs.quota.Quota.of_kind.Goals as goal

-- the rule of what the same quota is made with
same_kept : (j z : Kind) (ws : List ℕ) (homes : List (Option ℕ)) → z ≡ j
    → IsKept j.terms (record { words = ws; homes = homes; views = first_of_kind j.carries j.terms ∷ [] })
    → IsKept z.terms (record { words = ws; homes = homes; views = first_of_kind z.carries z.terms ∷ [] })
same_kept j z ws homes same kept =
    subst (λ (z : Kind).
    IsKept z.terms (record { words = ws; homes = homes; views = first_of_kind z.carries z.terms ∷ [] })) (sym same) kept

pub of_words-requires : goal.of_words-requires
of_words-requires c =
    same_kept _ _ _ _ c.of.ensures (first_kept _ _ _ _ (omega arith) refl refl refl c.word_of.ensures refl refl)
