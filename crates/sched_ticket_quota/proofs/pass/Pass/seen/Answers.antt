-- Reading what the quota has keeps its rule.
use Rattle.std.proofs.Common.{sym, ap, ◌∙◌, arith}
use mathlib.Core.Option.{none}
use Rattle.atomic_table.specs.Table.{step}
use Rattle.sched_ticket_quota.specs.Held.{Name, Held}
use Rattle.sched_ticket_quota.specs.Steps.{Sat}
use Rattle.sched_ticket_quota.proofs.Moves.{reads_ok, glances_ok, finds_ok, recalls_ok}
use Rattle.sched_ticket_quota.proofs.pass.Pass.seen.Goals as goal

pub load-back-requires : goal.load-back-requires
load-back-requires c =
    let known = c.quota.invariant in (
      ap (λ (p : Held). p.table) c.self.view_is ∙ c.turn.ensures.of.0
          ∙ sym (ap (λ (b : Name). b.table) c.quota.view_is),
      omega arith,
      recalls_ok _ _ _ _ (step 0 9 0 0 none),
    )

pub load-drawn-requires : goal.load-drawn-requires
load-drawn-requires c =
    let known = c.quota.invariant in (
      c.load-back.ensures.0 ∙ ap (λ (p : Held). p.table) c.self.view_is ∙ c.turn.ensures.of.0
          ∙ sym (ap (λ (b : Name). b.table) c.quota.view_is),
      omega arith,
      finds_ok _ _ _ _ (step 0 8 0 0 none)
          (omega (
            arith,
            c.turn.ensures.live,
            ap (λ (p : Held). p.has.weight) c.self.view_is,
            ap (λ (m : Sat). m.0.weight) c.load-back.ensures.2.1,
          )),
    )

pub load-requests-requires : goal.load-requests-requires
load-requests-requires c =
    let known = c.quota.invariant in (
      c.load-drawn.ensures.0 ∙ c.load-back.ensures.0 ∙ ap (λ (p : Held). p.table) c.self.view_is ∙ c.turn.ensures.of.0
          ∙ sym (ap (λ (b : Name). b.table) c.quota.view_is),
      omega arith,
      reads_ok _ _ _ _ (step 0 24 0 0 none)
          (omega (
            arith,
            c.turn.ensures.live,
            ap (λ (p : Held). p.has.weight) c.self.view_is,
            ap (λ (m : Sat). m.0.weight) c.load-back.ensures.2.1,
            ap (λ (m : Sat). m.0.weight) c.load-drawn.ensures.2.1,
          )),
    )

pub load-terms-requires : goal.load-terms-requires
load-terms-requires c =
    let known = c.quota.invariant in (
      c.load-requests.ensures.0 ∙ c.load-drawn.ensures.0 ∙ c.load-back.ensures.0 ∙ ap (λ (p : Held). p.table)
          c.self.view_is ∙ c.turn.ensures.of.0 ∙ sym (ap (λ (b : Name). b.table) c.quota.view_is),
      omega arith,
      glances_ok _ _ _ _ (step 0 25 0 0 none),
    )
