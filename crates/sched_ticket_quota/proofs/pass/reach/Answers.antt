-- Coming to a window keeps the quota's rule.
use Rattle.std.proofs.Common.{sym, ap, ◌∙◌, arith}
use mathlib.Core.Option.{none}
use Rattle.atomic_table.specs.Table.{step}
use Rattle.sched_ticket_quota.specs.Held.{Name}
use Rattle.sched_ticket_quota.specs.Steps.{Sat}
use Rattle.sched_ticket_quota.specs.declared.view.View.{View}
use Rattle.sched_ticket_quota.proofs.Moves.{reads_ok, opens_ok}
use Rattle.sched_ticket_quota.proofs.pass.reach.Goals as goal

pub load-requests-requires : goal.load-requests-requires
load-requests-requires c =
    let known = c.quota.invariant in (
      c.requires.of.0 ∙ sym (ap (λ (b : Name). b.table) c.quota.view_is),
      omega arith,
      reads_ok _ _ _ _ (step 0 24 0 0 none) c.requires.live,
    )

pub fetch_max-found-requires : goal.fetch_max-found-requires
fetch_max-found-requires c =
    let known = c.quota.invariant in
    let read = c.load-requests.ensures in
    let noted = c.note.ensures in (
      noted.seat.0 ∙ read.0 ∙ c.requires.of.0 ∙ sym (ap (λ (b : Name). b.table) c.quota.view_is),
      omega arith,
      opens_ok _ _ _ _ (step 0 24 _ 0 none) c.args.window
          (omega (arith, ap (λ (v : View). v.weight) noted.noted, ap (λ (m : Sat). m.0.weight) read.2.2)) (omega arith)
          (omega arith),
    )
