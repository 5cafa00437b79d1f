-- A machine that has not begun is to be polled, and begins a run.
use Rattle.std.proofs.Common.{◌≡◌, inl, inr, sym, ◌∙◌}
use Rattle.sched_run_machine.specs.declared.next.Next.TheVariants.{Poll, Run, Wait, Over}
use Rattle.sched_run_machine.proofs.Waits.{unbegun_next}
use Rattle.sched_closure.proofs.retries.begun.Goals as goal

pub unreachable-requires : goal.unreachable-requires
unreachable-requires g c =
    let polls : c.next.result ≡ Poll =
    c.next.ensures.next _ c.new-retry.ensures.stands ∙ unbegun_next _ _ in
    elim c.in-Run.is [
      | inl runs ↦ (let bad : Poll ≡ Run = sym polls ∙ runs in cc)
      | inr rest ↦ elim rest [
        | inl waits ↦ (let bad : Poll ≡ Wait waits.0 = sym polls ∙ waits.1 in cc)
        | inr over ↦ (let bad : Poll ≡ Over over.0 = sym polls ∙ over.1 in cc)
      ]
    ]

pub returns-clause-polls : goal.returns-clause-polls
returns-clause-polls g c = rw c.new-retry.ensures.begins at c.begin.ensures.polls
