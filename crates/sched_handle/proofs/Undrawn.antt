-- What is answered where a leased pass gives no ticket, by its reason.
use Rattle.std.proofs.Common.{◌≡◌, ℕ, refl, sym, subst}
use Rattle.std.specs.Prelude.{Result}
use Rattle.sched_ticket_lease.specs.Holders.{Holder, DrawsNone}
use Rattle.sched_ticket_lease.specs.declared.ticket.NoTicket.{NoTicket}
use Rattle.sched_ticket_lease.specs.declared.ticket.NoTicket.TheVariants.{LeaseWanted, AskAt, NoMemory}
use Rattle.sched_handle.specs.Leases.{DrawsLeased, undrawn_of}
use Rattle.sched_handle.specs.declared.leases.Draw.{Draw}
use Rattle.sched_handle.specs.declared.status.Status.{Status}

module _ (now : ℕ) (h k : Holder) where
  by-reason : (why : NoTicket) → DrawsNone now h why → k ≡ h → DrawsLeased now h (undrawn_of why) k
  by-reason LeaseWanted none same = (none, same)
  by-reason (AskAt m) none same = (none, same)
  by-reason NoMemory none same = (refl, none, same)

  pub none-drawn : (why : NoTicket) (r : Result Draw Status) → r ≡ undrawn_of why → DrawsNone now h why → k ≡ h →
      DrawsLeased now h r k
  none-drawn why r e none same = subst (λ x. DrawsLeased now h x k) (sym e) (by-reason why none same)
