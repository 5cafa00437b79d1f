-- No ticket is drawn once its window is over.
use Rattle.std.proofs.Common.{◌≡◌, ◌<◌, ◌≤◌, ◌⊎◌, List, [], ◌∷◌, inl, inr, sym, subst, arith, ◌∙◌}
use Rattle.sched_ticket.specs.Lists.{Each}
use Rattle.sched_ticket_lease.specs.Holders.{Holder, Takes, AddsGrant, TurnsTo}
use Rattle.sched_ticket_lease.specs.Histories.{Call, Does, Step, AreMade, IsInTime, EndsBy, AllEnd, NoneIsDrawnLate}
use Rattle.sched_ticket_lease.specs.Histories.Call.{drew, took, handed_back, lent, counted, told, left_alone}
use Rattle.sched_ticket_lease.specs.declared.ticket.Grant.{Grant}

-- a holder has come past this range's window, or knows an end of it that is no later
abbrev Heeds : Grant → Holder → Type 0
Heeds g h = (g.window < h.window) ⊎ ((h.window ≡ g.window) × (h.until ≤ g.until))

module _ (g : Grant) where
  takes-heeds : (m : Grant) (h k : Holder) → Takes h m k → AddsGrant h m k ⊎ TurnsTo h m k → Heeds g h → Heeds g k
  takes-heeds m h k d (inl adds) (inl past) = inl (omega (arith, d.window, adds.0, past))
  takes-heeds m h k d (inl adds) (inr here) =
      inr (d.window ∙ (adds.0 ∙ here.0), omega (arith, adds.1.ends_is, here.1))
  takes-heeds m h k d (inr turns) (inl past) = inl (omega (arith, d.window, turns.later, past))
  takes-heeds m h k d (inr turns) (inr here) = inl (omega (arith, d.window, turns.later, here.0))

  step-heeds : (c : Call) (h k : Holder) → Does c h k → Heeds g h → Heeds g k
  step-heeds (drew now t) h k d (inl past) = inl (omega (arith, d.window, past))
  step-heeds (drew now t) h k d (inr here) = inr (d.window ∙ here.0, omega (arith, d.until, here.1))
  step-heeds (took m) h k d heeds = takes-heeds m h k d d.held heeds
  step-heeds (handed_back t) h k d (inl past) = inl (omega (arith, d.window, past))
  step-heeds (handed_back t) h k d (inr here) = inr (d.window ∙ here.0, omega (arith, d.until, here.1))
  step-heeds (lent most m) h k d heeds = subst (Heeds g) (sym d.same) heeds
  step-heeds (counted now n) h k d heeds = subst (Heeds g) (sym d.same) heeds
  step-heeds (told since n) h k d heeds = subst (Heeds g) (sym d.same) heeds
  step-heeds (left_alone m) h k d heeds = subst (Heeds g) (sym d) heeds

  in-time : (c : Call) (h k : Holder) → Does c h k → Heeds g h → IsInTime g c
  in-time (drew now t) h k d (inl past) = λ e. absurd (omega (arith, d.in_window, past, e))
  in-time (drew now t) h k d (inr here) = λ e. omega (arith, d.in_time, here.1)
  in-time (took m) h k d heeds = tt
  in-time (handed_back t) h k d heeds = tt
  in-time (lent most m) h k d heeds = tt
  in-time (counted now n) h k d heeds = tt
  in-time (told since n) h k d heeds = tt
  in-time (left_alone m) h k d heeds = tt

  all-in-time : (h : Holder) (steps : List Step) → AreMade h steps → Heeds g h
      → Each (λ (s : Step). IsInTime g s.call) steps
  all-in-time h [] made heeds = tt
  all-in-time h (s ∷ ss) made heeds = (
    in-time s.call h s.after made.0 heeds,
    all-in-time s.after ss made.2 (step-heeds s.call h s.after made.0 heeds),
  )

  took-heeds : (h k : Holder) → Takes h g k → AddsGrant h g k ⊎ TurnsTo h g k → Heeds g k
  took-heeds h k d (inl adds) = inr (d.window, omega (arith, adds.1.ends_is))
  took-heeds h k d (inr turns) = inr (d.window, omega (arith, turns.ends_is))

ends-by : (c : Call) (h k : Holder) (later : List Step) → Does c h k → AreMade k later → EndsBy c later
ends-by (took g) h k later d made = all-in-time g k later made (took-heeds g h k d d.held)
ends-by (drew now t) h k later d made = tt
ends-by (handed_back t) h k later d made = tt
ends-by (lent most m) h k later d made = tt
ends-by (counted now n) h k later d made = tt
ends-by (told since n) h k later d made = tt
ends-by (left_alone m) h k later d made = tt

all-end : (h : Holder) (steps : List Step) → AreMade h steps → AllEnd steps
all-end h [] made = tt
all-end h (s ∷ ss) made = (ends-by s.call h s.after ss made.0 made.2, all-end s.after ss made.2)

pub none_is_drawn_late : NoneIsDrawnLate
none_is_drawn_late steps all = all-end all.0 steps all.2
