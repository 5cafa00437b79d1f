-- What one call changes of what a holder has at hand, and what all its calls come to.
use Rattle.std.proofs.Common.{◌≡◌, ℕ, ◌+◌, ◌≤◌, ◌⊎◌, List, [], ◌∷◌, inl, inr, sym, ap, arith, ◌∙◌}
use mathlib.Core.Logic.{dite}
use native.Mathlib.Decide.{ℕ_discrete}
use Rattle.sched_ticket.specs.Lists.{total, Each}
use Rattle.sched_ticket_lease.specs.Spans.{between, weight}
use Rattle.sched_ticket_lease.specs.Holders.{Holder, IsNew, Takes, AddsGrant, TurnsTo}
use Rattle.sched_ticket_lease.specs.Histories.{Call, Does, Step, AreMade, IsHistory, in_window, drew_by, took_by}
use Rattle.sched_ticket_lease.specs.Histories.{back_by, lent_by, drew_in, took_in, back_in, lent_in, DrawsWereGranted}
use Rattle.sched_ticket_lease.specs.Histories.Call.{drew, took, handed_back, lent, counted, told, left_alone}
use Rattle.sched_ticket_lease.specs.declared.ticket.Grant.{Grant}
use Rattle.sched_ticket_lease.proofs.Counts.{of-same, of-other}

-- what a holder has at hand of this window
abbrev pub at_hand_in : (ℕ → ℕ) → ℕ → Holder → ℕ
at_hand_in q w h = in_window w h.window (weight q h.at_hand)

module _ (q : ℕ → ℕ) (w : ℕ) where
  -- a range of the holder's window comes to what it has, or the holder comes to a later window
  took-granted : (g : Grant) (h k : Holder) → Takes h g k → AddsGrant h g k ⊎ TurnsTo h g k →
      at_hand_in q w k ≤ took_by q w (took g) + at_hand_in q w h
  took-granted g h k d (inl adds) = dite (ℕ_discrete h.window w)
      (λ same. omega (
        arith,
        adds.1.at_hand_is q,
        of-same k.window w (weight q k.at_hand) (d.window ∙ (adds.0 ∙ same)),
        of-same h.window w (weight q h.at_hand) same,
        of-same g.window w (between q g.first (g.first + g.tickets)) (adds.0 ∙ same),
      ))
      (λ other. omega (arith, of-other k.window w (weight q k.at_hand) (λ e. other (sym (d.window ∙ adds.0) ∙ e))))
  took-granted g h k d (inr turns) = dite (ℕ_discrete g.window w)
      (λ same. omega (
        arith,
        turns.at_hand_is q,
        of-same k.window w (weight q k.at_hand) (d.window ∙ same),
        of-same g.window w (between q g.first (g.first + g.tickets)) same,
      ))
      (λ other. omega (arith, of-other k.window w (weight q k.at_hand) (λ e. other (sym d.window ∙ e))))

  pub step-granted : (c : Call) (h k : Holder) → Does c h k →
      drew_by q w c + lent_by q w c + at_hand_in q w k ≤ back_by q w c + took_by q w c + at_hand_in q w h
  step-granted (drew now t) h k d = dite (ℕ_discrete h.window w)
      (λ same. omega (
        arith,
        d.at_hand q,
        of-same t.window w (q t.number) (d.in_window ∙ same),
        of-same k.window w (weight q k.at_hand) (d.window ∙ same),
        of-same h.window w (weight q h.at_hand) same,
      ))
      (λ other. omega (
        arith,
        of-other t.window w (q t.number) (λ e. other (sym d.in_window ∙ e)),
        of-other k.window w (weight q k.at_hand) (λ e. other (sym d.window ∙ e)),
      ))
  step-granted (took g) h k d = omega (arith, took-granted g h k d d.held)
  step-granted (handed_back t) h k d = dite (ℕ_discrete h.window w)
      (λ same. omega (
        arith,
        d.at_hand q,
        of-same t.window w (q t.number) (d.in_window ∙ same),
        of-same k.window w (weight q k.at_hand) (d.window ∙ same),
        of-same h.window w (weight q h.at_hand) same,
      ))
      (λ other. omega (arith, of-other k.window w (weight q k.at_hand) (λ e. other (sym d.window ∙ e))))
  step-granted (lent most g) h k d =
      let there : k.window ≡ h.window = ap (λ (x : Holder). x.window) d.same in
      dite (ℕ_discrete h.window w)
      (λ same. omega (
        arith,
        d.at_hand q,
        of-same g.window w (between q g.first (g.first + g.tickets)) (d.in_window ∙ same),
        of-same k.window w (weight q k.at_hand) (there ∙ same),
        of-same h.window w (weight q h.at_hand) same,
      ))
      (λ other. omega (
        arith,
        of-other g.window w (between q g.first (g.first + g.tickets)) (λ e. other (sym d.in_window ∙ e)),
        of-other k.window w (weight q k.at_hand) (λ e. other (sym there ∙ e)),
      ))
  step-granted (counted now n) h k d = omega (arith, ap (at_hand_in q w) d.same)
  step-granted (told since n) h k d = omega (arith, ap (at_hand_in q w) d.same)
  step-granted (left_alone m) h k d = omega (arith, ap (at_hand_in q w) d)

  pub calls-granted : (h : Holder) (steps : List Step) → AreMade h steps →
      drew_in q w steps + lent_in q w steps ≤ back_in q w steps + took_in q w steps + at_hand_in q w h
  calls-granted h [] made = omega arith
  calls-granted h (s ∷ ss) made =
      omega (arith, step-granted s.call h s.after made.0, calls-granted s.after ss made.2)

  -- a new holder has nothing at hand
  none-at-first : (h : Holder) → IsNew h → at_hand_in q w h ≡ 0
  none-at-first h new = dite (ℕ_discrete h.window w)
      (λ same. omega (
        arith,
        of-same h.window w (weight q h.at_hand) same,
        ap (λ xs. weight q xs) new.at_hand,
      ))
      (λ other. of-other h.window w (weight q h.at_hand) other)

  pub history-granted : (steps : List Step) → IsHistory steps →
      drew_in q w steps + lent_in q w steps ≤ back_in q w steps + took_in q w steps
  history-granted steps all =
      omega (arith, calls-granted all.0 steps all.2, none-at-first all.0 all.1)

  pub all-granted : (all : List (List Step)) → Each IsHistory all →
      total (drew_in q w) all + total (lent_in q w) all ≤ total (back_in q w) all + total (took_in q w) all
  all-granted [] each = omega arith
  all-granted (steps ∷ rest) each =
      omega (arith, history-granted steps each.0, all-granted rest each.1)

pub draws_were_granted : DrawsWereGranted
draws_were_granted steps all q w = history-granted q w steps all
