-- A holder takes each number of a window once, and once more for each time that it lent it.
use Rattle.std.proofs.Common.{◌≡◌, ℕ, ◌+◌, ◌<◌, ◌≤◌, ◌⊎◌, List, [], ◌∷◌, inl, inr, refl, sym, ap, subst}
use Rattle.std.proofs.Common.{arith, ◌∙◌, ⊎_elim, lt_of_not-le}
use mathlib.Core.Logic.{dite}
use native.Mathlib.Decide.{ℕ_discrete, dec_le}
use Rattle.sched_ticket.specs.Lists.{is}
use Rattle.sched_ticket.proofs.Sums.{below-is, once_below-yes, once_below-no, once_below-le}
use Rattle.sched_ticket_lease.specs.Spans.{between, weight}
use Rattle.sched_ticket_lease.specs.Holders.{Holder, Remembers, Takes, Adds, AddsGrant, TurnsTo}
use Rattle.sched_ticket_lease.specs.Histories.{Call, Does, Step, AreMade, took_by, lent_by, took_in, lent_in}
use Rattle.sched_ticket_lease.specs.Histories.{NumbersAreTakenOnce, NumbersAreOutOnce}
use Rattle.sched_ticket_lease.specs.Histories.Call.{drew, took, handed_back, lent, counted, told, left_alone}
use Rattle.sched_ticket_lease.specs.declared.span.Span.{Span}
use Rattle.sched_ticket_lease.specs.declared.ticket.Grant.{Grant}
use Rattle.sched_ticket_lease.proofs.Counts.{of-same, of-other}
use Rattle.sched_ticket_lease.proofs.Granted.{history-granted}

-- a number within, or not
pub between-one : (n a b : ℕ) → between (is n) a b ≤ 1
between-one n a b = omega (arith, below-is n a, below-is n b, once_below-le n b)

pub between-out : (n a b : ℕ) → (n < a) ⊎ (b ≤ n) → between (is n) a b ≡ 0
between-out n a b (inl low) =
    omega (arith, below-is n a, below-is n b, once_below-yes n a low, once_below-le n b)
between-out n a b (inr high) = omega (arith, below-is n b, once_below-no n b high)

-- how often a holder has a number, at hand or out
abbrev held_of : ℕ → Holder → ℕ
held_of n h = weight (is n) h.at_hand + weight (is n) h.out

-- a number of a window that a holder does not take: the window is over, or it has the number, or had it
abbrev Settled : ℕ → ℕ → Holder → Type 0
Settled w n h = (w < h.window) ⊎ ((h.window ≡ w) × ((n < h.floor) ⊎ (0 < held_of n h)))

-- what was out is still out, or is forgotten and below the floor
still-held : (n : ℕ) (weighs : (ℕ → ℕ) → ℕ) (floor : ℕ) (out : List Span) (after rest : ℕ)
    → Remembers weighs floor out after →
    (n < floor) ⊎ (0 < rest + weighs (is n)) → (n < after) ⊎ (0 < rest + weight (is n) out)
still-held n weighs floor out after rest (inl r) (inl low) = inl (omega (arith, r.1, low))
still-held n weighs floor out after rest (inl r) (inr some) = inr (omega (arith, r.0 (is n), some))
still-held n weighs floor out after rest (inr r) (inl low) = inl (omega (arith, r.2, low))
still-held n weighs floor out after rest (inr r) (inr some) = dite (dec_le r.0.end n)
    (λ past. inr (omega (arith, r.1 (is n), some, between-out n r.0.first r.0.end (inr past))))
    (λ not. inl (omega (arith, r.2, lt_of_not-le not)))

module _ (w n : ℕ) where
  -- a range of the holder's window has no number that is settled
  adds-settled : (g : Grant) (h k : Holder) → Adds h g.first
      (g.first + g.tickets) g.until k.at_hand k.out k.floor k.until → (n < h.floor) ⊎ (0 < held_of n h) →
      (between (is n) g.first (g.first + g.tickets) ≡ 0) × ((n < k.floor) ⊎ (0 < held_of n k))
  adds-settled g h k adds settled = (
    dite (dec_le g.first n)
        (λ low. dite (dec_le (g.first + g.tickets) n)
        (λ high. between-out n g.first (g.first + g.tickets) (inr high))
        (λ not. let high : n < g.first + g.tickets = lt_of_not-le not in
        ⊎_elim
        (λ (below : n < h.floor). let above : h.floor ≤ g.first = adds.free.above (omega arith) in omega arith)
        (λ (some : 0 < held_of n h). let none = adds.free.at_hand n low high in let no = adds.free.out n low high in
        omega arith)
        settled))
        (λ not. between-out n g.first (g.first + g.tickets) (inl (lt_of_not-le not))),
    ⊎_elim
        (λ (below : n < h.floor). inl (omega (arith, adds.floor_is, below)))
        (λ (some : 0 < held_of n h).
        inr (omega (arith, adds.at_hand_is (is n), ap (λ xs. weight (is n) xs) adds.out_is, some)))
        settled,
  )

  took-settled : (g : Grant) (h k : Holder) → Takes h g k → AddsGrant h g k ⊎ TurnsTo h g k →
      Settled w n h → (took_by (is n) w (took g) ≡ 0) × Settled w n k
  took-settled g h k d (inl adds) (inl later) = (
    of-other g.window w _ (λ e. let there : g.window ≡ h.window = adds.0 in omega arith),
    inl (omega (arith, d.window, adds.0, later)),
  )
  took-settled g h k d (inl adds) (inr here) =
      let settled = adds-settled g h k adds.1 here.1 in
      (of-same g.window w _ (adds.0 ∙ here.0) ∙ settled.0, inr (d.window ∙ (adds.0 ∙ here.0), settled.1))
  took-settled g h k d (inr turns) (inl later) = (
    of-other g.window w _ (λ e. let past : h.window < g.window = turns.later in omega arith),
    inl (omega (arith, d.window, turns.later, later)),
  )
  took-settled g h k d (inr turns) (inr here) = (
    of-other g.window w _
        (λ e. let past : h.window < g.window = turns.later in let at : h.window ≡ w = here.0 in omega arith),
    inl (omega (arith, d.window, turns.later, here.0)),
  )

  settled-step : (c : Call) (h k : Holder) → Does c h k → Settled w n h →
      (took_by (is n) w c ≡ 0) × (Settled w n k ⊎ (0 < lent_by (is n) w c))
  settled-step (drew now t) h k d (inl later) = (refl, inl (inl (omega (arith, d.window, later))))
  settled-step (drew now t) h k d (inr here) = (
    refl,
    inl (inr (
      d.window ∙ here.0,
      still-held n (λ q. weight q h.out + q t.number) h.floor k.out k.floor (weight (is n) k.at_hand) d.out
          (⊎_elim
          (λ (below : n < h.floor). inl below)
          (λ (some : 0 < held_of n h). inr (omega (arith, d.at_hand (is n), some)))
          here.1),
    )),
  )
  settled-step (took g) h k d settled = let both = took-settled g h k d d.held settled in (both.0, inl both.1)
  settled-step (handed_back t) h k d (inl later) = (refl, inl (inl (omega (arith, d.window, later))))
  settled-step (handed_back t) h k d (inr here) = (
    refl,
    inl (inr (
      d.window ∙ here.0,
      still-held n (λ q. weight q d.out.0) h.floor k.out k.floor (weight (is n) k.at_hand) d.out.2
          (⊎_elim
          (λ (below : n < h.floor). inl below)
          (λ (some : 0 < held_of n h). inr (omega (arith, d.at_hand (is n), d.out.1 (is n), some)))
          here.1),
    )),
  )
  settled-step (lent most g) h k d (inl later) =
      (refl, inl (inl (omega (arith, ap (λ (x : Holder). x.window) d.same, later))))
  settled-step (lent most g) h k d (inr here) =
      let there : k.window ≡ h.window = ap (λ (x : Holder). x.window) d.same in
      let floor : k.floor ≡ h.floor = ap (λ (x : Holder). x.floor) d.same in
      let out = ap (λ (x : Holder). weight (is n) x.out) d.same in
      let gave = of-same g.window w (between (is n) g.first (g.first + g.tickets)) (d.in_window ∙ here.0) in (
        refl,
        ⊎_elim
            (λ (below : n < h.floor). inl (inr (there ∙ here.0, inl (omega arith))))
            (λ (some : 0 < held_of n h). dite (dec_le (between (is n) g.first (g.first + g.tickets)) 0)
            (λ none. inl (inr (there ∙ here.0, inr (omega (arith, d.at_hand (is n), none, out, some)))))
            (λ not. inr (omega (arith, gave, lt_of_not-le not))))
            here.1,
      )
  settled-step (counted now m) h k d settled = (refl, inl (subst (Settled w n) (sym d.same) settled))
  settled-step (told since m) h k d settled = (refl, inl (subst (Settled w n) (sym d.same) settled))
  settled-step (left_alone m) h k d settled = (refl, inl (subst (Settled w n) (sym d) settled))

  -- a number that a call takes is settled
  took-settles : (g : Grant) (h k : Holder) → Takes h g k → AddsGrant h g k ⊎ TurnsTo h g k →
      0 < took_by (is n) w (took g) → Settled w n k
  took-settles g h k d held some = dite (ℕ_discrete g.window w)
      (λ same. inr (
        d.window ∙ same,
        inr (⊎_elim
            (λ (adds : AddsGrant h g k). omega (
              arith,
              adds.1.at_hand_is (is n),
              of-same g.window w (between (is n) g.first (g.first + g.tickets)) same,
              some,
            ))
            (λ (turns : TurnsTo h g k). omega (
              arith,
              turns.at_hand_is (is n),
              of-same g.window w (between (is n) g.first (g.first + g.tickets)) same,
              some,
            ))
            held),
      ))
      (λ other. absurd (
      let none = of-other g.window w (between (is n) g.first (g.first + g.tickets)) other in omega (arith, none, some)))

  settles : (c : Call) (h k : Holder) → Does c h k → 0 < took_by (is n) w c → Settled w n k
  settles (took g) h k d some = took-settles g h k d d.held some
  settles (drew now t) h k d some = absurd (omega arith)
  settles (handed_back t) h k d some = absurd (omega arith)
  settles (lent most g) h k d some = absurd (omega arith)
  settles (counted now m) h k d some = absurd (omega arith)
  settles (told since m) h k d some = absurd (omega arith)
  settles (left_alone m) h k d some = absurd (omega arith)

  takes-one : (c : Call) → took_by (is n) w c ≤ 1
  takes-one (took g) = dite (ℕ_discrete g.window w)
      (λ same. omega (
        arith,
        of-same g.window w (between (is n) g.first (g.first + g.tickets)) same,
        between-one n g.first (g.first + g.tickets),
      ))
      (λ other. omega (arith, of-other g.window w (between (is n) g.first (g.first + g.tickets)) other))
  takes-one (drew now t) = omega arith
  takes-one (handed_back t) = omega arith
  takes-one (lent most g) = omega arith
  takes-one (counted now m) = omega arith
  takes-one (told since m) = omega arith
  takes-one (left_alone m) = omega arith

  pub taken-once : (h : Holder) (steps : List Step) → AreMade h steps →
      (took_in (is n) w steps ≤ 1 + lent_in (is n) w steps)
      × (Settled w n h → took_in (is n) w steps ≤ lent_in (is n) w steps)
  taken-once h [] made = (omega arith, λ _. omega arith)
  taken-once h (s ∷ ss) made =
      let rest = taken-once s.after ss made.2 in (
        dite (dec_le (took_by (is n) w s.call) 0)
            (λ none. omega (arith, none, rest.0))
            (λ not. omega (arith, takes-one s.call, rest.1 (settles s.call h s.after made.0 (lt_of_not-le not)))),
        λ settled.
            let next = settled-step s.call h s.after made.0 settled in
            ⊎_elim
            (λ (still : Settled w n s.after). omega (arith, next.0, rest.1 still))
            (λ (used : 0 < lent_by (is n) w s.call). omega (arith, next.0, used, rest.0))
            next.1,
      )

pub numbers_are_taken_once : NumbersAreTakenOnce
numbers_are_taken_once steps all w n = (taken-once w n all.0 steps all.2).0

pub numbers_are_out_once : NumbersAreOutOnce
numbers_are_out_once steps all w n =
    omega (arith, history-granted (is n) w steps all, numbers_are_taken_once steps all w n)
