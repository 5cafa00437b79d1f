-- What a pass has counted and set after each call.
use Rattle.std.proofs.Common.{◌≡◌, ◌≤◌, ◌+◌, ◌++◌, ℕ, inl, inr, true, false, List, length, sym, ap, ◌∙◌, subst, arith}
use Rattle.sched_ticket.specs.Lists.{Each}
use Rattle.sched_ticket_quota.specs.Windows.{window_of}
use Rattle.sched_ticket_quota.specs.Calls.{Turned, Deposited, Told}
use Rattle.sched_ticket_quota.specs.View.{numbers}
use Rattle.sched_ticket_quota.specs.Held.{Name}
use Rattle.sched_ticket_quota.specs.declared.pass.Usage.{Usage}
use Rattle.sched_ticket_quota.specs.declared.view.View.{View}
use Rattle.sched_ticket_draws.specs.Quotas.{OfQuota, QuotaDrew}
use Rattle.sched_pool_scripted.specs.Driven.{IsUnused}

-- what a pass has counted, and the terms that it has set
abbrev pub kept_of : View → List ℕ × List ℕ
kept_of v = (v.requests, v.changes)

-- a pass that comes to a window keeps them
pub turned_kept : (b : Name) (now : ℕ) (v u : View) → Turned b now v u → kept_of u ≡ kept_of v
turned_kept b now v u turned = elim turned [
  | inl there ↦ ap kept_of there.1
  | inr comes ↦ elim comes [
    | inl meets ↦ ap kept_of meets.3
    | inr opens ↦ ap kept_of opens.5
  ]
]

turned_told : (b : Name) (now : ℕ) (v u : View) → Turned b now v u → u.told ≡ v.told
turned_told b now v u turned = elim turned [
  | inl there ↦ ap (λ (v : View). v.told) there.1
  | inr comes ↦ elim comes [
    | inl meets ↦ ap (λ (v : View). v.told) meets.3
    | inr opens ↦ ap (λ (v : View). v.told) opens.5
  ]
]

-- a draw keeps them
pub drew_kept : (d : OfQuota) (now : ℕ) (e : OfQuota) → QuotaDrew d now true e → kept_of e.pass.has ≡ kept_of d.pass.has
drew_kept d now e drew =
    let won = drew.2.2 in
    let kept = turned_kept d.quota now d.pass.has drew.2.0 drew.2.1 in
    ap kept_of won.gained ∙ ap kept_of won.tries.same ∙ kept

pub drew_none_kept : (d : OfQuota) (now : ℕ) (e : OfQuota) → QuotaDrew d now false e
    → kept_of e.pass.has ≡ kept_of d.pass.has
drew_none_kept d now e drew =
    let kept = turned_kept d.quota now d.pass.has drew.2.0 drew.2.1 in
    ap kept_of drew.2.2.tries.same ∙ kept

-- an unused pass counts a request: one
pub counts_one : (b : Name) (now : ℕ) (v w : View) → IsUnused v → Deposited b now v w → length w.requests ≡ 1
counts_one b now v w unused counted =
    let u = counted.0 in
    let none : length u.requests ≡ 0 =
    ap (λ (xs : List ℕ × List ℕ). length xs.0) (turned_kept b now v u counted.1) ∙ ap length unused.requests in
    let told : u.told ≡ 0 = turned_told b now v u counted.1 ∙ unused.told in
    elim counted.2 [
      | inl past ↦ absurd (omega (arith, told, past.0))
      | inr one ↦ rw one.3 (omega (arith, none))
    ]

-- and sets no terms
pub deposit_unchanged : (b : Name) (now : ℕ) (v w : View) → Deposited b now v w → w.changes ≡ v.changes
deposit_unchanged b now v w counted =
    let kept = ap (λ (xs : List ℕ × List ℕ). xs.1) (turned_kept b now v counted.0 counted.1) in
    elim counted.2 [
      | inl past ↦ ap (λ (u : View). u.changes) past.1 ∙ kept
      | inr one ↦ ap (λ (u : View). u.changes) one.3 ∙ kept
    ]

turned_seen : (b : Name) (now : ℕ) (v u : View) → Turned b now v u → v.seen ≤ u.seen
turned_seen b now v u turned = elim turned [
  | inl there ↦ omega (arith, ap (λ (v : View). v.seen) there.1)
  | inr comes ↦ elim comes [
    | inl meets ↦ omega (arith, meets.1, ap (λ (v : View). v.seen) meets.3)
    | inr opens ↦ omega (arith, opens.2, opens.3, ap (λ (v : View). v.seen) opens.5)
  ]
]

turned_tickets : (b : Name) (now : ℕ) (v u : View) → Turned b now v u → u.tickets ≡ v.tickets
turned_tickets b now v u turned = elim turned [
  | inl there ↦ ap (λ (v : View). v.tickets) there.1
  | inr comes ↦ elim comes [
    | inl meets ↦ ap (λ (v : View). v.tickets) meets.3
    | inr opens ↦ ap (λ (v : View). v.tickets) opens.5
  ]
]

-- a look keeps the tickets and the requests
pub told_tickets : (b : Name) (now : ℕ) (v w : View) (told : Usage) → Told b now v w told → w.tickets ≡ v.tickets
told_tickets b now v w told is = ap (λ (v : View). v.tickets) is.tries.same ∙ turned_tickets b now v is.turned is.turns

pub told_requests : (b : Name) (now : ℕ) (v w : View) (told : Usage) → Told b now v w told → w.requests ≡ v.requests
told_requests b now v w told is = ap (λ (v : View). v.requests) is.tries.same
    ∙ ap (λ (xs : List ℕ × List ℕ). xs.0) (turned_kept b now v is.turned is.turns)

-- the request of an unused pass is of the window 0, where that is the latest at a look after it
pub counts_early : (b : Name) (now then : ℕ) (v w u : View) (told : Usage) → IsUnused v → Deposited b now v w
    → Told b then w u told →
    told.window ≡ 0 → Each (λ n. window_of n ≡ 0) u.requests
counts_early b now then v w u told unused counted is none =
    let turned = counted.0 in
    let kept = told_requests b then w u told is in
    elim counted.2 [
      | inl past ↦ absurd (omega (arith, turned_told b now v turned counted.1, unused.told, past.0))
      | inr one ↦
          let n : ℕ = one.1 in
          let before = ap (λ (xs : List ℕ × List ℕ). xs.0) (turned_kept b now v turned counted.1) ∙ unused.requests in
          let requests = kept ∙ ap (λ (v : View). v.requests) one.3 ∙ ap (λ (ns : List ℕ). numbers n 1 ++ ns) before in
          let seen : w.seen ≡ n + 1 = ap (λ (v : View). v.seen) one.3 in
          subst (Each (λ n. window_of n ≡ 0)) (sym requests)
          (omega (arith, seen, turned_seen b then w is.turned is.turns, is.tries.later, is.window, none), tt)
    ]
