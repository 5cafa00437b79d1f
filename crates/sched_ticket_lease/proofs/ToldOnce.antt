-- What is told was counted, and is told once.
use Rattle.std.proofs.Common.{◌≡◌, ℕ, ◌+◌, ◌<◌, ◌≤◌, ◌⊎◌, List, [], ◌∷◌, ◌++◌, drop, length, cond, inl, inr}
use Rattle.std.proofs.Common.{ap, arith, lt-ltb, le-ltb, lt_of_not-le}
use Rattle.std.specs.Prelude.{if◌then◌else◌, nat_lt}
use mathlib.Core.Logic.{dite}
use native.Mathlib.Decide.{dec_le}
use Rattle.std.proofs.lemmas.List.Sums.{sum_by_push, sum_by-take-drop, sum_by-le-sum_by}
use Rattle.sched_ticket.specs.Lists.{total}
use Rattle.sched_ticket_lease.specs.Requests.{Asked, slice_since, since_then, recent, Grows, Begins}
use Rattle.sched_ticket_lease.specs.Holders.{Holder}
use Rattle.sched_ticket_lease.specs.Histories.{Call, Does, Step, AreMade, told_by, counted_by, RequestsAreToldOnce}
use Rattle.sched_ticket_lease.specs.Histories.Call.{drew, took, handed_back, lent, counted, told, left_alone}
use Rattle.sched_ticket_lease.specs.declared.slice.Slice.{Slice}

-- what counts from a moment on
pub from-on : (at since n : ℕ) → since ≤ at → (if nat_lt at since then 0 else n) ≡ n
from-on at since n le = ap (λ b. cond b 0 n) (le-ltb at since le)

pub from-before : (at since n : ℕ) → at < since → (if nat_lt at since then 0 else n) ≡ 0
from-before at since n lt = ap (λ b. cond b 0 n) (lt-ltb at since lt)

slice-less : (a b : ℕ) → a ≤ b → (s : Slice) → slice_since b s ≤ slice_since a s
slice-less a b le s = dite (dec_le b s.began)
    (λ on. omega (arith, from-on s.began b s.count on, from-on s.began a s.count (omega arith)))
    (λ not. omega (arith, from-before s.began b s.count (lt_of_not-le not)))

module _ (since : ℕ) where
  pub pushed : (xs ys : List Slice) (s : Slice) → ys ≡ xs ++ s ∷ [] →
      since_then since ys ≡ since_then since xs + slice_since since s
  pushed xs ys s e =
      omega (
        arith,
        ap (λ (zs : List Slice). since_then since zs) e,
        sum_by_push (λ (t : Slice). slice_since since t) xs s,
      )

  recent-less : (xs : List Slice) → since_then since (recent xs) ≤ since_then since xs
  recent-less xs = dite (dec_le 32 (length xs))
      (λ many. omega (
        arith,
        ap (λ b. since_then since (cond b xs (drop 1 xs))) (le-ltb (length xs) 32 many),
        sum_by-take-drop (λ (t : Slice). slice_since since t) xs 1,
      ))
      (λ not.
      omega (arith, ap (λ b. since_then since (cond b xs (drop 1 xs))) (lt-ltb (length xs) 32 (lt_of_not-le not))))

  grows-less : (now n : ℕ) (old new : List Slice) → Grows now n old new →
      since_then since new ≤ (if nat_lt now since then 0 else n) + since_then since old
  grows-less now n old new g =
      let before = pushed g.front old g.last g.was in
      let after = pushed g.front new g.grown g.is in
      dite (dec_le since g.last.began)
      (λ on. omega (
        arith,
        before,
        after,
        g.began,
        g.count,
        g.in_time.0,
        from-on g.last.began since g.last.count on,
        from-on g.grown.began since g.grown.count (omega (arith, g.began, on)),
        from-on now since n (omega (arith, g.in_time.0, on)),
      ))
      (λ not. omega (
        arith,
        before,
        after,
        from-before g.grown.began since g.grown.count (omega (arith, g.began, lt_of_not-le not)),
      ))

  begins-less : (now n : ℕ) (a : Asked) (new : List Slice) → Begins now n a new →
      since_then since new ≤ (if nat_lt now since then 0 else n) + since_then since a.slices
  begins-less now n a new b =
      let after = pushed (recent a.slices) new b.slice b.is in
      dite (dec_le since now)
      (λ on. omega (
        arith,
        after,
        recent-less a.slices,
        b.count,
        from-on b.slice.began since b.slice.count (omega (arith, b.began, on)),
        from-on now since n on,
      ))
      (λ not. omega (
        arith,
        after,
        recent-less a.slices,
        from-before b.slice.began since b.slice.count (omega (arith, b.began, lt_of_not-le not)),
      ))

  counts-less : (now n : ℕ) (a : Asked) (new : List Slice) → Grows now n a.slices new ⊎ Begins now n a new →
      since_then since new ≤ (if nat_lt now since then 0 else n) + since_then since a.slices
  counts-less now n a new (inl g) = grows-less now n a.slices new g
  counts-less now n a new (inr b) = begins-less now n a new b

  pub step-told : (c : Call) (h k : Holder) → Does c h k →
      told_by since c + since_then since k.requests.slices ≤ counted_by since c + since_then since h.requests.slices
  step-told (drew now t) h k d = omega (arith, ap (λ r. since_then since r.slices) d.requests)
  step-told (took g) h k d = omega (arith, ap (λ (xs : List Slice). since_then since xs) d.slices)
  step-told (handed_back t) h k d = omega (arith, ap (λ r. since_then since r.slices) d.requests)
  step-told (lent most g) h k d = omega (arith, ap (λ (x : Holder). since_then since x.requests.slices) d.same)
  step-told (counted now n) h k d =
      omega (arith, counts-less now n h.requests k.requests.slices d.counts.2)
  step-told (told began n) h k d =
      let none = ap (λ (xs : List Slice). since_then since xs) d.tells.none_left in
      dite (dec_le since began)
      (λ on. omega (
        arith,
        none,
        from-on began since n on,
        d.tells.told,
        sum_by-le-sum_by (λ (s : Slice). slice_since began s) (λ (s : Slice). slice_since since s) h.requests.slices
            (slice-less since began on),
      ))
      (λ not. omega (arith, none, from-before began since n (lt_of_not-le not)))
  step-told (left_alone m) h k d = omega (arith, ap (λ (x : Holder). since_then since x.requests.slices) d)

  all-told : (h : Holder) (steps : List Step) → AreMade h steps →
      total (λ (s : Step). told_by since s.call) steps
      ≤ total (λ (s : Step). counted_by since s.call) steps + since_then since h.requests.slices
  all-told h [] made = omega arith
  all-told h (s ∷ ss) made = omega (arith, step-told s.call h s.after made.0, all-told s.after ss made.2)

pub requests_are_told_once : RequestsAreToldOnce
requests_are_told_once steps all since = omega (
  arith,
  all-told since all.0 steps all.2,
  ap (λ (xs : List Slice). since_then since xs) all.1.slices,
)
