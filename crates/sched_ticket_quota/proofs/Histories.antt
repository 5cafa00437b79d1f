-- The calls on a quota, and how many tickets they drew.
use Rattle.std.proofs.Common.{◌≡◌, ℕ, Bool, zero, suc, ◌+◌, ◌-◌, ◌*◌, ◌/◌, ◌<◌, ◌≤◌, List, [], ◌∷◌, ◌++◌, length, cond}
use Rattle.std.proofs.Common.{ltb, inl, inr, refl, ap, ◌∙◌, sym, subst, arith, lt-ltb, le-ltb, lt_of_not-le}
use Rattle.std.proofs.lemmas.List.{length-append}
use mathlib.Core.Logic.{dite}
use mathlib.Core.Option.{some}
use native.Mathlib.Decide.{ℕ_discrete, dec_le}
use lib.ListN.{get_elem?}
use Rattle.sched_ticket.specs.Lists.{total, Each, is, times}
use Rattle.sched_ticket.proofs.Sums.{total-append, total-plus, Each-map, is-same, is-other, below-from, term_le}
use Rattle.sched_ticket.proofs.Sums.{none_from, from}
use Rattle.sched_ticket_quota.specs.Windows.{first_of, window_at, drawn_at, count_drawn, before}
use Rattle.sched_ticket_quota.specs.Rule.{ticket_weight, requests_in, openings, begins, drawn_of}
use Rattle.sched_ticket_quota.specs.Carried.{carried_from, drawn_in, handed_back_in}
use Rattle.sched_ticket_quota.specs.Held.{Name}
use Rattle.sched_ticket_quota.specs.Calls.{Turned}
use Rattle.sched_ticket_quota.specs.Clocks.{Called, over}
use Rattle.sched_ticket_quota.specs.Histories.{Call, call_of, IsCalling, Made, begins_first, has_called, is_calling}
use Rattle.sched_ticket_quota.specs.Histories.{sets_terms, hands_back, keeps_ticket, gives_part, begins_as_part}
use Rattle.sched_ticket_quota.specs.Histories.{takes_in, is_taken_in, AreMade, drawn_from, opened_after}
use Rattle.sched_ticket_quota.specs.Histories.{CallsAreBounded}
use Rattle.sched_ticket_quota.specs.declared.view.Terms.{Terms}
use Rattle.sched_ticket_quota.specs.declared.view.View.{View}
use Rattle.sched_ticket_quota.proofs.Numbers.{window_at-mono, below-mono, drawn-early}
use Rattle.sched_ticket_quota.proofs.Carried.{runs-drawn, carried-kept}
use Rattle.sched_ticket_quota.proofs.Clocks.{OpensOwn, opens-then, opens_its_own, draws_no_earlier, windows-apart}
use Rattle.sched_ticket_quota.proofs.Clocks.{over-split, scaled, bounded-by}

-- ---- what one call did

-- the tickets that it drew, and the windows that it opened
abbrev DrewSome : Name → ℕ → View → View → Type 0
DrewSome b now v w = (ts : List ℕ) × (w.tickets ≡ ts ++ v.tickets)
    × Each (λ t. window_at b.terms b.start now ≤ drawn_at b.carries t) ts

abbrev OpenedSome : Name → ℕ → View → View → Type 0
OpenedSome b now v w = (os : List ℕ) × (w.opened ≡ os ++ v.opened)
    × Each (λ o. o ≡ first_of (window_at b.terms b.start now)) os

turned-tickets : (b : Name) (now : ℕ) (v u : View) → Turned b now v u → u.tickets ≡ v.tickets
turned-tickets b now v u turned = elim turned [
  | inl there ↦ ap (λ (x : View). x.tickets) there.1
  | inr comes ↦ elim comes [
    | inl meets ↦ ap (λ (x : View). x.tickets) meets.3
    | inr opens ↦ ap (λ (x : View). x.tickets) opens.5
  ]
]

called-drew : (b : Name) (now : ℕ) (v w : View) → v.carries ≡ b.carries → Called b now v w → DrewSome b now v w
called-drew b now v w kind called = elim called [
  | inl deposited ↦ (
    [],
    elim (deposited.1.2) [
      | inl none ↦ ap (λ (x : View). x.tickets) none.1 ∙ turned-tickets b now v deposited.1.0 deposited.1.1
      | inr one ↦ ap (λ (x : View). x.tickets) one.3 ∙ turned-tickets b now v deposited.1.0 deposited.1.1
    ],
    tt,
  )
  | inr rest ↦ elim rest [
    | inl drew ↦
        let won = drew.1.2 in
        let t : ℕ = drew.0 in
        let before : won.tried.tickets ≡ v.tickets =
        ap (λ (x : View). x.tickets) won.tries.same ∙ turned-tickets b now v drew.1.0 drew.1.1 in (
          t ∷ [],
          ap (λ (x : View). x.tickets) won.gained ∙ ap (λ xs. t ∷ xs) before,
          (draws_no_earlier b now v t w kind drew.1, tt),
        )
    | inr rest ↦ elim rest [
      | inl refused ↦ (
        [],
        ap (λ (x : View). x.tickets) refused.1.2.tries.same ∙ turned-tickets b now v refused.1.0 refused.1.1,
        tt,
      )
      | inr told ↦ (
        [],
        ap (λ (x : View). x.tickets) told.1.tries.same ∙ turned-tickets b now v told.1.turned told.1.turns,
        tt,
      )
    ]
  ]
]

turned-returned : (b : Name) (now : ℕ) (v u : View) → Turned b now v u → u.returned ≡ v.returned
turned-returned b now v u turned = elim turned [
  | inl there ↦ ap (λ (x : View). x.returned) there.1
  | inr comes ↦ elim comes [
    | inl meets ↦ ap (λ (x : View). x.returned) meets.3
    | inr opens ↦ ap (λ (x : View). x.returned) opens.5
  ]
]

-- and it hands none back
called-returned : (b : Name) (now : ℕ) (v w : View) → Called b now v w → w.returned ≡ v.returned
called-returned b now v w called = elim called [
  | inl deposited ↦ elim (deposited.1.2) [
    | inl none ↦ ap (λ (x : View). x.returned) none.1 ∙ turned-returned b now v deposited.1.0 deposited.1.1
    | inr one ↦ ap (λ (x : View). x.returned) one.3 ∙ turned-returned b now v deposited.1.0 deposited.1.1
  ]
  | inr rest ↦ elim rest [
    | inl drew ↦
        let won = drew.1.2 in
        ap (λ (x : View). x.returned) won.gained ∙ ap (λ (x : View). x.returned) won.tries.same
        ∙ turned-returned b now v drew.1.0 drew.1.1
    | inr rest ↦ elim rest [
      | inl refused ↦ ap (λ (x : View). x.returned) refused.1.2.tries.same
          ∙ turned-returned b now v refused.1.0 refused.1.1
      | inr told ↦ ap (λ (x : View). x.returned) told.1.tries.same ∙ turned-returned b now v told.1.turned told.1.turns
    ]
  ]
]

calling-returned : (b : Name) (now : ℕ) (v w : View) → IsCalling b now v w → w.returned ≡ v.returned
calling-returned b now v w calling = elim (calling.1) [
  | inl same ↦ ap (λ (x : View). x.returned) calling.2 ∙ ap (λ (x : View). x.returned) same
  | inr turned ↦ ap (λ (x : View). x.returned) calling.2 ∙ turned-returned b now v calling.0 turned
]

calling-drew : (b : Name) (now : ℕ) (v w : View) → IsCalling b now v w → DrewSome b now v w
calling-drew b now v w calling = (
  [],
  elim (calling.1) [
    | inl same ↦ ap (λ (x : View). x.tickets) calling.2 ∙ ap (λ (x : View). x.tickets) same
    | inr turned ↦ ap (λ (x : View). x.tickets) calling.2 ∙ turned-tickets b now v calling.0 turned
  ],
  tt,
)

opened-some : (b : Name) (now : ℕ) (v w : View) → OpensOwn b now v w → OpenedSome b now v w
opened-some b now v w opens = elim opens [
  | inl same ↦ ([], same, tt)
  | inr own ↦ (first_of (window_at b.terms b.start now) ∷ [], own, (refl, tt))
]

calling-opens : (b : Name) (now : ℕ) (v w : View) → IsCalling b now v w → OpensOwn b now v w
calling-opens b now v w calling = elim (calling.1) [
  | inl same ↦ inl (ap (λ (x : View). x.opened) calling.2 ∙ ap (λ (x : View). x.opened) same)
  | inr turned ↦ opens-then b now v calling.0 w turned (ap (λ (x : View). x.opened) calling.2)
]

-- a list has as many more as were put before it
more-before : (xs ys zs : List ℕ) → xs ≡ ys ++ zs → length xs - length zs ≡ length ys
more-before xs ys zs e = omega (arith, ap length e, length-append ys zs)

-- ---- sums over windows

total-none : {A : Type 0} (l : List A) → total (λ _. 0) l ≡ 0
total-none [] = refl
total-none (x ∷ xs) = omega (arith, total-none xs)

-- windows may be added up within each of several
over-total : {A : Type 0} (g : ℕ → A → ℕ) (l : List A) (w c : ℕ)
    → over (λ x. total (g x) l) w c ≡ total (λ v. over (λ x. g x v) w c) l
over-total g l w zero = sym (total-none l)
over-total g l w (suc c) = omega (arith, over-total g l w c, total-plus (λ v. over (λ x. g x v) w c) (g (w + c)) l)

-- a window is one of those that it lies among
over-one : (n w c : ℕ) → w ≤ n → n < w + c → 1 ≤ over (λ x. is x n) w c
over-one n w zero low high = absurd (omega arith)
over-one n w (suc c) low high = dite (ℕ_discrete n (w + c))
    (λ here. omega (arith, is-same (w + c) n here))
    (λ not. omega (arith, over-one n w c low (omega (arith, high, not))))

-- and the first number of at most one
over-none : (o w c : ℕ) → o < first_of w → over (λ x. is (first_of x) o) w c ≡ 0
over-none o w zero low = refl
over-none o w (suc c) low = omega (arith, over-none o w c low, is-other (first_of (w + c)) o (λ e. omega arith))

over-before : (o w c : ℕ) → first_of (w + c) ≤ o → over (λ x. is (first_of x) o) w c ≡ 0
over-before o w zero high = refl
over-before o w (suc c) high =
    omega (arith, over-before o w c (omega arith), is-other (first_of (w + c)) o (λ e. omega arith))

over-once : (o w c : ℕ) → over (λ x. is (first_of x) o) w c ≤ 1
over-once o w zero = omega arith
over-once o w (suc c) = dite (ℕ_discrete o (first_of (w + c)))
    (λ here. omega (arith, is-same (first_of (w + c)) o here, over-before o w c (omega arith)))
    (λ not. omega (arith, is-other (first_of (w + c)) o not, over-once o w c))

-- windows within others
over-inner : (f : ℕ → ℕ) (w c t e : ℕ) → w ≤ t → t + e ≤ w + c → over f t e ≤ over f w c
over-inner f w c t e low high =
    let here : w + (t - w) ≡ t = omega arith in
    omega (
      arith,
      over-split f w (t - w) e,
      ap (λ x. over f x e) here,
      below-mono (λ i. f (w + i)) (t - w + e) c (omega arith),
    )

Each-front : {A : Type 0} (P : A → Type 0) (xs ys : List A) → Each P (xs ++ ys) → Each P xs
Each-front P [] ys all = tt
Each-front P (x ∷ xs) ys all = (all.0, Each-front P xs ys all.1)

Each-back : {A : Type 0} (P : A → Type 0) (xs ys : List A) → Each P (xs ++ ys) → Each P ys
Each-back P [] ys all = all
Each-back P (x ∷ xs) ys all = Each-back P xs ys all.1

Each-all : {A : Type 0} (P : A → Type 0) (l : List A) → ((i : ℕ) (v : A) → get_elem? l i ≡ some v → P v) → Each P l
Each-all P [] all = tt
Each-all P (x ∷ xs) all = (all 0 x refl, Each-all P xs (λ i v at. all (suc i) v at))

-- ---- tickets

module _ (b : Name) (since count : ℕ) where
  -- how many of these windows a ticket was drawn in
  abbrev stands : ℕ → ℕ
  stands t = over (λ x. is x (drawn_at b.carries t)) (window_at b.terms b.start since) count

  abbrev IsEarly : ℕ → Type 0
  IsEarly t = drawn_at b.carries t < window_at b.terms b.start since + count

  each-stands : (ts : List ℕ) → Each (λ t. window_at b.terms b.start since ≤ drawn_at b.carries t) ts → Each IsEarly ts
      → length ts ≤ total stands ts
  each-stands [] late early = omega arith
  each-stands (t ∷ ts) late early = omega (
    arith,
    over-one (drawn_at b.carries t) (window_at b.terms b.start since) count late.0 early.0,
    each-stands ts late.1 early.1,
  )

  one-drew : (now : ℕ) (v w : View) (calls : List Call) → DrewSome b now v w → Each IsEarly w.tickets
      → w.returned ≡ v.returned
      → (Each IsEarly v.tickets → drawn_from since calls ≤ total stands v.tickets + total stands v.returned)
      → drawn_from since (call_of now v w ∷ calls) ≤ total stands w.tickets + total stands w.returned
  one-drew now v w calls drew early same before =
      let ts : List ℕ = drew.0 in
      let both : Each IsEarly (ts ++ v.tickets) = subst (Each IsEarly) drew.1 early in
      let rest : drawn_from since calls ≤ total stands v.tickets + total stands v.returned =
      before (Each-back IsEarly ts v.tickets both) in
      let back : total stands w.returned ≡ total stands v.returned = ap (total stands) same in
      let all : total stands w.tickets ≡ total stands ts + total stands v.tickets =
      ap (total stands) drew.1 ∙ total-append stands ts v.tickets in
      let n : ℕ = length w.tickets - length v.tickets in
      let size : n ≡ length ts = more-before w.tickets ts v.tickets drew.1 in
      dite (dec_le since now)
      (λ later.
      let up : window_at b.terms b.start since ≤ window_at b.terms b.start now =
      window_at-mono b.terms b.start since now later in
      let late : Each (λ t. window_at b.terms b.start since ≤ drawn_at b.carries t) ts =
      Each-map (λ t. window_at b.terms b.start now ≤ drawn_at b.carries t)
      (λ t. window_at b.terms b.start since ≤ drawn_at b.carries t) (λ t at. omega (arith, up, at)) ts drew.2 in
      let here : cond (ltb now since) 0 n ≡ n = ap (λ x. cond x 0 n) (le-ltb now since later) in
      omega (arith, here, size, each-stands ts late (Each-front IsEarly ts v.tickets both), all, rest, back))
      (λ not.
      let here : cond (ltb now since) 0 n ≡ 0 = ap (λ x. cond x 0 n) (lt-ltb now since (lt_of_not-le not)) in
      omega (arith, here, all, rest, back))

  all-drew : (calls : List Call) (v : View) → Made b calls v → Each IsEarly v.tickets → Each IsEarly v.returned
      → drawn_from since calls ≤ total stands v.tickets + total stands v.returned
  all-drew calls v begins_first early back = omega arith
  all-drew calls v (has_called now u _ earlier kind did made) early back =
      let same : v.returned ≡ u.returned = called-returned b now u v did in
      one-drew now u v earlier (called-drew b now u v kind did) early same
      (λ e. all-drew earlier u made e (subst (Each IsEarly) same back))
  all-drew calls v (is_calling now u _ before does made) early back =
      let same : v.returned ≡ u.returned = calling-returned b now u v does in
      one-drew now u v before (calling-drew b now u v does) early same
      (λ e. all-drew before u made e (subst (Each IsEarly) same back))
  all-drew calls v (sets_terms u _ _ made) early back = all-drew calls u made early back
  all-drew calls v (hands_back u _ _ did made) early back =
      let w : View = v in
      let tickets : w.tickets ≡ did.others = ap (λ (x : View). x.tickets) did.same in
      let returned : w.returned ≡ did.ticket ∷ u.returned = ap (λ (x : View). x.returned) did.same in
      let all : Each IsEarly (did.ticket ∷ u.returned) = subst (Each IsEarly) returned back in
      let had : Each IsEarly u.tickets =
      subst (Each IsEarly) (sym did.had) (all.0, subst (Each IsEarly) tickets early) in
      omega (
        arith,
        all-drew calls u made had all.1,
        ap (total stands) did.had,
        ap (total stands) tickets,
        ap (total stands) returned,
      )
  all-drew calls v (keeps_ticket u _ _ same made) early back =
      let tickets : v.tickets ≡ u.tickets = ap (λ (x : View). x.tickets) same in
      let returned : v.returned ≡ u.returned = ap (λ (x : View). x.returned) same in
      omega (
        arith,
        all-drew calls u made (subst (Each IsEarly) tickets early) (subst (Each IsEarly) returned back),
        ap (total stands) tickets,
        ap (total stands) returned,
      )
  all-drew calls v (gives_part u _ made) early back = all-drew calls u made early back
  all-drew calls v (begins_as_part u before made) early back = omega arith
  all-drew calls v (takes_in u w these those made-u made-w) early back = omega (
    arith,
    all-drew these u made-u (Each-front IsEarly u.tickets w.tickets early)
        (Each-front IsEarly u.returned w.returned back),
    all-drew those w made-w (Each-back IsEarly u.tickets w.tickets early)
        (Each-back IsEarly u.returned w.returned back),
    total-append (λ (c : Call). cond (ltb c.moment since) 0 c.drew) these those,
    total-append stands u.tickets w.tickets,
    total-append stands u.returned w.returned,
  )
  all-drew calls v is_taken_in early back = omega arith

  all-views : (calls : List (List Call)) (views : List View) → AreMade b calls views
      → Each (λ (v : View). Each IsEarly v.tickets × Each IsEarly v.returned) views →
      total (drawn_from since) calls
      ≤ total
      (λ (v : View). over (λ x. count_drawn b.carries x v.tickets) (window_at b.terms b.start since) count) views
      + total
      (λ (v : View). over (λ x. count_drawn b.carries x v.returned) (window_at b.terms b.start since) count) views
  all-views [] [] made early = omega arith
  all-views [] (v ∷ vs) made early = absurd made
  all-views (cs ∷ css) [] made early = absurd made
  all-views (cs ∷ css) (v ∷ vs) made early = omega (
    arith,
    all-drew cs v made.0 early.0.0 early.0.1,
    over-total (λ x t. is x (drawn_at b.carries t)) v.tickets (window_at b.terms b.start since) count,
    over-total (λ x t. is x (drawn_at b.carries t)) v.returned (window_at b.terms b.start since) count,
    all-views css vs made.1 early.1,
  )

-- ---- windows that were opened

module _ (b : Name) (to e : ℕ) where
  -- how many of the windows after that moment's begin with a number
  abbrev opens : ℕ → ℕ
  opens o = over (λ x. is (first_of x) o) (window_at b.terms b.start to + 1) e

  none-opens : (f : ℕ) (os : List ℕ) → f < first_of (window_at b.terms b.start to + 1) → Each (λ o. o ≡ f) os
      → total opens os ≡ 0
  none-opens f [] low own = refl
  none-opens f (o ∷ os) low own = omega
      (arith, over-none o (window_at b.terms b.start to + 1) e (omega (arith, own.0, low)), none-opens f os low own.1)

  some-open : (os : List ℕ) → total opens os ≤ length os
  some-open [] = omega arith
  some-open (o ∷ os) = omega (arith, over-once o (window_at b.terms b.start to + 1) e, some-open os)

  one-opened : (now : ℕ) (v w : View) (calls : List Call) → OpenedSome b now v w
      → total opens v.opened ≤ opened_after to calls → total opens w.opened ≤ opened_after to (call_of now v w ∷ calls)
  one-opened now v w calls opened rest =
      let os : List ℕ = opened.0 in
      let all : total opens w.opened ≡ total opens os + total opens v.opened =
      ap (total opens) opened.1 ∙ total-append opens os v.opened in
      let n : ℕ = length w.opened - length v.opened in
      let size : n ≡ length os = more-before w.opened os v.opened opened.1 in
      dite (dec_le now to)
      (λ before.
      let low : window_at b.terms b.start now ≤ window_at b.terms b.start to =
      window_at-mono b.terms b.start now to before in
      let none : total opens os ≡ 0 =
      none-opens (first_of (window_at b.terms b.start now)) os (omega (arith, low)) opened.2 in
      omega (arith, all, none, rest))
      (λ not.
      let here : cond (ltb to now) n 0 ≡ n = ap (λ x. cond x n 0) (lt-ltb to now (lt_of_not-le not)) in
      omega (arith, here, size, some-open os, all, rest))

  all-opened : (calls : List Call) (v : View) → Made b calls v → total opens v.opened ≤ opened_after to calls
  all-opened calls v begins_first = omega arith
  all-opened calls v (has_called now u _ before _ did made) =
      one-opened now u v before (opened-some b now u v (opens_its_own b now u v did)) (all-opened before u made)
  all-opened calls v (is_calling now u _ before does made) =
      one-opened now u v before (opened-some b now u v (calling-opens b now u v does)) (all-opened before u made)
  all-opened calls v (sets_terms u _ _ made) = all-opened calls u made
  all-opened calls v (hands_back u _ _ did made) =
      omega (arith, all-opened calls u made, ap (λ (x : View). total opens x.opened) did.same)
  all-opened calls v (keeps_ticket u _ _ same made) =
      omega (arith, all-opened calls u made, ap (λ (x : View). total opens x.opened) same)
  all-opened calls v (gives_part u _ made) = all-opened calls u made
  all-opened calls v (begins_as_part u before made) = omega arith
  all-opened calls v (takes_in u w these those made-u made-w) = omega (
    arith,
    all-opened these u made-u,
    all-opened those w made-w,
    total-append (λ (c : Call). cond (ltb to c.moment) c.opened 0) these those,
    total-append opens u.opened w.opened,
  )
  all-opened calls v is_taken_in = omega arith

  all-open : (calls : List (List Call)) (views : List View) → AreMade b calls views
      → total (λ (v : View). over (λ x. times (first_of x) v.opened) (window_at b.terms b.start to + 1) e) views
      ≤ total (opened_after to) calls
  all-open [] [] made = omega arith
  all-open [] (v ∷ vs) made = absurd made
  all-open (cs ∷ css) [] made = absurd made
  all-open (cs ∷ css) (v ∷ vs) made = omega (
    arith,
    all-opened cs v made.0,
    over-total (λ x o. is (first_of x) o) v.opened (window_at b.terms b.start to + 1) e,
    all-open css vs made.1,
  )

-- windows were begun as often as they were opened, and where the one before was full
over-begins : (views : List View) (t e : ℕ) → over (begins views) (t + 1) e
    ≤ over (λ x. openings views (first_of x)) (t + 1) e + over (requests_in views) t e / 4294967296
over-begins views t zero = omega arith
over-begins views t (suc e) =
    let at : t + 1 + e - 1 ≡ t + e = omega arith in
    omega (arith, over-begins views t e, ap (requests_in views) at)

pub calls_are_bounded : CallsAreBounded
calls_are_bounded b s terms kept kind most greatest calls made since to count le last =
    let k : Terms = b.terms in
    let some-period : 0 < k.period = omega (arith, terms.period) in
    let apart : ℕ = (to - since) / k.period in
    let w : ℕ = window_at k b.start since in
    let till : ℕ = window_at k b.start to in
    let low : w ≤ till = window_at-mono k b.start since to le in
    let R : ℕ → ℕ = requests_in s.views in
    let A : ℕ = total (opened_after to) calls in
    let B : ℕ = over R w count / 4294967296 in
    let d : ℕ = drawn_of s in
    let IsIn : ℕ → Type 0 = λ t. drawn_at b.carries t < w + count in
    let early : Each (λ (v : View). Each IsIn v.tickets × Each IsIn v.returned) s.views =
    Each-all (λ (v : View). Each IsIn v.tickets × Each IsIn v.returned) s.views (λ i v at.
    let none : ticket_weight (from d) v ≡ 0 = omega (
      arith,
      term_le (ticket_weight (from d)) s.views i v at,
      kept.orderly.dealt.once (from d),
      below-from d d (omega arith),
    ) in
    let below-it : (ts : List ℕ) → total (from d) ts ≡ 0 → Each IsIn ts =
    λ ts none. Each-map (λ t. t < d) IsIn
    (λ t small. drawn-early b.carries t (w + count) (omega (arith, small, last))) ts (none_from d ts none) in
    (below-it v.tickets (omega (arith, none)), below-it v.returned (omega (arith, none)))) in
    let drawn : total (drawn_from since) calls ≤ over (drawn_in b.carries s.views) w count
    + over (handed_back_in b.carries s.views) w count =
    omega (
      arith,
      all-views b since count calls s.views made early,
      over-total (λ x (v : View). count_drawn b.carries x v.tickets) s.views w count,
      over-total (λ x (v : View). count_drawn b.carries x v.returned) s.views w count,
    ) in
    let before-it : 1000 * before b.carries (carried_from b.carries s.views) w ≤ most.share * before b.carries R w =
    subst (λ (c : Bool). 1000 * before c (carried_from c s.views) w ≤ most.share * before c R w) kind
    (carried-kept k s kept most greatest w) in
    let begun : (e : ℕ) → till + 1 + e ≤ w + count → over (begins s.views) (till + 1) e ≤ A + B =
    λ e inside. omega (
      arith,
      over-begins s.views till e,
      all-open b to e calls s.views made,
      over-total (λ x (v : View). times (first_of x) v.opened) s.views (till + 1) e,
      over-inner R w count till e low (omega arith),
    ) in
    let D : ℕ = over (drawn_in b.carries s.views) w count in
    let H : ℕ = over (handed_back_in b.carries s.views) w count in
    let shares : ℕ = most.share * (before b.carries R w + over R w count) in
    let bound : D ≤ (apart + 2 + (A + B)) * most.reserve + shares / 1000 =
    scaled D (apart + 2 + (A + B)) most.reserve shares
    (omega (
      arith,
      runs-drawn b.carries s.views w count,
      before-it,
      bounded-by k s kept most greatest w till apart count (A + B) low
          (windows-apart k b.start since to some-period le) begun,
    )) in
    let same : apart + 2 + (A + B) ≡ apart + 2 + A + B = omega arith in
    subst (λ x. total (drawn_from since) calls ≤ H + x * most.reserve + shares / 1000) same
    (omega (arith, drawn, bound))
