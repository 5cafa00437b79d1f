-- The takes that stand lie apart: each uses a time of its own, which ends at its mark and begins after its call may
-- begin. So those of any l milliseconds are few.
use Rattle.std.proofs.Common.{◌≡◌, ◌≢◌, ℕ, ◌+◌, ◌-◌, ◌*◌, ◌<◌, ◌≤◌, ◌==◌, ◌&&◌, Bool, true, false, cond}
use Rattle.std.proofs.Common.{leb, ltb, List, [], ◌∷◌, refl, sym, ap, subst, ◌∙◌, arith, leb-true, ltb-true, eq-eqb}
use Rattle.std.proofs.lemmas.Bool.{and_parts, and_from, eqb-true}
use mathlib.Core.Bool.{false≢true}
use Rattle.sched_ticket.specs.Lists.{total, is}
use Rattle.sched_limit_word.specs.Rule.{IsRun}
use Rattle.sched_limit_word.specs.Tokens.{UsesItsOwn, gained_by, used_by}
use Rattle.sched_limit_word.specs.declared.call.Call.{Call}
use Rattle.sched_limit_word.specs.declared.call.Call.TheVariants.{Admit, Draw, Failed, Succeeded, Ended, Returned}
use Rattle.sched_limit_word.specs.declared.call.Call.TheVariants.{Closed, OpenedByHand, ClosedByHand}
use Rattle.sched_limit_word.specs.declared.view.Move.{Move}
use Rattle.sched_pace.specs.Pace.{clock, is_cost, is_near, is_last, begins_at, due_after, pace_next}
use Rattle.sched_pace.specs.Starts.{Start, without, stands, standing, cost_if_in, cost_in, AreFew}
use Rattle.sched_pace.specs.Starts.{taken_in, cost_returned}
use Rattle.sched_pace.specs.Tokens.{name, gains, uses, pace_tokens}
use Rattle.sched_pace.specs.declared.pace.Pace.{Pace}
use Rattle.sched_pace.proofs.Cases.{cases, is_not, is_one, costs}
use Rattle.sched_pace.proofs.Numbers.{spread, uses_some, begins_late, begins_early, le_most}
use Rattle.sched_pace.proofs.Takes.{use_le}

-- whether a take is of this kind
abbrev pub named : ℕ → Start → ℕ
named kind x = is kind (name x.cost x.mark)

-- ---- what is counted of the takes that stand

without_named : (kind cost mark : ℕ) (xs : List Start)
    → total (named kind) xs ≤ total (named kind) (without cost mark xs) + is kind (name cost mark)
without_named kind cost mark [] = omega arith
without_named kind cost mark (x ∷ xs) =
    cases (λ (b : Bool). named kind x + total (named kind) xs
    ≤ total (named kind) (cond b xs (x ∷ without cost mark xs)) + is kind (name cost mark))
    ((x.cost == cost) && (x.mark == mark))
    (λ hit.
    let both = and_parts (x.cost == cost) (x.mark == mark) hit in
    let same : name x.cost x.mark ≡ name cost mark =
    omega (arith, eqb-true x.cost cost both.0, eqb-true x.mark mark both.1) in
    omega (arith, ap (is kind) same))
    (λ _. omega (arith, without_named kind cost mark xs))

cost_in_le : (m l at cost : ℕ) → cost_if_in m l at cost ≤ cost
cost_in_le m l at cost =
    cases (λ (b : Bool). cond b cost 0 ≤ cost) (leb m at && ltb at (m + l)) (λ _. omega arith) (λ _. omega arith)

without_cost : (m l cost mark : ℕ) (xs : List Start)
    → total (cost_in m l) xs ≤ total (cost_in m l) (without cost mark xs) + cost
without_cost m l cost mark [] = omega arith
without_cost m l cost mark (x ∷ xs) =
    cases (λ (b : Bool). cost_in m l x + total (cost_in m l) xs
    ≤ total (cost_in m l) (cond b xs (x ∷ without cost mark xs)) + cost)
    ((x.cost == cost) && (x.mark == mark))
    (λ hit. omega (
      arith,
      eqb-true x.cost cost (and_parts (x.cost == cost) (x.mark == mark) hit).0,
      cost_in_le m l x.at x.cost,
    ))
    (λ _. omega (arith, without_cost m l cost mark xs))

module _ (p : Pace) where
  -- what a move gains stands after it, until it is used
  step_named : (c : Call) (found left kind : ℕ) (xs : List Start)
      → gains c kind found left + total (named kind) xs
      ≤ total (named kind) (stands p c found left xs) + uses c kind found left
  step_named (Draw now cost slots) found left kind xs =
      cases (λ (b : Bool). cond b 0 (is kind (name cost left)) + total (named kind) xs
      ≤ total (named kind)
      (cond b xs (record { at = begins_at p now cost found; cost = cost; mark = left } ∷ xs)) + 0)
      (left == found) (λ _. omega arith) (λ _. omega arith)
  step_named (Returned cost mark) found left kind xs =
      cases (λ (b : Bool). 0 + total (named kind) xs
      ≤ total (named kind) (cond b xs (without cost mark xs)) + cond b 0 (is kind (name cost mark)))
      (left == found) (λ _. omega arith) (λ _. omega (arith, without_named kind cost mark xs))
  step_named (Admit now random before) found left kind xs = omega arith
  step_named (Failed now generation) found left kind xs = omega arith
  step_named (Succeeded now generation worth) found left kind xs = omega arith
  step_named (Ended slots) found left kind xs = omega arith
  step_named (Closed now) found left kind xs = omega arith
  step_named (OpenedByHand now until) found left kind xs = omega arith
  step_named (ClosedByHand now) found left kind xs = omega arith

  run_named : (run : List Move) (kind : ℕ)
      → gained_by (pace_tokens p) kind run ≤ total (named kind) (standing p run) + used_by (pace_tokens p) kind run
  run_named [] kind = omega arith
  run_named (m ∷ run) kind =
      omega (arith, step_named m.call m.found m.left kind (standing p run), run_named run kind)

  -- what is granted stands after it, until it comes back
  step_taken : (m l : ℕ) (c : Call) (found left : ℕ) (xs : List Start)
      → taken_in p m l c found left + total (cost_in m l) xs
      ≤ total (cost_in m l) (stands p c found left xs) + cost_returned c found left
  step_taken m l (Draw now cost slots) found left xs =
      cases (λ (b : Bool). cond b 0 (cost_if_in m l (begins_at p now cost found) cost) + total (cost_in m l) xs
      ≤ total (cost_in m l)
      (cond b xs (record { at = begins_at p now cost found; cost = cost; mark = left } ∷ xs)) + 0)
      (left == found) (λ _. omega arith) (λ _. omega arith)
  step_taken m l (Returned cost mark) found left xs =
      cases (λ (b : Bool). 0 + total (cost_in m l) xs
      ≤ total (cost_in m l) (cond b xs (without cost mark xs)) + cond b 0 cost)
      (left == found) (λ _. omega arith) (λ _. omega (arith, without_cost m l cost mark xs))
  step_taken m l (Admit now random before) found left xs = omega arith
  step_taken m l (Failed now generation) found left xs = omega arith
  step_taken m l (Succeeded now generation worth) found left xs = omega arith
  step_taken m l (Ended slots) found left xs = omega arith
  step_taken m l (Closed now) found left xs = omega arith
  step_taken m l (OpenedByHand now until) found left xs = omega arith
  step_taken m l (ClosedByHand now) found left xs = omega arith

  pub run_taken : (m l : ℕ) (run : List Move)
      → total (λ (n : Move). taken_in p m l n.call n.found n.left) run
      ≤ total (cost_in m l) (standing p run) + total (λ (n : Move). cost_returned n.call n.found n.left) run
  run_taken m l [] = omega arith
  run_taken m l (n ∷ run) =
      omega (arith, step_taken m l n.call n.found n.left (standing p run), run_taken m l run)

  -- ---- takes that lie apart

  pub record IsApart (x : Start) : Type 0 where
    pub some : 0 < x.cost * p.each
    pub small : x.cost < 2097152
    pub fits : x.cost * p.each ≤ x.mark
    pub late : x.mark ≤ 1000 * x.at + p.burst * p.each
    pub early : 1000 * x.at + x.cost * p.each < x.mark + 1000

  -- each mark is at most where the time of the take after it begins, and the last one at most the word
  abbrev AreApart : ℕ → List Start → Type 0
  AreApart due [] = Unit {0}
  AreApart due (x ∷ xs) = (x.mark ≤ due) × IsApart x × AreApart (x.mark - x.cost * p.each) xs

  rise : (due d : ℕ) (xs : List Start) → due ≤ d → AreApart due xs → AreApart d xs
  rise due d [] le a = tt
  rise due d (x ∷ xs) le a = (omega (arith, le, a.0), a.1, a.2)

  at_due : (due d : ℕ) (xs : List Start) → due ≡ d → AreApart due xs → AreApart d xs
  at_due due d xs e a = subst (λ (z : ℕ). AreApart z xs) e a

  -- no take that stands has a mark above the word
  none_above : (cost due d : ℕ) (xs : List Start) → cost < 2097152 → d < due → AreApart d xs
      → total (named (name cost due)) xs ≡ 0
  none_above cost due d [] small lt a = refl
  none_above cost due d (x ∷ xs) small lt a = omega (
    arith,
    is_not (name cost due) (name x.cost x.mark) (λ e. omega (arith, e, small, a.1.small, a.0, lt)),
    none_above cost due (x.mark - x.cost * p.each) xs small (omega (arith, a.0, lt)) a.2,
  )

  -- the take whose mark is the word is the last one: without it the others lie below
  last_back : (cost due : ℕ) (xs : List Start) → cost < 2097152 → 0 < total (named (name cost due)) xs
      → AreApart due xs → AreApart (due - cost * p.each) (without cost due xs)
  last_back cost due [] small some a = tt
  last_back cost due (x ∷ xs) small some a =
      cases (λ (b : Bool). AreApart (due - cost * p.each) (cond b xs (x ∷ without cost due xs)))
      ((x.cost == cost) && (x.mark == due))
      (λ hit.
      let both = and_parts (x.cost == cost) (x.mark == due) hit in
      let cost_is : x.cost ≡ cost = eqb-true x.cost cost both.0 in
      let mark_is : x.mark ≡ due = eqb-true x.mark due both.1 in
      at_due (x.mark - x.cost * p.each) (due - cost * p.each) xs
      (ap (λ (z : ℕ). z - x.cost * p.each) mark_is ∙ ap (λ (z : ℕ). due - z * p.each) cost_is) a.2)
      (λ miss.
      let other : name x.cost x.mark ≢ name cost due =
      λ e. false≢true (sym miss
      ∙ and_from (x.cost == cost) (x.mark == due)
      (eq-eqb x.cost cost (omega (arith, e, small, a.1.small)))
      (eq-eqb x.mark due (omega (arith, e, small, a.1.small)))) in
      absurd (omega (
        arith,
        some,
        is_not (name cost due) (name x.cost x.mark) other,
        none_above cost due (x.mark - x.cost * p.each) xs small (omega (arith, a.0, a.1.some, a.1.fits)) a.2,
      )))

  -- ---- each call keeps them apart

  -- a word that stays as it is
  stays : (word : ℕ) (xs ys : List Start) → AreApart word xs → AreApart word (cond (word == word) xs ys)
  stays word xs ys a = subst (λ (b : Bool). AreApart word (cond b xs ys)) (sym (eq-eqb word word refl)) a

  draw_apart : (now cost word : ℕ) (xs : List Start) (g : Bool)
      → (g ≡ true → (is_cost p cost ≡ true))
      → AreApart word xs
      → AreApart (cond g (due_after p now cost word) word) (cond (cond g (due_after p now cost word) word == word) xs
      (record { at = begins_at p now cost word; cost = cost; mark = cond g (due_after p now cost word) word } ∷ xs))
  draw_apart now cost word xs true granted a =
      let has = granted refl in
      let few = costs p cost has in
      let u : ℕ = cost * p.each in
      let v : ℕ = p.burst * p.each in
      let some : 0 < u = uses_some cost p.each few.0 p.is_each.0 in
      cases (λ (b : Bool). AreApart (due_after p now cost word) (cond b xs
      (record { at = begins_at p now cost word; cost = cost; mark = due_after p now cost word } ∷ xs)))
      (due_after p now cost word == word)
      (λ _. rise word (due_after p now cost word) xs (omega arith) a)
      (λ _. (
        omega arith,
        record {
          some = some;
          small = omega (arith, few.1, p.is_burst.1);
          fits = omega arith;
          late = begins_late (clock now) u v word;
          early = begins_early (clock now) u v word (use_le p cost has);
        },
        rise word (due_after p now cost word - u) xs (omega arith) a,
      ))
  draw_apart now cost word xs false granted a = stays word xs
      (record { at = begins_at p now cost word; cost = cost; mark = word } ∷ xs) a

  back_apart : (cost mark word : ℕ) (xs : List Start) (g : Bool) → (g ≡ true → is_last p cost mark word ≡ true)
      → ((cond g (word - cost * p.each) word == word) ≡ false → 0 < total (named (name cost mark)) xs)
      → AreApart word xs
      → AreApart (cond g (word - cost * p.each) word)
      (cond (cond g (word - cost * p.each) word == word) xs (without cost mark xs))
  back_apart cost mark word xs true last has a =
      let both = and_parts (word == mark) (is_cost p cost) (last refl) in
      let is_mark : word ≡ mark = eqb-true word mark both.0 in
      cases (λ (b : Bool). ((b ≡ false) → 0 < total (named (name cost mark)) xs)
      → AreApart (word - cost * p.each) (cond b xs (without cost mark xs)))
      (word - cost * p.each == word)
      (λ same _.
      at_due word (word - cost * p.each) xs (sym (eqb-true (word - cost * p.each) word same)) a)
      (λ _ some.
      subst (λ (z : ℕ). 0 < total (named (name cost z)) xs
      → AreApart (word - cost * p.each) (without cost z xs)) is_mark
      (λ few. last_back cost word xs (omega (arith, (costs p cost both.1).1, p.is_burst.1)) few a)
      (some refl))
      has
  back_apart cost mark word xs false last has a = stays word xs (without cost mark xs) a

  -- a call that gives back gives back what stands
  abbrev Stands : Call → ℕ → List Start → Type 0
  Stands c word xs = (kind : ℕ) → 0 < uses c kind word (pace_next p c word) → 0 < total (named kind) xs

  used_some : (cost mark : ℕ) (b : Bool) → b ≡ false → 0 < cond b 0 (is (name cost mark) (name cost mark))
  used_some cost mark true e = absurd (false≢true (sym e))
  used_some cost mark false e = omega (arith, is_one (name cost mark))

  step_apart : (c : Call) (word : ℕ) (xs : List Start) → Stands c word xs → AreApart word xs
      → AreApart (pace_next p c word) (stands p c word (pace_next p c word) xs)
  step_apart (Draw now cost slots) word xs has a =
      draw_apart now cost word xs (is_cost p cost && is_near p now cost word)
      (λ g. (and_parts (is_cost p cost) (is_near p now cost word) g).0) a
  step_apart (Returned cost mark) word xs has a =
      back_apart cost mark word xs (is_last p cost mark word) (λ g. g)
      (λ other. has (name cost mark)
      (used_some cost mark (pace_next p (Returned cost mark) word == word) other)) a
  step_apart (Admit now random before) word xs has a = a
  step_apart (Failed now generation) word xs has a = a
  step_apart (Succeeded now generation worth) word xs has a = a
  step_apart (Ended slots) word xs has a = a
  step_apart (Closed now) word xs has a = a
  step_apart (OpenedByHand now until) word xs has a = a
  step_apart (ClosedByHand now) word xs has a = a

  -- what a move uses stands before it
  stands_before : (u used gained there : ℕ) → 0 < u → u + used ≤ gained → gained ≤ there + used → 0 < there
  stands_before u used gained there some may le = omega (arith, some, may, le)

  run_apart : (run : List Move) (word : ℕ) → IsRun (pace_next p) 0 run word → UsesItsOwn (pace_tokens p) run
      → AreApart word (standing p run)
  run_apart [] word r own = tt
  run_apart (m ∷ run) word r own =
      let xs : List Start = standing p run in
      let n : ℕ = pace_next p m.call m.found in
      let has : Stands m.call m.found xs =
      λ kind some. stands_before (uses m.call kind m.found n) (used_by (pace_tokens p) kind run)
      (gained_by (pace_tokens p) kind run) (total (named kind) xs) some
      (subst (λ (z : ℕ). 0 < uses m.call kind m.found z
      → uses m.call kind m.found z + used_by (pace_tokens p) kind run ≤ gained_by (pace_tokens p) kind run)
      r.1 (own.0 kind) some)
      (run_named run kind) in
      let after : AreApart n (stands p m.call m.found n xs) =
      step_apart m.call m.found xs has (run_apart run m.found r.2 own.1) in
      at_due m.left word (stands p m.call m.found m.left xs) (sym r.0)
      (subst (λ (z : ℕ). AreApart z (stands p m.call m.found z xs)) (sym r.1) after)

  -- ---- those of a time are few

  add_start : (m : ℕ) (x : Start) (t : ℕ) → IsApart x → m ≤ x.at
      → t * p.each ≤ (x.mark - x.cost * p.each) - (1000 * m - 999)
      → (x.cost + t) * p.each ≤ x.mark - (1000 * m - 999)
  add_start m x t a in_ le =
      omega (arith, spread x.cost t p.each, a.fits, a.early, in_, le)

  begins_in : (m l at : ℕ) → (leb m at && ltb at (m + l)) ≡ true → (m ≤ at) × (at < m + l)
  begins_in m l at h =
      let both = and_parts (leb m at) (ltb at (m + l)) h in (leb-true m at both.0, ltb-true at (m + l) both.1)

  sum_below : (m l due : ℕ) (xs : List Start) → AreApart due xs
      → total (cost_in m l) xs * p.each ≤ due - (1000 * m - 999)
  sum_below m l due [] a = omega arith
  sum_below m l due (x ∷ xs) a =
      let t : ℕ = total (cost_in m l) xs in
      let rest : t * p.each ≤ (x.mark - x.cost * p.each) - (1000 * m - 999) =
      sum_below m l (x.mark - x.cost * p.each) xs a.2 in
      cases (λ (b : Bool). (cond b x.cost 0 + t) * p.each ≤ due - (1000 * m - 999))
      (leb m x.at && ltb x.at (m + l))
      (λ hit. omega (arith, add_start m x t a.1 (begins_in m l x.at hit).0 rest, a.0))
      (λ _. omega (arith, rest, a.0))

  sum_within : (m l due : ℕ) (xs : List Start) → AreApart due xs
      → total (cost_in m l) xs * p.each ≤ (1000 * l - 1) + p.burst * p.each
  sum_within m l due [] a = omega arith
  sum_within m l due (x ∷ xs) a =
      let t : ℕ = total (cost_in m l) xs in
      let rest : t * p.each ≤ (x.mark - x.cost * p.each) - (1000 * m - 999) =
      sum_below m l (x.mark - x.cost * p.each) xs a.2 in
      cases (λ (b : Bool). (cond b x.cost 0 + t) * p.each ≤ (1000 * l - 1) + p.burst * p.each)
      (leb m x.at && ltb x.at (m + l))
      (λ hit.
      let in_ = begins_in m l x.at hit in
      omega (arith, add_start m x t a.1 in_.0 rest, in_.0, in_.1, a.1.late))
      (λ _. omega (arith, sum_within m l (x.mark - x.cost * p.each) xs a.2))

  pub run_few : (run : List Move) (word : ℕ) → IsRun (pace_next p) 0 run word → UsesItsOwn (pace_tokens p) run
      → AreFew p run
  run_few run word r own m l =
      le_most (total (cost_in m l) (standing p run)) p.burst p.each (1000 * l - 1) p.is_each.0
      (sum_within m l word (standing p run) (run_apart run word r own))
