-- The first prefix of a history that passes a test, and the prefix on which a schedule is first done.
use Rattle.std.proofs.Common.{◌≡◌, ◌≤◌, List, [], ◌∷◌, ◌++◌, length, find, All, Bool, true, false, cond, if◌then◌else◌}
use Rattle.std.proofs.Common.{Some, None, refl, ap, subst, ◌∙◌, arith}
use Rattle.std.proofs.lemmas.List.Elements.{All-nil, All-cons, All-head, All-tail, All-map, All-weaker}
use Rattle.sched_plan.specs.History.{prefixes}
use Rattle.sched_plan.specs.Answer.{crossing, is_done}
use Rattle.sched_plan.specs.declared.history.Event.{Event}
use Rattle.sched_plan.specs.declared.history.Answer.{Answer}
use Rattle.sched_plan.proofs.HistoryLaws.{prefixes-push}

-- no prefix is longer than the history
pub prefixes_short : (h : List Event) → All (λ p. length p ≤ length h) (prefixes h)
prefixes_short [] = All-nil (λ p. length p ≤ 0)
prefixes_short (d ∷ h) =
    let P : List Event → Type 0 = λ p. length p ≤ length (d ∷ h) in
    All-cons P (d ∷ []) _ (omega arith)
    (All-map P (λ p. d ∷ p) (prefixes h)
    (All-weaker (λ p. length p ≤ length h) (λ p. P (d ∷ p)) (λ p short. omega arith) (prefixes h) (prefixes_short h)))

module _ {X : Type 0} (test : X → Bool) where
  -- what is found stays found when the list grows
  pub find-kept : (xs ys : List X) (x : X) → find test xs ≡ Some x → find test (xs ++ ys) ≡ Some x
  find-kept [] ys x = λ found. cc
  find-kept (y ∷ xs) ys x =
      elim (test y) as (λ b. cond b (Some y) (find test xs) ≡ Some x
      → cond b (Some y) (find test (xs ++ ys)) ≡ Some x) [
        | true ↦ λ found. found
        | false ↦ find-kept xs ys x
      ]

  -- where nothing is found, what is found is in the new part
  pub find-past : (xs ys : List X) → find test xs ≡ None → find test (xs ++ ys) ≡ find test ys
  find-past [] ys = λ none. refl
  find-past (y ∷ xs) ys =
      elim (test y) as (λ b. cond b (Some y) (find test xs) ≡ None
      → cond b (Some y) (find test (xs ++ ys)) ≡ find test ys) [
        | true ↦ λ none. cc
        | false ↦ find-past xs ys
      ]

  -- what holds of each element holds of the one that is found
  pub All-found : (P : X → Type 0) (xs : List X) (x : X) → All P xs → find test xs ≡ Some x → P x
  All-found P [] x all = λ found. cc
  All-found P (y ∷ xs) x all =
      elim (test y) as (λ b. cond b (Some y) (find test xs) ≡ Some x → P x) [
        | true ↦ λ found. let same : y ≡ x = cc in subst P same (All-head P y xs all)
        | false ↦ All-found P xs x (All-tail P y xs all)
      ]

-- no schedule is first done on a prefix longer than the history
pub crossing-short : (answers : List Event → Answer) (h p : List Event) → crossing answers h ≡ Some p
    → length p ≤ length h
crossing-short answers h p crossed =
    All-found (λ p. is_done (answers p).decision) (λ p. length p ≤ length h) (prefixes h) p (prefixes_short h) crossed

-- the prefix on which a schedule was first done stays the first one
pub crossing-kept : (answers : List Event → Answer) (h p : List Event) (e : Event) → crossing answers h ≡ Some p →
    crossing answers (h ++ e ∷ []) ≡ Some p
crossing-kept answers h p e crossed =
    let test : List Event → Bool = λ p. is_done (answers p).decision in
    ap (find test) (prefixes-push h e) ∙ find-kept test (prefixes h) ((h ++ e ∷ []) ∷ []) p crossed

-- one that was never done is first done at the new event or not yet
pub crossing-push : (answers : List Event → Answer) (h : List Event) (e : Event) → crossing answers h ≡ None →
    crossing answers (h ++ e ∷ []) ≡
    (if is_done (answers (h ++ e ∷ [])).decision then Some (h ++ e ∷ []) else None)
crossing-push answers h e none =
    let test : List Event → Bool = λ p. is_done (answers p).decision in
    ap (find test) (prefixes-push h e) ∙ find-past test (prefixes h) ((h ++ e ∷ []) ∷ []) none
