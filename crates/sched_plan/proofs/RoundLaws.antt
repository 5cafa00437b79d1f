-- What one more event does to the rounds of a history.
use Rattle.std.proofs.Common.{◌≡◌, ℕ, zero, suc, ◌<◌, ◌≤◌, List, [], ◌∷◌, ◌++◌, length, Bool, true, false, cond, ◌&&◌}
use Rattle.std.proofs.Common.{Some, find, refl, sym, ap, subst, ◌∙◌, inl, inr, arith}
use Rattle.std.specs.Prelude.{take_while, unwrap_or, if◌then◌else◌}
use Rattle.std.proofs.lemmas.Bool.{cases_lt, cond_both}
use Rattle.std.proofs.lemmas.List.{length_push, append-nil}
use Rattle.std.proofs.lemmas.List.Sums.{take_while-cons}
use Rattle.sched_plan.specs.History.{first_moment, last_moment}
use Rattle.sched_plan.proofs.HistoryLaws.{last_moment-push}
use Rattle.sched_plan.specs.Rounds.{is_within, blocks_past, last_history, last_block, suffixes, is_close, last_run}
use Rattle.sched_plan.specs.declared.history.Event.{Event}

-- The longest front that passes a test, when the list grows: it grows where it is the whole list, else it stays.
module _ (test : Event → Bool) where
  run_whole : (h : List Event) → length h ≤ length (take_while test h) → take_while test h ≡ h
  run_whole [] = λ whole. refl
  run_whole (c ∷ h) =
      rw (take_while-cons test c h)
      (elim (test c) as (λ b. length (c ∷ h) ≤ length (cond b (c ∷ take_while test h) [])
      → cond b (c ∷ take_while test h) [] ≡ c ∷ h) [
        | true ↦ λ whole. ap (λ g. c ∷ g) (run_whole h (omega (arith, whole)))
        | false ↦ λ whole. absurd (omega (arith, whole))
      ])

  run_more : (h : List Event) (e : Event) → length h ≤ length (take_while test h)
      → take_while test (h ++ e ∷ []) ≡ h ++ take_while test (e ∷ [])
  run_more [] e = λ whole. refl
  run_more (c ∷ h) e =
      rw (take_while-cons test c h, take_while-cons test c (h ++ e ∷ []))
      (elim (test c) as (λ b. length (c ∷ h) ≤ length (cond b (c ∷ take_while test h) [])
      → cond b (c ∷ take_while test (h ++ e ∷ [])) [] ≡ c ∷ h ++ take_while test (e ∷ [])) [
        | true ↦ λ whole. ap (λ g. c ∷ g) (run_more h e (omega (arith, whole)))
        | false ↦ λ whole. absurd (omega (arith, whole))
      ])

  run_stopped : (h : List Event) (e : Event) → length (take_while test h) < length h
      → take_while test (h ++ e ∷ []) ≡ take_while test h
  run_stopped [] e = λ stopped. absurd (omega (arith, stopped))
  run_stopped (c ∷ h) e =
      rw (take_while-cons test c h, take_while-cons test c (h ++ e ∷ []))
      (elim (test c) as (λ b. length (cond b (c ∷ take_while test h) []) < length (c ∷ h)
      → cond b (c ∷ take_while test (h ++ e ∷ [])) [] ≡ cond b (c ∷ take_while test h) []) [
        | true ↦ λ stopped. ap (λ g. c ∷ g) (run_stopped h e (omega (arith, stopped)))
        | false ↦ λ stopped. refl
      ])

last_history-cons : (b : List Event) (bs : List (List Event)) → 0 < length bs → last_history (b ∷ bs) ≡ last_history bs
last_history-cons b [] some = absurd (omega (arith, some))
last_history-cons b (c ∷ bs) some = refl

-- past the whole history there is no block
blocks_past-none : (d k : ℕ) (h : List Event) → length h ≤ k → blocks_past d k h ≡ []
blocks_past-none d k [] past = refl
blocks_past-none d zero (c ∷ h) past = absurd (omega (arith, past))
blocks_past-none d (suc k) (c ∷ h) past = blocks_past-none d k h (omega (arith, past))

-- before its end there is one
blocks_past-some : (d k : ℕ) (h : List Event) → k < length h → 0 < length (blocks_past d k h)
blocks_past-some d k [] before = absurd (omega (arith, before))
blocks_past-some d zero (c ∷ h) before = omega arith
blocks_past-some d (suc k) (c ∷ h) before = blocks_past-some d k h (omega (arith, before))

-- past all of the history the event that came last is a block of its own
blocks_past-itself : (d k : ℕ) (h : List Event) (e : Event) → k ≡ length h
    → blocks_past d k (h ++ e ∷ []) ≡ (e ∷ []) ∷ []
blocks_past-itself d zero [] e past = refl
blocks_past-itself d (suc k) [] e past = absurd (omega (arith, past))
blocks_past-itself d zero (c ∷ h) e past = absurd (omega (arith, past))
blocks_past-itself d (suc k) (c ∷ h) e past = blocks_past-itself d k h e (omega (arith, past))

-- where the whole history is one block, the event either joins it or begins a block
joined_or_begun : (d : ℕ) (c : Event) (h : List Event) (e : Event) (joins : Bool) →
    last_history
    ((c ∷ h ++ cond joins (e ∷ []) []) ∷ blocks_past d (length (h ++ cond joins (e ∷ []) [])) (h ++ e ∷ [])) ≡
    cond joins (c ∷ h ++ e ∷ []) (e ∷ [])
joined_or_begun d c h e true = rw (blocks_past-none d (length (h ++ e ∷ [])) (h ++ e ∷ []) (omega arith)) refl
joined_or_begun d c h e false = rw (append-nil h, blocks_past-itself d (length h) h e refl) refl

-- The last block, where the first k events are passed over: it takes the event that comes less than d after its first
-- moment, else that event begins a block.
last_past-push : (d k : ℕ) (h : List Event) (e : Event) → k < length h →
    last_history (blocks_past d k (h ++ e ∷ [])) ≡
    cond (is_within d (first_moment (last_history (blocks_past d k h))) e)
    (last_history (blocks_past d k h) ++ e ∷ []) (e ∷ [])
last_past-push d k [] e before = absurd (omega (arith, before))
last_past-push d (suc k) (c ∷ h) e before = last_past-push d k h e (omega (arith, before))
last_past-push d zero (c ∷ h) e before =
    let test : Event → Bool = is_within d c.now in
    elim (cases_lt (length (take_while test h)) (length h)) [
      | inl stopped ↦
          let rest : List (List Event) = blocks_past d (length (take_while test h)) h in
          let rest_some : 0 < length rest = blocks_past-some d (length (take_while test h)) h stopped in
          ap (λ g. last_history ((c ∷ g) ∷ blocks_past d (length g) (h ++ e ∷ []))) (run_stopped test h e stopped)
          ∙ last_history-cons _ _
          (blocks_past-some d (length (take_while test h)) (h ++ e ∷ []) (omega (arith, length_push h e)))
          ∙ last_past-push d (length (take_while test h)) h e stopped
          ∙ ap (λ g. cond (is_within d (first_moment g) e) (g ++ e ∷ []) (e ∷ []))
          (sym (last_history-cons (c ∷ take_while test h) rest rest_some))
      | inr whole ↦
          let block_is : last_history (blocks_past d 0 (c ∷ h)) ≡ c ∷ h =
          ap (λ g. last_history ((c ∷ g) ∷ blocks_past d (length g) h)) (run_whole test h whole)
          ∙ ap (λ bs. last_history ((c ∷ h) ∷ bs)) (blocks_past-none d (length h) h (omega arith)) in
          ap (λ g. last_history ((c ∷ g) ∷ blocks_past d (length g) (h ++ e ∷ [])))
          (run_more test h e whole ∙ ap (λ g. h ++ g) (take_while-cons test e []))
          ∙ joined_or_begun d c h e (is_within d c.now e)
          ∙ ap (λ g. cond (is_within d (first_moment g) e) (g ++ e ∷ []) (e ∷ [])) (sym block_is)
    ]

-- the last block takes an event that comes less than d after its first moment, else that event begins a block
pub last_block-push : (d : ℕ) (c : Event) (h : List Event) (e : Event) →
    last_block d (c ∷ h ++ e ∷ []) ≡
    (if is_within d (first_moment (last_block d (c ∷ h))) e then last_block d (c ∷ h) ++ e ∷ [] else e ∷ [])
last_block-push d c h e = last_past-push d 0 (c ∷ h) e (omega arith)

-- the last run of a longer history: all of it where it is close, else that of the rest
last_run-cons : (d : ℕ) (c : Event) (h : List Event)
    → last_run d (c ∷ h) ≡ cond (is_close d (c ∷ h)) (c ∷ h) (last_run d h)
last_run-cons d c h =
    elim (is_close d (c ∷ h)) as (λ b.
    unwrap_or (cond b (Some (c ∷ h)) (find (is_close d) (suffixes h))) [] ≡ cond b (c ∷ h) (last_run d h)) [
      | true ↦ refl
      | false ↦ refl
    ]

and_true : (b : Bool) → (b && true) ≡ b
and_true true = refl
and_true false = refl

and_assoc : (a b c : Bool) → (a && (b && c)) ≡ ((a && b) && c)
and_assoc true b c = refl
and_assoc false b c = refl

-- a close history stays so with an event that comes less than d after its last
is_close-push : (d : ℕ) (c : Event) (h : List Event) (e : Event) →
    is_close d (c ∷ h ++ e ∷ []) ≡ (is_close d (c ∷ h) && is_within d (last_moment (c ∷ h)) e)
is_close-push d c [] e = and_true (is_within d c.now e)
is_close-push d c (b ∷ h) e =
    ap (λ close. is_within d c.now b && close) (is_close-push d b h e)
    ∙ and_assoc (is_within d c.now b) (is_close d (b ∷ h)) (is_within d (last_moment (b ∷ h)) e)

grown_run : (close near : Bool) (g rest : List Event) (e : Event) →
    cond (close && near) (g ++ e ∷ []) (cond near (rest ++ e ∷ []) (e ∷ []))
    ≡ cond near (cond close g rest ++ e ∷ []) (e ∷ [])
grown_run true true g rest e = refl
grown_run true false g rest e = refl
grown_run false true g rest e = refl
grown_run false false g rest e = refl

-- the last run takes an event that comes less than d after the history's last, else that event begins a run
pub last_run-push : (d : ℕ) (c : Event) (h : List Event) (e : Event) →
    last_run d (c ∷ h ++ e ∷ []) ≡
    (if is_within d (last_moment (c ∷ h)) e then last_run d (c ∷ h) ++ e ∷ [] else e ∷ [])
last_run-push d c [] e =
    last_run-cons d c (e ∷ []) ∙ ap (λ close. cond close (c ∷ e ∷ []) (e ∷ [])) (and_true (is_within d c.now e))
last_run-push d c (b ∷ h) e =
    let near : Bool = is_within d (last_moment (b ∷ h)) e in
    last_run-cons d c (b ∷ h ++ e ∷ [])
    ∙ ap (λ close. cond close (c ∷ b ∷ h ++ e ∷ []) (last_run d (b ∷ h ++ e ∷ []))) (is_close-push d c (b ∷ h) e)
    ∙ ap (cond (is_close d (c ∷ b ∷ h) && near) (c ∷ b ∷ h ++ e ∷ [])) (last_run-push d b h e)
    ∙ grown_run (is_close d (c ∷ b ∷ h)) near (c ∷ b ∷ h) (last_run d (b ∷ h)) e
    ∙ ap (λ g. cond near (g ++ e ∷ []) (e ∷ [])) (sym (last_run-cons d c (b ∷ h)))

-- A round that takes an event or begins with it ends with it.
module _ (P : List Event → Type 0) (round : List Event → List Event) (joins : List Event → Event → Bool)
    (alone : (e : Event) → round (e ∷ []) ≡ e ∷ [])
    (pushed : (c : Event) (h : List Event) (e : Event)
    → round (c ∷ h ++ e ∷ []) ≡ cond (joins (c ∷ h) e) (round (c ∷ h) ++ e ∷ []) (e ∷ [])) where
  round-push : (h : List Event) (e : Event) → ((g : List Event) → P (g ++ e ∷ [])) → P (round (h ++ e ∷ []))
  round-push [] e each = subst P (sym (alone e)) (each [])
  round-push (c ∷ h) e each =
      subst P (sym (pushed c h e))
      (cond_both (joins (c ∷ h) e) (round (c ∷ h) ++ e ∷ []) (e ∷ []) P (λ grows. each (round (c ∷ h)))
      (λ begins. each []))

-- the last block and the last run end at the history's last moment
pub last_block-last_moment : (d : ℕ) (h : List Event) (e : Event) → last_moment (last_block d (h ++ e ∷ [])) ≡ e.now
last_block-last_moment d h e =
    round-push (λ g. last_moment g ≡ e.now) (last_block d) (λ h e. is_within d (first_moment (last_block d h)) e)
    (λ e. refl) (last_block-push d) h e (λ g. last_moment-push g e)

pub last_run-last_moment : (d : ℕ) (h : List Event) (e : Event) → last_moment (last_run d (h ++ e ∷ [])) ≡ e.now
last_run-last_moment d h e =
    round-push (λ g. last_moment g ≡ e.now) (last_run d) (λ h e. is_within d (last_moment h) e)
    (λ e. refl) (last_run-push d) h e (λ g. last_moment-push g e)
