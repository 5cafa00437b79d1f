-- The first and the last moment of a history that grows by one event.
use Rattle.std.proofs.Common.{◌≡◌, ℕ, ◌-◌, List, [], ◌∷◌, ◌++◌, Bool, true, false, cond, if◌then◌else◌, ltb, leb, not}
use Rattle.std.proofs.Common.{Some, refl, sym, ap, ◌∙◌, inl, inr, lt-ltb, le-ltb, le-leb}
use Rattle.std.proofs.lemmas.Bool.{cases_lt, lt-leb}
use Rattle.sched_plan.specs.History.{first_moment, last_moment}
use Rattle.sched_plan.proofs.HistoryLaws.{last_moment-push}
use Rattle.sched_plan.specs.Rounds.{is_within, last_block, last_run}
use Rattle.sched_plan.proofs.RoundLaws.{last_block-push, last_run-push}
use Rattle.sched_plan.specs.declared.history.Event.{Event}
use Rattle.sched_step.specs.StateOf.{began_at, ended_at}
use Rattle.sched_step.specs.Step.{kept_or_now, is_over, round_next}

-- the first moment is that which is kept, else that of the event
pub began_at-push : (h : List Event) (e : Event) → Some (kept_or_now (began_at h) e.now) ≡ began_at (h ++ e ∷ [])
began_at-push [] e = refl
began_at-push (d ∷ h) e = refl

pub first_moment_kept : (h : List Event) (e : Event) → kept_or_now (began_at h) e.now ≡ first_moment (h ++ e ∷ [])
first_moment_kept [] e = refl
first_moment_kept (d ∷ h) e = refl

-- the last moment is that of the event
pub ended_at-push : (h : List Event) (e : Event) → Some e.now ≡ ended_at (h ++ e ∷ [])
ended_at-push [] e = refl
ended_at-push (d ∷ h) e = ap Some (sym (last_moment-push (d ∷ h) e))

-- Rounds: an event that comes so late begins a new one.

within_or_over : (d x : ℕ) → ltb x d ≡ not (leb d x)
within_or_over d x = elim (cases_lt x d) [
  | inl within ↦ lt-ltb x d within ∙ sym (ap not (lt-leb d x within))
  | inr over ↦ le-ltb x d over ∙ sym (ap not (le-leb d x over))
]

either_way : (b : Bool) (g : List Event) → cond b g g ≡ g
either_way true g = refl
either_way false g = refl

begun_or_joined : (over : Bool) (round : List Event) (e : Event) →
    cond (not over) (round ++ e ∷ []) (e ∷ []) ≡ (if over then [] else round) ++ e ∷ []
begun_or_joined true round e = refl
begun_or_joined false round e = refl

round_with : (d m : ℕ) (round : List Event) (e : Event) →
    cond (is_within d m e) (round ++ e ∷ []) (e ∷ []) ≡ (if is_over d (Some m) e.now then [] else round) ++ e ∷ []
round_with d m round e =
    ap (λ b. cond b (round ++ e ∷ []) (e ∷ [])) (within_or_over d (e.now - m))
    ∙ begun_or_joined (leb d (e.now - m)) round e

block_with : (d : ℕ) (round : List Event) (e : Event) →
    cond (is_within d (first_moment round) e) (round ++ e ∷ []) (e ∷ []) ≡
    (if is_over d (began_at round) e.now then [] else round) ++ e ∷ []
block_with d [] e = either_way (is_within d 0 e) (e ∷ [])
block_with d (c ∷ g) e = round_with d c.now (c ∷ g) e

-- the last block goes on from its first moment
pub last_block_kept : (d : ℕ) (h : List Event) (e : Event) →
    last_block d (h ++ e ∷ []) ≡ (if is_over d (began_at (last_block d h)) e.now then [] else last_block d h) ++ e ∷ []
last_block_kept d [] e = refl
last_block_kept d (c ∷ h) e = last_block-push d c h e ∙ block_with d (last_block d (c ∷ h)) e

-- the last run goes on from the last moment
pub last_run_kept : (d : ℕ) (h : List Event) (e : Event) →
    last_run d (h ++ e ∷ []) ≡ (if is_over d (ended_at h) e.now then [] else last_run d h) ++ e ∷ []
last_run_kept d [] e = refl
last_run_kept d (c ∷ h) e = last_run-push d c h e ∙ round_with d (last_moment (c ∷ h)) (last_run d (c ∷ h)) e

round_next-push : (over : Bool) (round : List Event) (e : Event) →
    Some (round_next over (began_at round) e.now) ≡ began_at ((if over then [] else round) ++ e ∷ [])
round_next-push true round e = refl
round_next-push false round e = began_at-push round e

-- the first moment of the last block, from the one that is kept
pub round_kept : (d : ℕ) (h : List Event) (e : Event) →
    Some (round_next (is_over d (began_at (last_block d h)) e.now) (began_at (last_block d h)) e.now) ≡
    began_at (last_block d (h ++ e ∷ []))
round_kept d h e =
    round_next-push (is_over d (began_at (last_block d h)) e.now) (last_block d h) e
    ∙ ap began_at (sym (last_block_kept d h e))
