-- A turn that no other call disturbs is the one that the two words make.
use Rattle.std.proofs.Common.{◌≡◌, ◌⊎◌, ℕ, ◌-◌, false, cond, refl, sym, ap, ◌∙◌, subst, inl, inr, Bool}
use Rattle.sched_limit_word.specs.Calls.{Called}
use Rattle.sched_limit_word.specs.declared.call.Call.TheVariants as call
use Rattle.sched_limit_word.specs.declared.view.View.{View}
use Rattle.sched_limit.specs.Throttle.{window_at, throttle_next, closed_in}
use Rattle.sched_limit.specs.Turns.{count_of, turn_of}
use Rattle.sched_limit.specs.Window.{is_open_to}
use Rattle.sched_limit.specs.declared.throttle.Throttle.{Throttle}
use Rattle.sched_limit_request.specs.Laws.{UndisturbedIsTurned}
use Rattle.sched_limit_request.specs.Windows.{Closes}

module _ (t : Throttle) (at before : ℕ) (v u : View) where
  abbrev Here : Type 0
  Here = ((u ≡ v) × (v.seen ≡ before) × (is_open_to (window_at t at - 1) before ≡ false))
      ⊎ (Called (throttle_next t) (call.Closed at) v.seen v u × (before ≡ throttle_next t (call.Closed at) v.seen))

  -- a window that takes no counts is closed as it is
  shut_stays : is_open_to (window_at t at - 1) before ≡ false → throttle_next t (call.Closed at) before ≡ before
  shut_stays shut = subst (λ (c : Bool). cond c (closed_in (window_at t at - 1) before) before ≡ before) (sym shut) refl

  closes : Here → Closes t at before v u
  closes here = elim here [ inl stays ↦ inl stays | inr made ↦ inr (v.seen, made.0, made.1) ]

  closed_by : Here → before ≡ throttle_next t (call.Closed at) v.seen
  closed_by here = elim here [
    | inl stays ↦ sym (ap (λ (w : ℕ). throttle_next t (call.Closed at) w) stays.1 ∙ shut_stays stays.2)
    | inr made ↦ made.1
  ]

  left_so : Here → u.seen ≡ before
  left_so here = elim here [
    | inl stays ↦ ap (λ (x : View). x.seen) stays.0 ∙ stays.1
    | inr made ↦ made.0.seen ∙ sym made.1
  ]

pub undisturbed_is_turned : UndisturbedIsTurned
undisturbed_is_turned t told random at turn own other own' other' x =
    let before = closed_by t at x.before other other' x.closes in
    record {
      is_one = record {
        before = x.before;
        closes = closes t at x.before other other' x.closes;
        tries = inl (record { word = own.seen; called = x.called; turn_is = x.turn_is });
      };
      turn_is = x.turn_is ∙ ap (λ (b : ℕ). turn_of t told random at b own.seen) before;
      here = x.called.seen ∙ ap (λ (b : ℕ). throttle_next t (count_of told random at b) own.seen) before;
      other_is = left_so t at x.before other other' x.closes ∙ before;
    }
