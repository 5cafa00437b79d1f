-- The laws of all views, from the rule.
use Rattle.std.proofs.Common.{◌≡◌, ℕ, suc, List, [], ◌∷◌, refl, ap, arith}
use mathlib.Core.Logic.{dite}
use mathlib.Core.Option.{some}
use native.Mathlib.Decide.{dec_le}
use lib.ListN.{get_elem?}
use Rattle.sched_ticket.specs.Lists.{total, is, times}
use Rattle.sched_ticket.proofs.Sums.{below-is, once_below-le}
use Rattle.sched_ticket_quota.specs.Windows.{window_of, first_of, terms_of, allowed, within}
use Rattle.sched_ticket_quota.specs.Rule.{returned_in, requests_in, drawn_of, asked_of, current_of, words_of}
use Rattle.sched_ticket_quota.specs.Laws.{TicketsStandOnce, RequestsStandOnce, WindowsAreKept, UnchangedAreKept}
use Rattle.sched_ticket_quota.specs.Laws.{TermsWereInForce, WindowsAreSmall, LatestIsCounted, RefusalsAreJust}
use Rattle.sched_ticket_quota.specs.Laws.{SightIsTrue, WindowsWereOpened, PartsAreKept, SpentHasNothing, WordsStaySmall}
use Rattle.sched_ticket_quota.specs.declared.view.View.{View}
use Rattle.sched_ticket_quota.proofs.Numbers.{below-within, only-word, back_in-le}
use Rattle.sched_ticket_quota.proofs.Counts.{seen_at, asked_le, drawn_le}
use Rattle.sched_ticket_quota.proofs.Whole.{windows_kept, windows_small}

pub tickets_stand_once : TicketsStandOnce
tickets_stand_once k s kept x =
    omega (arith, kept.orderly.dealt.once (is x), below-is x (drawn_of s), once_below-le x (drawn_of s))

pub requests_stand_once : RequestsStandOnce
requests_stand_once k s kept x =
    omega (arith, kept.orderly.counted.once (is x), below-is x (asked_of s), once_below-le x (asked_of s))

pub windows_are_kept : WindowsAreKept
windows_are_kept k s kept w n most =
    windows_kept k (words_of s kept.window kept.latest kept.carries) s.views kept.orderly w n
    (λ x some-force. omega (arith, most (terms_of k x) (x, some-force, refl)))

no_changes : (x : ℕ) (views : List View) → ((by : ℕ) (v : View) → get_elem? views by ≡ some v → v.changes ≡ [])
    → total (λ (v : View). times x v.changes) views ≡ 0
no_changes x [] none = refl
no_changes x (v ∷ views) none = omega (arith, ap (times x) (none 0 v refl), no_changes x views (λ by. none (suc by)))

pub unchanged_are_kept : UnchangedAreKept
unchanged_are_kept k s kept none w =
    omega (
      arith,
      windows_kept k (words_of s kept.window kept.latest kept.carries) s.views kept.orderly w
          (allowed k (requests_in s.views w))
          (λ x some-force. omega (
            arith,
            only-word k x (requests_in s.views w) kept.orderly.known
                (omega (arith, some-force, no_changes x s.views none)),
          )),
    )

pub terms_were_in_force : TermsWereInForce
terms_were_in_force k s kept = (
  (current_of s, kept.orderly.force, refl),
  λ by v at live. (v.current, (kept.orderly.each by v at).force live, refl),
)

pub windows_are_small : WindowsAreSmall
windows_are_small k s kept w = windows_small k (words_of s kept.window kept.latest kept.carries) s.views kept.orderly w

pub latest_is_counted : LatestIsCounted
latest_is_counted k s kept = let at = seen_at (asked_of s) kept.latest s.views kept.orderly.counted in omega arith

pub refusals_are_just : RefusalsAreJust
refusals_are_just k s kept by v at full =
    let f = kept.orderly.each by v at in
    let w : ℕ = window_of v.seen in
    dite (dec_le v.found (first_of w))
    (λ none. omega (arith, full.0))
    (λ not. omega (arith, full.0, f.given w (omega arith) full.1))

pub sight_is_true : SightIsTrue
sight_is_true k s kept by v at =
    let f = kept.orderly.each by v at in
    let counted = f.counted in
    (f.seen, f.found, omega arith, λ w. back_in-le v.back w (returned_in s.views) f.came_back, f.noted, f.past.counted)

pub windows_were_opened : WindowsWereOpened
windows_were_opened k s kept =
    let c = kept.orderly.counted in
    let from = c.from in (
      omega arith,
      c.opened,
      λ w late full.
          let a : ℕ = first_of w in
          let h : ℕ → ℕ = within a 4294967296 in
          omega (
            arith,
            c.all h,
            below-within a 4294967296 (asked_of s),
            below-within a 4294967296 (first_of kept.latest),
          ),
    )

pub parts_are_kept : PartsAreKept
parts_are_kept k s kept = kept.orderly.parts

pub spent_has_nothing : SpentHasNothing
spent_has_nothing k s kept by v at none = let f = kept.orderly.each by v at in
    ((f.spent none).0, (f.spent none).1, (f.spent none).4)

pub words_stay_small : WordsStaySmall
words_stay_small k s kept = (
  asked_le k (words_of s kept.window kept.latest kept.carries) s.views kept.orderly,
  drawn_le k (words_of s kept.window kept.latest kept.carries) s.views kept.orderly,
  kept.orderly.few_back,
)
