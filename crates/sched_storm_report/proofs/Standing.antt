-- What a tally was told stands where a window ends, and where one moment more is told.
use Rattle.std.proofs.Common.{◌≡◌, ℕ, ◌+◌, ◌*◌, ◌/◌, ◌<◌, ◌≤◌, Bool, true, false, if◌then◌else◌, nat_lt, List, [], ◌∷◌}
use Rattle.std.proofs.Common.{◌++◌, All, length, get_or, Option, Some, None, vec_len, option_to_list, inl, inr, refl}
use Rattle.std.proofs.Common.{sym, ap, subst, ◌∙◌, arith}
use native.Mathlib.Nat.{add-mul}
use Rattle.std.proofs.Math.Nat.{div-eq_of_lt-le}
use Rattle.std.proofs.lemmas.Bool.{ne_eqb, eq-eqb, eqb-true, lt-ltb, le-ltb, cases_lt}
use Rattle.std.proofs.lemmas.Nat.{div_below, le-div, row_fits}
use Rattle.std.specs.List.{cons_option}
use Rattle.std.proofs.lemmas.List.{get_or_append_left, get_or_push, length_push}
use Rattle.std.proofs.lemmas.List.FromFn.{fill_by_all}
use Rattle.std.proofs.lemmas.List.Elements.{All-head, All-tail, All-weaker, All-push, filter_map-append}
use Rattle.sched_storm_report.specs.Counts.{no_counts, with_happening, score_after}
use Rattle.sched_storm_report.specs.Moments.{is_won_from, is_in_window, counts_where, always, time_at, times_of, latest}
use Rattle.sched_storm_report.specs.Moments.{busy_by}
use Rattle.sched_storm_report.specs.Peer.{none_busy, waiting_at}
use Rattle.sched_storm_report.specs.Report.{window_of, windows_of}
use Rattle.sched_storm_report.specs.Told.{HasBegun, IsBefore, Stands, AreTold, credited, IsNext}
use Rattle.sched_storm_report.proofs.Sums.{in_line_more}
use Rattle.sched_storm_report.proofs.Counted.{counts_here, counts_elsewhere, score_more, IsOutside, counts_none}
use Rattle.sched_storm_report.specs.declared.moments.Happening.{Happening}
use Rattle.sched_storm_report.specs.declared.moments.Happening.TheVariants.{Request, Retry, Won, Failed, Refused}
use Rattle.sched_storm_report.specs.declared.moments.Moment.{Moment}
use Rattle.sched_storm_report.specs.declared.counts.Score.{Score}
use Rattle.sched_storm_report.specs.declared.peer.Busy.{Busy}
use Rattle.sched_storm_report.specs.declared.peer.Peer.{Peer}
use Rattle.sched_storm_report.specs.declared.tally.Tally.{Tally}
use Rattle.sched_storm_report.specs.declared.tally.Window.{Window}

-- where a window lies
before_window : (window n at : ℕ) → 1 ≤ window → at < n * window → is_in_window window n at ≡ false
before_window window n at some early = ne_eqb (at / window) n (λ e. let low =
    div_below at window n some early in omega arith)

in_window : (window n at : ℕ) → n * window ≤ at → at < n * window + window → is_in_window window n at ≡ true
in_window window n at low high =
    let grown : (n + 1) * window ≡ n * window + 1 * window = add-mul n 1 window in
    eq-eqb (at / window) n (div-eq_of_lt-le window low (omega arith))

after_window : (window n at : ℕ) → 1 ≤ window → n * window + window ≤ at → is_in_window window n at ≡ false
after_window window n at some late =
    let grown : (n + 1) * window ≡ n * window + 1 * window = add-mul n 1 window in
    ne_eqb (at / window) n (λ e. let high = le-div (n + 1) at window some (omega arith) in omega arith)

-- no moment before a window counts in it
won_outside : (window n end : ℕ) (at : ℕ) (what : Happening) → 1 ≤ window → end ≤ n * window → at < end →
    HasBegun at what →
    is_won_from (is_in_window window n) what ≡ false
won_outside window n end at Request some far early began = refl
won_outside window n end at Retry some far early began = refl
won_outside window n end at (Won from) some far early began = before_window window n from some (omega arith)
won_outside window n end at (Failed failure next) some far early began = refl
won_outside window n end at Refused some far early began = refl

outside : (window n end : ℕ) → 1 ≤ window → end ≤ n * window → (m : Moment) → IsBefore end m →
    IsOutside (is_in_window window n) m
outside window n end some far m is = record {
  at = before_window window n m.at some (let early = is.before in omega arith);
  won = won_outside window n end m.at m.what some far is.before is.began;
}

-- the work that was taken before a moment is that before any later one, where nothing is told between
busy_later : (end later : ℕ) (busy : Busy) (told : List Moment) → end ≤ later → All (IsBefore end) told →
    busy_by later busy told ≡ busy_by end busy told
busy_later end later busy [] far before = refl
busy_later end later busy (m ∷ ms) far before =
    let first = All-head (IsBefore end) m ms before in
    let early : m.at < end = first.before in
    let here : nat_lt m.at end ≡ true = lt-ltb m.at end early in
    let there : nat_lt m.at later ≡ true = lt-ltb m.at later (omega arith) in
    ap (λ (b : Bool). busy_by later (if b then m.busy else busy) ms) there
    ∙ (busy_later end later m.busy ms far (All-tail (IsBefore end) m ms before)
    ∙ sym (ap (λ (b : Bool). busy_by end (if b then m.busy else busy) ms) here))

busy_push : (end : ℕ) (busy : Busy) (told : List Moment) (m : Moment) →
    busy_by end busy (told ++ m ∷ []) ≡ (if nat_lt m.at end then m.busy else busy_by end busy told)
busy_push end busy [] m = refl
busy_push end busy (x ∷ xs) m = busy_push end (if nat_lt x.at end then x.busy else busy) xs m

latest_push : (at : ℕ) (told : List Moment) (m : Moment) → latest at (told ++ m ∷ []) ≡ m.at
latest_push at [] m = refl
latest_push at (x ∷ xs) m = latest_push x.at xs m

same_window : (a b : Window) → a.from ≡ b.from → a.counts ≡ b.counts → a.waiting ≡ b.waiting → a ≡ b
same_window a b from counts waiting = λ i. record { from = from i; counts = counts i; waiting = waiting i }

later_before : (end later : ℕ) → end ≤ later → (m : Moment) → IsBefore end m → IsBefore later m
later_before end later far m is = record { before = let early = is.before in omega arith; began = is.began }

-- the fields of a window with what is counted in it
module _ (peer : Peer) (told : List Moment) (old : Tally) (s : Stands peer told old) (w : Window) where
  ended : old.from ≡ vec_len old.windows * old.window → w.from ≡ old.from → w.counts ≡ old.here →
      w.waiting ≡ waiting_at peer old.busy (old.from + old.window) → (n : ℕ) → n ≡ vec_len old.windows →
      w ≡ window_of peer old.window told n
  ended in_line from counts waiting n last =
      let first : n * old.window ≡ old.from = ap (λ k. k * old.window) last ∙ sym in_line in
      let end : n * old.window + old.window ≡ old.from + old.window = ap (λ k. k + old.window) first in
      same_window w (window_of peer old.window told n) (from ∙ sym first)
      (counts ∙ (s.here ∙ ap (λ k. counts_where (is_in_window old.window k) told) (sym last)))
      (waiting ∙ (ap (λ b. waiting_at peer b (old.from + old.window)) s.busy
      ∙ ap (λ e. waiting_at peer (busy_by e none_busy told) e) (sym end)))

-- A window ends: it is one of the windows, and nothing is counted in the next.
module _ (peer : Peer) (told : List Moment) (old new : Tally) (w : Window) (s : Stands peer told old) where
  pub stands_closed : old.from ≡ vec_len old.windows * old.window → 1 ≤ old.window → new.window ≡ old.window →
      new.windows.items ≡ old.windows.items ++ w ∷ [] → vec_len new.windows ≡ vec_len old.windows + 1 →
      new.from ≡ old.from + old.window → new.here ≡ no_counts → new.score ≡ old.score →
      new.took.items ≡ old.took.items →
      new.busy ≡ old.busy → w.from ≡ old.from → w.counts ≡ old.here →
      w.waiting ≡ waiting_at peer old.busy (old.from + old.window) → Stands peer told new
  stands_closed in_line some window items len from here score times busy w_from w_counts w_waiting =
      let end : ℕ = old.from + old.window in
      let later : end ≤ new.from + new.window = omega arith in
      let old_len : length old.windows.items ≡ vec_len old.windows = sym old.windows.ok.0 in
      let next : ℕ = vec_len new.windows in
      let starts : end ≤ next * new.window = let e = in_line_more
      (vec_len old.windows) next old.window old.from len in_line in
      let same : next * new.window ≡ next * old.window = ap (λ k. next * k) window in omega arith in
      record {
        before = All-weaker (IsBefore end) (IsBefore (new.from + new.window)) (later_before end
            (new.from + new.window) later) told s.before;
        windows = λ n d h.
            let at_window : (k : ℕ) → window_of peer old.window told n ≡ window_of peer new.window told n = λ k.
            ap (λ k. window_of peer k told n) (sym window) in
            ap (λ ws. get_or ws n d) items ∙ elim (cases_lt n (vec_len old.windows)) [
              | inl early ↦ get_or_append_left old.windows.items (w ∷ []) d n (let l = old_len in omega arith)
                  ∙ (s.windows n d early ∙ at_window 0)
              | inr late ↦ let last : n ≡ vec_len old.windows = omega arith in
                  get_or_push old.windows.items w d n (old_len ∙ sym last)
                  ∙ (ended peer told old s w in_line w_from w_counts w_waiting n last ∙ at_window 0)
            ];
        here = here ∙ sym (counts_none (is_in_window new.window next) told
            (All-weaker (IsBefore end) (IsOutside (is_in_window new.window next))
            (outside new.window next end (let e = window in omega arith) starts) told s.before));
        score = score ∙ s.score;
        times = times ∙ s.times;
        busy = busy ∙ (s.busy ∙ sym (busy_later end (new.from + new.window) none_busy told later s.before));
      }

-- A window that is over changes only where a request is won that began in it.
ended_before : (peer : Peer) (told : List Moment) (m : Moment) (window n : ℕ) → 1 ≤ window →
    n * window + window ≤ m.at →
    record (window_of peer window told n) {
      counts = credited (is_in_window window n) m.what (counts_where
          (is_in_window window n) told);
    }
    ≡ window_of peer window (told ++ m ∷ []) n
ended_before peer told m window n some past =
    let end : ℕ = n * window + window in
    let busy : busy_by end none_busy told ≡ busy_by end none_busy (told ++ m ∷ []) = sym (busy_push end none_busy told m
    ∙ ap (λ (b : Bool). if b then m.busy else busy_by end none_busy told) (le-ltb m.at end past)) in
    same_window _ (window_of peer window (told ++ m ∷ []) n) refl
    (sym (counts_elsewhere (is_in_window window n) told m.at m.what m.busy (after_window window n m.at some past)))
    (ap (λ b. waiting_at peer b end) busy)

one_or_none : (o : Option ℕ) → cons_option o [] ≡ option_to_list o
one_or_none None = refl
one_or_none (Some x) = refl

times_more : (told : List Moment) (m : Moment) → times_of (told ++ m ∷ [])
    ≡ times_of told ++ option_to_list (time_at m.at m.what)
times_more told m =
    filter_map-append (λ (m : Moment). time_at m.at m.what) told (m ∷ [])
    ∙ ap (λ ts. times_of told ++ ts) (one_or_none (time_at m.at m.what))

-- One moment more is told, of the window that is not over.
module _ (peer : Peer) (told : List Moment) (m : Moment) (old new : Tally) (s : Stands peer told old) where
  pub told_more : old.from ≡ vec_len old.windows * old.window → 1 ≤ old.window → old.from ≤ m.at →
      m.at < old.from + old.window →
      HasBegun m.at m.what → IsNext m old new → AreTold peer (told ++ m ∷ []) new
  told_more in_line some from early began next =
      let k : ℕ = vec_len old.windows in
      let here : is_in_window old.window k m.at ≡ true = in_window old.window k m.at (omega arith) (omega arith) in
      let end_is : new.from + new.window ≡ old.from + old.window = let f = next.from in let w =
      next.window in omega arith in
      let first : IsBefore (new.from + new.window) m = record { before = omega arith; began = began } in
      let all : List Moment = told ++ m ∷ [] in
      let here_is : m.at / old.window ≡ k = eqb-true (m.at / old.window) k here in
      record {
        stands = record {
          before = All-push (IsBefore (new.from + new.window)) told m
              (subst (λ e. All (IsBefore e) told) (sym end_is) s.before) first;
          windows = λ n d h.
              let short : n < k = let l = next.length in omega arith in
              let fits : n * old.window + old.window ≤ k * old.window =
              row_fits n old.window k old.window short (omega arith) in
              next.windows n d short
              ∙ (ap (λ (w : Window). record w { counts = credited (is_in_window old.window n) m.what w.counts })
              (s.windows n d short)
              ∙ (ended_before peer told m old.window n some (omega arith)
              ∙ ap (λ w. window_of peer w all n) (sym next.window)));
          here = next.here
              ∙ (ap (λ c. with_happening m.what (credited (is_in_window old.window k) m.what c)) s.here
              ∙ (sym (counts_here (is_in_window old.window k) told m.at m.what m.busy here)
              ∙ (ap (λ n. counts_where (is_in_window old.window n) all) (sym next.length)
              ∙ ap (λ w. counts_where (is_in_window w (vec_len new.windows)) all) (sym next.window))));
          score = next.score
              ∙ (ap (λ (t : Score). score_after m.what (record t { all = credited always m.what t.all })) s.score
              ∙ sym (score_more told m.at m.what m.busy));
          times = next.times
              ∙ (ap (λ ts. ts ++ option_to_list (time_at m.at m.what)) s.times ∙ sym (times_more told m));
          busy = next.busy ∙ sym (busy_push (new.from + new.window) none_busy told m
              ∙ ap (λ (b : Bool). if b then m.busy else busy_by (new.from + new.window) none_busy told)
              (lt-ltb m.at (new.from + new.window) first.before));
        };
        latest_is = ap (λ t. t / new.window) (latest_push 0 told m)
            ∙ (ap (λ w. m.at / w) next.window ∙ (here_is ∙ sym next.length));
      }

-- The windows that are over and the last one are the windows of what was told.
module _ (peer : Peer) (told : List Moment) (t : Tally) (are : AreTold peer told t) (w : Window) where
  pub windows_are : t.from ≡ vec_len t.windows * t.window → w.from ≡ t.from → w.counts ≡ t.here →
      w.waiting ≡ waiting_at peer t.busy (t.from + t.window) → t.windows.items ++ w ∷ [] ≡ windows_of peer t.window told
  windows_are in_line from counts waiting =
      let len : length t.windows.items ≡ vec_len t.windows = sym t.windows.ok.0 in
      let all : length (t.windows.items ++ w ∷ []) ≡ latest 0 told / t.window + 1 =
      length_push t.windows.items w ∙ ap (λ n. n + 1) (len ∙ sym are.latest_is) in
      fill_by_all (window_of peer t.window told) (t.windows.items ++ w ∷ []) (latest 0 told / t.window + 1) w all
      (λ k h.
      elim (cases_lt k (vec_len t.windows)) [
        | inl early ↦ get_or_append_left t.windows.items (w ∷ []) w k (let l =
            len in omega arith) ∙ are.stands.windows k w early
        | inr late ↦ let last : k ≡ vec_len t.windows = let e = are.latest_is in omega arith in
            get_or_push t.windows.items w w k (len ∙ sym last)
            ∙ ended peer told t are.stands w in_line from counts waiting k last
      ])
