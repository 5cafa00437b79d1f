-- The window that ends is one of the windows.
use Rattle.std.proofs.Common.{◌≡◌, ℕ, ◌+◌, ◌*◌, ◌^◌, ◌<◌, ◌≤◌, List, [], ◌∷◌, ◌++◌, All, sum_by, ap, arith}
use native.Mathlib.Nat.{add-mul}
use Rattle.std.proofs.lemmas.List.Sums.{sum_by_push, get_or-le-sum_by}
use Rattle.sched_storm_report.specs.Counts.{no_counts, calls_in, AddUpTo}
use Rattle.sched_storm_report.specs.declared.counts.Counts.{Counts}
use Rattle.sched_storm_report.specs.declared.tally.Window.{Window}

-- one count of the windows with that of one window more
more : (f : Window → ℕ) (windows : List Window) (w : Window) (here all : ℕ) → f w ≡ here →
    sum_by f windows + here ≡ all → sum_by f (windows ++ w ∷ []) + 0 ≡ all
more f windows w here all same sums = let e = sum_by_push f windows w in omega arith

-- the window that is not over yet is one of the windows, and nothing is counted after it
pub pushed : (windows : List Window) (w : Window) (here all : Counts) → w.counts ≡ here → AddUpTo windows here all →
    AddUpTo (windows ++ w ∷ []) no_counts all
pushed windows w here all same sums = record {
  requests = more (λ w. w.counts.requests) windows w here.requests all.requests (ap (λ
      (c : Counts). c.requests) same) sums.requests;
  won = more (λ w. w.counts.won) windows w here.won all.won (ap (λ (c : Counts). c.won) same) sums.won;
  retries = more (λ w. w.counts.retries) windows w here.retries all.retries (ap (λ
      (c : Counts). c.retries) same) sums.retries;
  succeeded = more (λ w. w.counts.succeeded) windows w here.succeeded all.succeeded (ap (λ
      (c : Counts). c.succeeded) same) sums.succeeded;
  refused = more (λ w. w.counts.refused) windows w here.refused all.refused (ap (λ
      (c : Counts). c.refused) same) sums.refused;
  shed = more (λ w. w.counts.shed) windows w here.shed all.shed (ap (λ (c : Counts). c.shed) same) sums.shed;
  late = more (λ w. w.counts.late) windows w here.late all.late (ap (λ (c : Counts). c.late) same) sums.late;
}

-- no window has more calls than there are
pub few_calls : (windows : List Window) (here all : Counts) (most : ℕ) → AddUpTo windows here all →
    all.requests ≤ most →
    all.retries ≤ most → most ≤ 1099511627776 → All (λ (w : Window). calls_in w.counts < 2 ^ 64) windows
few_calls windows here all most sums requests retries few = λ k d short.
    let r = get_or-le-sum_by (λ (w : Window). w.counts.requests) windows k d short in
    let t = get_or-le-sum_by (λ (w : Window). w.counts.retries) windows k d short in
    let rs = sums.requests in
    let ts = sums.retries in
    omega arith

-- the first moment of the next window
pub in_line_more : (n m w from : ℕ) → m ≡ n + 1 → from ≡ n * w → from + w ≡ m * w
in_line_more n m w from e h =
    let same : m * w ≡ (n + 1) * w = ap (λ x. x * w) e in
    let grown : (n + 1) * w ≡ n * w + 1 * w = add-mul n 1 w in
    omega arith
