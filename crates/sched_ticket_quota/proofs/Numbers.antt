-- Numbers within windows, and what a window may give.
use Rattle.std.proofs.Common.{◌≡◌, ◌≢◌, ℕ, zero, suc, ◌+◌, ◌-◌, ◌*◌, ◌/◌, ◌%◌, ◌<◌, ◌≤◌, min, Bool, true, false, cond}
use Rattle.std.proofs.Common.{lt-ltb, le-ltb, eq-eqb, ne_eqb, refl, sym, ap, ◌∙◌, subst, arith, lt_of_not-le}
use Rattle.std.proofs.Math.Nat.{div-mul-le_self, mul-le-mul_left, mul-le-mul_right, div-zero}
use Rattle.std.proofs.lemmas.Nat.{le-div}
use mathlib.Core.Logic.{dite}
use native.Mathlib.Decide.{ℕ_discrete, dec_le}
use Rattle.sched_ticket.specs.Lists.{total, below, is}
use Rattle.sched_ticket.proofs.Sums.{once_below-yes, once_below-no, is-other}
use Rattle.sched_ticket_quota.specs.Windows.{window_of, first_of, window_at, word_of, terms_of, back_in, AllowNoMore}
use Rattle.sched_ticket_quota.specs.Windows.{ShareNoMore, allowed, own_numbers, late_numbers, left_of, carried_to}
use Rattle.sched_ticket_quota.specs.Windows.{drawn_at, within}
use Rattle.sched_ticket_quota.specs.View.{numbers}
use Rattle.sched_ticket_quota.specs.Rule.{IsSeen}
use Rattle.sched_ticket_quota.specs.declared.view.Terms.{Terms}

pub within-yes : (a n x : ℕ) → a ≤ x → x < a + n → within a n x ≡ 1
within-yes a n x from to = omega (arith, once_below-yes x (a + n) to, once_below-no x a from)

pub within-low : (a n x : ℕ) → x < a → within a n x ≡ 0
within-low a n x low = omega (arith, once_below-yes x (a + n) (omega arith), once_below-yes x a low)

pub within-high : (a n x : ℕ) → a + n ≤ x → within a n x ≡ 0
within-high a n x high = omega (arith, once_below-no x (a + n) high)

-- a number of another window
pub within-other : (w t : ℕ) → w ≢ window_of t → within (first_of w) 4294967296 t ≡ 0
within-other w t other = dite (dec_le w (window_of t))
    (λ low. within-high (first_of w) 4294967296 t (omega (arith, low, other)))
    (λ not. within-low (first_of w) 4294967296 t (omega (arith, lt_of_not-le not)))

-- how many of the numbers below d are within
pub below-within : (a n d : ℕ) → below (within a n) d ≡ min (d - a) n
below-within a n zero = omega arith
below-within a n (suc d) = dite (dec_le (a + n) d)
    (λ high. omega (arith, below-within a n d, within-high a n d high))
    (λ not-high. dite (dec_le a d)
    (λ from. omega (arith, below-within a n d, within-yes a n d from (lt_of_not-le not-high)))
    (λ not. let low : d < a = lt_of_not-le not in omega (arith, below-within a n d, within-low a n d low)))

pub below-mono : (h : ℕ → ℕ) (d e : ℕ) → d ≤ e → below h d ≤ below h e
below-mono h d zero le = let none : d ≡ 0 = omega arith in subst (λ (n : ℕ). below h n ≤ 0) (sym none) (omega arith)
below-mono h d (suc e) le = dite (dec_le d e)
    (λ less. omega (arith, below-mono h d e less))
    (λ not. let same : d ≡ suc e = omega (arith, lt_of_not-le not) in omega (arith, ap (below h) same))

-- the numbers below q and n numbers from q on
pub below-numbers : (h : ℕ → ℕ) (q n : ℕ) → below h (q + n) ≡ below h q + total h (numbers q n)
below-numbers h q zero = let none : q + 0 ≡ q = omega arith in omega (arith, ap (below h) none)
below-numbers h q (suc n) = let next : q + suc n ≡ suc (q + n) = omega arith in
    omega (arith, ap (below h) next, below-numbers h q n)

-- more requests have no smaller share, and allow no fewer tickets
pub share-mono : (share n m : ℕ) → n ≤ m → (share * n) / 1000 ≤ (share * m) / 1000
share-mono share n m le =
    let up : share * n ≤ share * m = mul-le-mul_left share le in
    let down : (share * n) / 1000 * 1000 ≤ share * n = div-mul-le_self (share * n) 1000 in
    le-div ((share * n) / 1000) (share * m) 1000 (omega arith) (omega arith)

pub allowed-mono : (k : Terms) (n m : ℕ) → n ≤ m → allowed k n ≤ allowed k m
allowed-mono k n m le = omega (arith, share-mono k.share n m le)

-- a moment no later is in no later window
pub window_at-mono : (k : Terms) (start n m : ℕ) → n ≤ m → window_at k start n ≤ window_at k start m
window_at-mono k start n m le = dite (dec_le 1 k.period)
    (λ some-period.
    let down : n / k.period * k.period ≤ n = div-mul-le_self n k.period in
    let less : n / k.period ≤ m / k.period = le-div (n / k.period) m k.period some-period (omega arith) in
    omega arith)
    (λ not.
    let none : k.period ≡ 0 = omega arith in
    let zero-is : n / k.period ≡ 0 = ap (λ (p : ℕ). n / p) none ∙ div-zero n in
    omega arith)

-- the terms of the word of these terms allow as much
pub allowed-word : (k : Terms) (n : ℕ) → k.share ≤ 1000000
    → allowed (terms_of k (word_of k.reserve k.share)) n ≡ allowed k n
allowed-word k n known =
    let x : ℕ = word_of k.reserve k.share in
    let reserve : x / 1048576 ≡ k.reserve = omega arith in
    let share : x % 1048576 ≡ k.share = omega arith in
    ap (λ (a : ℕ). min (a + ((x % 1048576) * n) / 1000) 4294967296) reserve
    ∙ ap (λ (a : ℕ). min (k.reserve + (a * n) / 1000) 4294967296) share

-- no more were handed back than as many as there were
pub back_in-le : (r w : ℕ) (returned : ℕ → ℕ) → IsSeen returned r → back_in r w ≤ returned w
back_in-le r w returned came_back = dite (ℕ_discrete (window_of r) w)
    (λ same.
    let n : back_in r w ≡ r % 4294967296 = ap (λ b. cond b (r % 4294967296) 0) (eq-eqb (window_of r) w same) in
    omega (arith, n, subst (λ (y : ℕ). r ≤ first_of y + returned y) same came_back))
    (λ other. omega (arith, ap (λ b. cond b (r % 4294967296) 0) (ne_eqb (window_of r) w other)))

-- which is the word of no other
pub only-word : (k : Terms) (x n : ℕ) → k.share ≤ 1000000 → 0 < is x (word_of k.reserve k.share)
    → allowed (terms_of k x) n ≡ allowed k n
only-word k x n known some-word = dite (ℕ_discrete (word_of k.reserve k.share) x)
    (λ same. subst (λ (y : ℕ). allowed (terms_of k y) n ≡ allowed k n) same (allowed-word k n known))
    (λ other. absurd (omega (arith, is-other x (word_of k.reserve k.share) other)))

-- what no terms pass that have no more reserve and share
pub allow-most : (k : Terms) (force : ℕ → ℕ) (reserve share n : ℕ)
    → ((x : ℕ) → 0 < force x → (x / 1048576 ≤ reserve) × (x % 1048576 ≤ share))
    → AllowNoMore k force n (reserve + (share * n) / 1000)
allow-most k force reserve share n most x some-force =
    let m = most x some-force in
    let less : x % 1048576 ≤ share = m.1 in
    let up : (x % 1048576) * n ≤ share * n = mul-le-mul_right n less in
    let down : ((x % 1048576) * n) / 1000 * 1000 ≤ (x % 1048576) * n = div-mul-le_self ((x % 1048576) * n) 1000 in
    let shares : ((x % 1048576) * n) / 1000 ≤ (share * n) / 1000 =
    le-div (((x % 1048576) * n) / 1000) (share * n) 1000 (omega arith) (omega arith) in
    omega (arith, m.0)

-- bounds stay bounds where fewer requests were counted, and fewer terms were in force
pub allow-less : (k : Terms) (force force' : ℕ → ℕ) (r r' n : ℕ) → r ≤ r' → ((x : ℕ) → force x ≤ force' x)
    → AllowNoMore k force' r' n → AllowNoMore k force r n
allow-less k force force' r r' n less fewer most x some-force =
    omega (arith, most x (omega (arith, some-force, fewer x)), allowed-mono (terms_of k x) r r' less)

pub share-less : (k : Terms) (force force' : ℕ → ℕ) (r r' n : ℕ) → r ≤ r' → ((x : ℕ) → force x ≤ force' x)
    → ShareNoMore k force' r' n → ShareNoMore k force r n
share-less k force force' r r' n less fewer most x some-force =
    omega (arith, most x (omega (arith, some-force, fewer x)), share-mono (x % 1048576) r r' less)

-- a window's own numbers and those carried to the next are all that it has
pub both-numbers : (c : Bool) → own_numbers c + late_numbers c ≡ 4294967296
both-numbers true = refl
both-numbers false = refl

-- a ticket is drawn in no window before one whose numbers, or those of tickets carried to it, it has come to
pub drawn-late : (c : Bool) (t n : ℕ) → first_of n ≤ t + late_numbers c → n ≤ drawn_at c t
drawn-late true t n late = omega (arith, late)
drawn-late false t n late = omega (arith, late)

pub drawn-early : (c : Bool) (t n : ℕ) → t + late_numbers c < first_of n → drawn_at c t < n
drawn-early true t n early = omega (arith, early)
drawn-early false t n early = omega (arith, early)

-- a quota that has numbers for those carries
pub late-carries : (c : Bool) → 0 < late_numbers c → c ≡ true
late-carries true some = refl
late-carries false some = absurd (omega (arith, some))

-- none has more of a share than the greatest
pub share-most : (k : Terms) (force : ℕ → ℕ) (share n : ℕ) → ((x : ℕ) → 0 < force x → x % 1048576 ≤ share)
    → ShareNoMore k force n ((share * n) / 1000)
share-most k force share n most x some-force =
    let up : (x % 1048576) * n ≤ share * n = mul-le-mul_right n (most x some-force) in
    let down : ((x % 1048576) * n) / 1000 * 1000 ≤ (x % 1048576) * n = div-mul-le_self ((x % 1048576) * n) 1000 in
    le-div (((x % 1048576) * n) / 1000) (share * n) 1000 (omega arith) (omega arith)

-- what is carried where draws have come to it, and where they have not
pub carried-late : (k : Terms) (q past d : ℕ) → first_of (window_of q) - d < 2147483648
    → carried_to true k q past d ≡ first_of (window_of q) - d
carried-late k q past d near =
    ap (λ b.
    cond b (first_of (window_of q) - d) (left_of k (back_in past (window_of q)) (d - first_of (window_of q - 1))))
    (lt-ltb (first_of (window_of q) - d) 2147483648 near)

pub carried-first : (k : Terms) (q past d : ℕ) → 2147483648 ≤ first_of (window_of q) - d
    → carried_to true k q past d ≡ left_of k (back_in past (window_of q)) (d - first_of (window_of q - 1))
carried-first k q past d far =
    ap (λ b.
    cond b (first_of (window_of q) - d) (left_of k (back_in past (window_of q)) (d - first_of (window_of q - 1))))
    (le-ltb (first_of (window_of q) - d) 2147483648 far)

-- no more than there are numbers for
pub few-carried : (c : Bool) (k : Terms) (q past d : ℕ) → carried_to c k q past d ≤ late_numbers c
few-carried false k q past d = omega arith
few-carried true k q past d = dite (dec_le 2147483648 (first_of (window_of q) - d))
    (λ far. omega (arith, carried-first k q past d far))
    (λ not. let near : first_of (window_of q) - d < 2147483648 = lt_of_not-le not in
    omega (arith, carried-late k q past d near, near))
