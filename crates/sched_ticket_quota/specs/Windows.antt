-- Windows of time, and how many tickets one may give.
use Rattle.std.specs.Prelude.{ℕ, zero, suc, Bool, true, false, ◌+◌, ◌-◌, ◌*◌, ◌/◌, ◌%◌, ◌<◌, ◌≤◌, min, List}
use Rattle.std.specs.Prelude.{if◌then◌else◌, ◌==◌, nat_lt}
use Rattle.sched_ticket.specs.Lists.{total, is, once_below}
use Rattle.sched_ticket_quota.specs.declared.view.Terms.{Terms}

-- a reserve and a share in one word
abbrev pub word_of : ℕ → ℕ → ℕ
word_of reserve share = reserve * 1048576 + share

-- the terms of such a word, with the period of these
abbrev pub terms_of : Terms → ℕ → Terms
terms_of k x = record k { reserve = x / 1048576; share = x % 1048576 }

-- the window of a ticket's or a request's number: each has 4294967296 numbers
abbrev pub window_of : ℕ → ℕ
window_of n = n / 4294967296

-- a window's first number
abbrev pub first_of : ℕ → ℕ
first_of w = w * 4294967296

-- the window of a moment: a quota's are counted from the one that it was made in, so many periods after moment 0, and
-- 2999999999 is the last
abbrev pub window_at : Terms → ℕ → ℕ → ℕ
window_at k start now = min (now / k.period - start) 2999999999

-- the moment from which on a call opens a later window. The last does not end before the last moment.
abbrev pub end_of : Terms → ℕ → ℕ → ℕ
end_of k start w =
    if nat_lt w 2999999999 then min ((start + w + 1) * k.period) 4611686018427387903 else 4611686018427387903

-- the tickets that a window of n requests may give, at most 4294967296
abbrev pub allowed : Terms → ℕ → ℕ
allowed k n = min (k.reserve + (k.share * n) / 1000) 4294967296

-- each of the terms in force, of which `force` tells how often each word was set, allows at most n tickets for so many
-- requests
abbrev pub AllowNoMore : Terms → (ℕ → ℕ) → ℕ → ℕ → Type 0
AllowNoMore k force requests n = (x : ℕ) → 0 < force x → allowed (terms_of k x) requests ≤ n

-- none of the terms in force has a share of more than n tickets for so many requests
abbrev pub ShareNoMore : Terms → (ℕ → ℕ) → ℕ → ℕ → Type 0
ShareNoMore k force requests n = (x : ℕ) → 0 < force x → ((terms_of k x).share * requests) / 1000 ≤ n

-- what a word counts of a window: tickets that were handed back there, or requests of the window before
abbrev pub back_in : ℕ → ℕ → ℕ
back_in r w = if window_of r == w then r % 4294967296 else 0

-- how many of a window's numbers are of tickets that are drawn there
abbrev pub own_numbers : Bool → ℕ
own_numbers true = 2147483648
own_numbers false = 4294967296

-- and how many, after those, of tickets of its share that the next window draws, of a quota that carries
abbrev pub late_numbers : Bool → ℕ
late_numbers true = 2147483648
late_numbers false = 0

-- how many numbers of its own the latest window may deal: so many tickets as its requests allow, and one for each that
-- was handed back
abbrev pub room_of : Bool → Terms → ℕ → ℕ → ℕ
room_of c k q r = min (allowed k (q % 4294967296) + back_in r (window_of q)) (own_numbers c)

-- where they end
abbrev pub floor_of : Bool → Terms → ℕ → ℕ → ℕ
floor_of c k q r = first_of (window_of q) + room_of c k q r

-- what a window of n requests that has dealt so many tickets leaves of its share: what it might still give, and no more
-- than the share
abbrev pub left_of : Terms → ℕ → ℕ → ℕ
left_of k n dealt = min (min ((k.share * n) / 1000) (allowed k n - dealt)) 2147483648

-- How many tickets the latest window may draw of the share of the one before, by the words of the requests q, of those
-- of the window before, and of the draws d. They have the last numbers before the window's first: once it has drawn
-- one, those from d on are left, and until then as many as the window before leaves.
abbrev pub carried_to : Bool → Terms → ℕ → ℕ → ℕ → ℕ
carried_to false k q past d = 0
carried_to true k q past d =
    let a = first_of (window_of q) in
    if nat_lt (a - d) 2147483648 then a - d else left_of k (back_in past (window_of q)) (d - first_of (window_of q - 1))

-- 1 for each of the n numbers from a on
abbrev pub within : ℕ → ℕ → ℕ → ℕ
within a n x = once_below x (a + n) - once_below x a

-- how many of the numbers are of a window
abbrev pub count_in : ℕ → List ℕ → ℕ
count_in w xs = total (within (first_of w) 4294967296) xs

-- how many are of its share and drawn in the next
abbrev pub count_late : Bool → ℕ → List ℕ → ℕ
count_late c w xs = total (within (first_of w + own_numbers c) (late_numbers c)) xs

-- the window in which a ticket is drawn: its own, or where it is carried the one after
abbrev pub drawn_at : Bool → ℕ → ℕ
drawn_at false t = window_of t
drawn_at true t = window_of (t + 2147483648)

-- how many of the tickets are drawn in a window
abbrev pub count_drawn : Bool → ℕ → List ℕ → ℕ
count_drawn c w xs = total (λ t. is w (drawn_at c t)) xs

-- f of the window before, if there is one, of a quota that carries
abbrev pub before : Bool → (ℕ → ℕ) → ℕ → ℕ
before false f w = 0
before true f zero = 0
before true f (suc w) = f w
