-- What holds of a quota between any two atomic steps, of its words and of the views of all its passes.
use Rattle.std.specs.Prelude.{◌≡◌, ℕ, Bool, ◌+◌, ◌-◌, ◌/◌, ◌<◌, ◌≤◌, List, [], length, slice_index, if◌then◌else◌}
use Rattle.std.specs.Prelude.{nat_lt}
use mathlib.Core.Option.{some}
use lib.ListN.{get_elem?}
use Rattle.atomic_table.specs.Table.{State}
use Rattle.sched_ticket.specs.Lists.{total, below, times, is}
use Rattle.sched_ticket_quota.specs.Windows.{window_of, first_of, word_of, terms_of, AllowNoMore, ShareNoMore}
use Rattle.sched_ticket_quota.specs.Windows.{own_numbers, late_numbers, within, count_in}
use Rattle.sched_ticket_quota.specs.declared.view.Terms.{Terms}
use Rattle.sched_ticket_quota.specs.declared.view.View.{View}

-- what the tickets weigh that were dealt to a pass, those that it handed back too, and its requests
abbrev pub ticket_weight : (ℕ → ℕ) → View → ℕ
ticket_weight h v = total h v.tickets + total h v.returned

abbrev pub request_weight : (ℕ → ℕ) → View → ℕ
request_weight h v = total h v.requests

-- how many tickets of a window all passes have, how many they handed back, and how many requests of it they counted
abbrev pub tickets_in : List View → ℕ → ℕ
tickets_in views w = total (λ (v : View). count_in w v.tickets) views

abbrev pub returned_in : List View → ℕ → ℕ
returned_in views w = total (λ (v : View). count_in w v.returned) views

abbrev pub requests_in : List View → ℕ → ℕ
requests_in views w = total (λ (v : View). count_in w v.requests) views

-- how many tickets of a window were dealt, and how many of these in the next
abbrev pub dealt_in : List View → ℕ → ℕ
dealt_in views w = tickets_in views w + returned_in views w

abbrev pub late_in : Bool → List View → ℕ → ℕ
late_in c views w = total (ticket_weight (within (first_of w + own_numbers c) (late_numbers c))) views

-- the parts that all views stand for
abbrev pub weights : List View → ℕ
weights views = total (λ (v : View). v.weight) views

-- the parts of a pass that may yet count a request
abbrev pub may_count : View → ℕ
may_count v = if nat_lt v.told 12884901888000000000 then v.weight else 0

-- how often the passes opened the window of this first number
abbrev pub openings : List View → ℕ → ℕ
openings views first = total (λ (v : View). times first v.opened) views

-- how often terms were in force, by their word: made with, or set by a pass
abbrev pub in_force : Terms → List View → ℕ → ℕ
in_force k views x = is x (word_of k.reserve k.share) + total (λ (v : View). times x v.changes) views

-- terms were in force: the quota was made with them, or a pass has set them
abbrev pub WereInForce : Terms → List View → Terms → Type 0
WereInForce k views j = (x : ℕ) × (0 < in_force k views x) × (j ≡ terms_of k x)

-- how often a window was begun: opened by a call, or by the requests past the 4294967296 of the window before
abbrev pub begins : List View → ℕ → ℕ
begins views w = openings views (first_of w) + requests_in views (w - 1) / 4294967296

-- The tickets are numbers below `drawn`, each once, and all numbers from the latest window on. Before its first number
-- there may be those of tickets carried to it.
pub record IsDealt (c : Bool) (drawn window : ℕ) (views : List View) : Type 0 where
  pub once : (h : ℕ → ℕ) → total (ticket_weight h) views ≤ below h drawn
  pub all : (h : ℕ → ℕ) → below h drawn ≤ below h (first_of window) + total (ticket_weight h) views
  pub from : first_of window ≤ drawn + late_numbers c
  pub to : drawn ≤ first_of window + own_numbers c
  pub begun : 0 < window → first_of window < drawn + late_numbers c

-- draws have come to the tickets that a window carries to the next
abbrev pub AreLate : Bool → ℕ → ℕ → Type 0
AreLate c drawn w = (first_of w + own_numbers c < drawn) × (drawn ≤ first_of (w + 1))

-- what terms in force allow each window to give, and to carry to the next
pub record IsGiven (k : Terms) (c : Bool) (drawn : ℕ) (views : List View) : Type 0 where
  -- of a window no more were dealt than they allow for its requests, and one for each that was handed back
  pub windows : (w n : ℕ) → AllowNoMore k (in_force k views) (requests_in views w) n →
      dealt_in views w ≤ n + returned_in views w
  -- in the next, no more than the share
  pub shares : (w n : ℕ) → ShareNoMore k (in_force k views) (requests_in views w) n → late_in c views w ≤ n
  -- the same with those that are yet to be drawn there
  pub windows_yet : (w n : ℕ) → AreLate c drawn w → AllowNoMore k (in_force k views) (requests_in views w) n →
      dealt_in views w + (first_of (w + 1) - drawn) ≤ n + returned_in views w
  pub shares_yet : (w n : ℕ) → AreLate c drawn w → ShareNoMore k (in_force k views) (requests_in views w) n →
      late_in c views w + (first_of (w + 1) - drawn) ≤ n
  -- which was begun
  pub begun : (w : ℕ) → AreLate c drawn w → 0 < w → 0 < begins views w

-- the requests are numbers below `asked`, each once, and all numbers from the window on that was opened last
pub record IsCounted (asked window : ℕ) (views : List View) : Type 0 where
  pub once : (h : ℕ → ℕ) → total (request_weight h) views ≤ below h asked
  pub all : (h : ℕ → ℕ) → below h asked ≤ below h (first_of window) + total (request_weight h) views
  pub from : first_of window ≤ asked
  pub opened : 0 < window → 0 < openings views (first_of window)
  -- 2^62 more than the numbers of all windows
  pub small : asked + total may_count views ≤ 17496587906427387904

-- as many requests were counted in a window, or tickets handed back, as a pass has seen there
abbrev pub IsSeen : (ℕ → ℕ) → ℕ → Type 0
IsSeen requests q = q ≤ first_of (window_of q) + requests (window_of q)

-- as many requests were counted in a window that was begun as are noted for the next
pub record IsNoted (views : List View) (p : ℕ) : Type 0 where
  pub counted : IsSeen (λ w. requests_in views (w - 1)) p
  pub begun : 1 < window_of p → 0 < begins views (window_of p - 1)

-- as many tickets were dealt in a window as a pass has found there
abbrev pub IsFound : Bool → (ℕ → ℕ) → ℕ → Type 0
IsFound c tickets d = (w : ℕ) → first_of w < d → d ≤ first_of w + own_numbers c → d ≤ first_of w + tickets w

-- the words of a quota, with the window of the last ticket and the one that was opened last
pub record Words : Type 0 where
  pub drawn : ℕ
  pub window : ℕ
  pub asked : ℕ
  pub latest : ℕ
  pub current : ℕ
  pub back : ℕ
  pub past : ℕ
  -- whether the quota carries
  pub carries : Bool

-- one view fits the words, and what all views have of each window
pub record Fits (k : Terms) (x : Words) (views : List View) (v : View) : Type 0 where
  pub seen : v.seen ≤ x.asked
  pub counted : IsSeen (requests_in views) v.seen
  pub begun : 0 < window_of v.seen → 0 < begins views (window_of v.seen)
  pub found : v.found ≤ x.drawn
  pub given : IsFound v.carries (dealt_in views) v.found
  pub back : v.back ≤ x.back
  pub came_back : IsSeen (returned_in views) v.back
  pub past : IsNoted views v.past
  pub noted : v.noted ≤ x.past
  pub live : 0 < v.weight → v.terms ≡ k
  pub kind : 0 < v.weight → v.carries ≡ x.carries
  -- the terms that it has read were in force
  pub force : 0 < v.weight → 0 < in_force k views v.current
  -- one that stands for no part has nothing
  pub spent : v.weight ≡ 0 →
      (v.tickets ≡ []) × (v.requests ≡ []) × (v.opened ≡ []) × (v.changes ≡ []) × (v.returned ≡ [])

-- the words and the views fit together
pub record IsOrderly (k : Terms) (x : Words) (views : List View) : Type 0 where
  pub known : k.share ≤ 1000000
  pub dealt : IsDealt x.carries x.drawn x.window views
  pub given : IsGiven k x.carries x.drawn views
  pub counted : IsCounted x.asked x.latest views
  -- no ticket is of a window that was not begun
  pub behind : first_of x.window ≤ x.asked
  pub entered : (w : ℕ) → 0 < w → 0 < tickets_in views w → 0 < begins views w
  pub force : 0 < in_force k views x.current
  -- as many tickets were handed back as their word says
  pub came_back : IsSeen (returned_in views) x.back
  pub few_back : x.back ≤ 17496587910722355200
  -- as many requests were counted in the window before as are noted
  pub noted : IsNoted views x.past
  pub parts : weights views ≡ 4611686018427387904
  pub each : (by : ℕ) (v : View) → get_elem? views by ≡ some v → Fits k x views v

-- the words of a quota's table: the draws lie 16 before the requests, those that came back beside the draws, and beside
-- the requests the terms and the requests of the window before
abbrev pub drawn_of : State ℕ View → ℕ
drawn_of s = slice_index s.words 8

abbrev pub asked_of : State ℕ View → ℕ
asked_of s = slice_index s.words 24

abbrev pub current_of : State ℕ View → ℕ
current_of s = slice_index s.words 25

abbrev pub back_of : State ℕ View → ℕ
back_of s = slice_index s.words 9

abbrev pub past_of : State ℕ View → ℕ
past_of s = slice_index s.words 26

abbrev pub words_of : State ℕ View → ℕ → ℕ → Bool → Words
words_of s window latest carries = record {
  drawn = drawn_of s;
  window = window;
  asked = asked_of s;
  latest = latest;
  current = current_of s;
  back = back_of s;
  past = past_of s;
  carries = carries;
}

-- the rule of a quota's table
pub record IsKept (k : Terms) (s : State ℕ View) : Type 0 where
  -- the window of the last ticket, and the one that was opened last
  pub window : ℕ
  pub latest : ℕ
  -- whether a window may draw what the one before left of its share
  pub carries : Bool
  pub long : length s.words ≡ 32
  pub orderly : IsOrderly k (words_of s window latest carries) s.views
