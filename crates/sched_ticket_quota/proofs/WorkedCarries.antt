-- A worked example, computed with the definitions alone: what a window carries to the next, of a quota whose reserve is
-- two tickets and whose requests add half a ticket each. Window 0 had ten requests: it may give seven tickets, five of
-- them of its share.
use Rattle.std.proofs.Common.{◌≡◌, ℕ, true, false, refl}
use Rattle.sched_ticket_quota.specs.Windows.{first_of, carried_to, drawn_at}
use Rattle.sched_ticket_quota.specs.View.{first_of_kind, next_ticket}
use Rattle.sched_ticket_quota.specs.declared.view.Terms.{Terms}
use Rattle.sched_ticket_quota.specs.declared.view.View.{View}

abbrev k : Terms
k = record { reserve = 2; share = 500; period = 100 }

-- window 1 is open, and the ten requests are noted for it
abbrev left_after : ℕ → ℕ
left_after d = carried_to true k 4294967296 4294967306 d

-- where window 0 gave none, its reserve is lost
pub none_given : left_after 0 ≡ 5
none_given = refl

pub two_given : left_after 2 ≡ 5
two_given = refl

pub three_given : left_after 3 ≡ 4
three_given = refl

pub seven_given : left_after 7 ≡ 0
seven_given = refl

-- the four are drawn one after the other, and then the window's own
abbrev pass_at : ℕ → View
pass_at d = record (first_of_kind true k) { seen = 4294967296; past = 4294967306; found = d }

pub first_carried : next_ticket (pass_at 3) ≡ 4294967292
first_carried = refl

pub second_carried : next_ticket (pass_at 4294967293) ≡ 4294967293
second_carried = refl

pub first_own : next_ticket (pass_at 4294967296) ≡ 4294967296
first_own = refl

pub drawn_in_one : drawn_at true 4294967292 ≡ 1
drawn_in_one = refl

pub drawn_in_none : drawn_at true 2 ≡ 0
drawn_in_none = refl

-- window 1 draws one of the four, and has no request of its own: window 2 is carried nothing
pub not_twice : carried_to true k (first_of 2) (first_of 2) 4294967293 ≡ 0
not_twice = refl

-- nor where window 1 was never open, and so noted nothing
pub after_an_idle_one : carried_to true k (first_of 2) 4294967306 3 ≡ 0
after_an_idle_one = refl

-- nor any window of a quota that does not carry
pub none_carried : carried_to false k 4294967296 4294967306 3 ≡ 0
none_carried = refl
