-- A worked example, computed with the definitions alone: the calls of two passes of a quota whose reserve is one ticket
-- each 100 ms. Between the moments 99 and 100 there are two windows; a call under way, whose clock is at 5000, opens a
-- third, in which the other pass draws. So three tickets are drawn, and as many are allowed.
use Rattle.std.proofs.Common.{◌≡◌, ℕ, ◌+◌, ◌-◌, ◌*◌, ◌/◌, ◌<◌, List, [], ◌∷◌, inl, inr, refl, false, arith}
use Rattle.std.proofs.lemmas.Bool.{false≢true}
use Rattle.atomic_table.specs.Seated.{TableId}
use Rattle.sched_ticket.specs.Lists.{total}
use Rattle.sched_ticket_quota.specs.Windows.{terms_of, floor_of, before}
use Rattle.sched_ticket_quota.specs.View.{first_view, with_reading, with_opening, with_ticket, next_ticket}
use Rattle.sched_ticket_quota.specs.View.{without_part, part_of}
use Rattle.sched_ticket_quota.specs.Rule.{requests_in}
use Rattle.sched_ticket_quota.specs.Steps.{IsLater}
use Rattle.sched_ticket_quota.specs.Held.{Name}
use Rattle.sched_ticket_quota.specs.Calls.{Turned, Tried, HasReviewed}
use Rattle.sched_ticket_quota.specs.Clocks.{Called, over}
use Rattle.sched_ticket_quota.specs.Histories.{Call, call_of, Made, begins_first, has_called, is_calling, gives_part}
use Rattle.sched_ticket_quota.specs.Histories.{begins_as_part, AreMade, drawn_from, opened_after}
use Rattle.sched_ticket_quota.specs.declared.view.Terms.{Terms}
use Rattle.sched_ticket_quota.specs.declared.view.View.{View}

abbrev k : Terms
k = record { reserve = 1; share = 0; period = 100 }

-- one pass, as it begins, after it has looked for its first ticket, and after it drew it
abbrev one : View
one = without_part (first_view k)

abbrev one_at_99 : View
one_at_99 = with_ticket (record one { readings = 1; glances = 1; recalls = 1; looks = 1 }) 0

-- at moment 100 it opens the window 1, and draws there
abbrev one_turned : View
one_turned = with_opening (with_reading one_at_99 0) 4294967296 4294967296

abbrev one_at_100 : View
one_at_100 = with_ticket (record one_turned { readings = 3; glances = 2; recalls = 2; looks = 2 }) 4294967296

-- the other pass opens the window 50, and its call goes on
abbrev other : View
other = part_of (first_view k)

abbrev other_at_5000 : View
other_at_5000 = with_opening (with_reading other 4294967296) 214748364800 214748364800

-- at moment 101 the first draws in that window
abbrev one_at_101 : View
one_at_101 =
    with_ticket (record one_at_100 { seen = 214748364800; readings = 4; glances = 3; recalls = 3; looks = 3 })
    214748364800

abbrev calls : List (List Call)
calls =
    (call_of 101 one_at_100 one_at_101 ∷ call_of 100 one_at_99 one_at_100 ∷ call_of 99 one one_at_99 ∷ [])
    ∷ (call_of 5000 other other_at_5000 ∷ []) ∷ []

abbrev views : List View
views = one_at_101 ∷ other_at_5000 ∷ []

module _ (table : TableId) where
  abbrev quota : Name
  quota = record { table = table; terms = k; start = 0; carries = false }

  drawn : (now : ℕ) (v u tried : View) → Turned quota now v u → Tried u tried → HasReviewed u tried
      → next_ticket tried < floor_of tried.carries (terms_of k tried.current) tried.seen tried.back →
      IsLater u (next_ticket tried) → Called quota now v (with_ticket tried (next_ticket tried))
  drawn now v u tried turned tries reviewed room later =
      inr (inl (
        next_ticket tried,
        (
          u,
          turned,
          record {
            tried = tried;
            tries = tries;
            reviewed = reviewed;
            ticket = refl;
            room = room;
            later = later;
            gained = refl;
          },
        ),
      ))

  at_99 : Called quota 99 one one_at_99
  at_99 = drawn 99 one one (record one { readings = 1; glances = 1; recalls = 1; looks = 1 }) (inl (omega arith, refl))
      (record {
        same = refl;
        later = omega arith;
        came_back = omega arith;
        read = omega arith;
        glanced = omega arith;
        recalled = omega arith;
        reviewed = omega arith;
        looked = omega arith;
      }) (λ carries. absurd (false≢true carries)) (omega arith) (tt, omega arith, omega arith)

  at_100 : Called quota 100 one_at_99 one_at_100
  at_100 = drawn 100 one_at_99 one_turned (record one_turned { readings = 3; glances = 2; recalls = 2; looks = 2 })
      (inr (inr (0, 0, omega arith, omega arith, omega arith, refl)))
      (record {
        same = refl;
        later = omega arith;
        came_back = omega arith;
        read = omega arith;
        glanced = omega arith;
        recalled = omega arith;
        reviewed = omega arith;
        looked = omega arith;
      }) (λ carries. absurd (false≢true carries)) (omega arith) ((omega arith, tt), omega arith, omega arith)

  at_101 : Called quota 101 one_at_100 one_at_101
  at_101 =
      drawn 101 one_at_100 one_at_100 (record one_at_100 {
        seen = 214748364800;
        readings = 4;
        glances = 3;
        recalls = 3;
        looks = 3;
      }) (inl (omega arith, refl))
      (record {
        same = refl;
        later = omega arith;
        came_back = omega arith;
        read = omega arith;
        glanced = omega arith;
        recalled = omega arith;
        reviewed = omega arith;
        looked = omega arith;
      }) (λ carries. absurd (false≢true carries)) (omega arith)
      ((omega arith, (omega arith, tt)), omega arith, omega arith)

  one_made : Made quota
      (call_of 101 one_at_100 one_at_101 ∷ call_of 100 one_at_99 one_at_100 ∷ call_of 99 one one_at_99 ∷ []) one_at_101
  one_made =
      has_called 101 one_at_100 one_at_101 _ refl at_101
      (has_called 100 one_at_99 one_at_100 _ refl at_100
      (has_called 99 one one_at_99 _ refl at_99 (gives_part _ _ begins_first)))

  other_made : Made quota (call_of 5000 other other_at_5000 ∷ []) other_at_5000
  other_made = is_calling 5000 other other_at_5000 _
      (other_at_5000, inr (inr (inr (4294967296, 4294967296, omega arith, omega arith, omega arith, refl))), refl)
      (begins_as_part _ _ begins_first)

  pub are_made : AreMade quota calls views
  are_made = (one_made, (other_made, tt))

pub three_drawn : total (drawn_from 99) calls ≡ 3
three_drawn = refl

pub one_ahead : total (opened_after 100) calls ≡ 1
one_ahead = refl

pub three_allowed : ((100 - 99) / k.period + 2 + total (opened_after 100) calls + over (requests_in views) 0 51
    / 4294967296) * k.reserve
    + (k.share * (before false (requests_in views) 0 + over (requests_in views) 0 51)) / 1000 ≡ 3
three_allowed = refl

-- from the moment after the first ticket's on there are two
pub two_drawn : total (drawn_from 100) calls ≡ 2
two_drawn = refl
