-- All calls that were made on a quota, each at its moment, and how many tickets they drew. The law is the contract of a
-- function of the module `laws`.
use Rattle.std.specs.Prelude.{◌≡◌, ℕ, ◌+◌, ◌-◌, ◌*◌, ◌/◌, ◌≤◌, ◌⊎◌, List, [], ◌∷◌, ◌++◌, length, if◌then◌else◌, nat_lt}
use Rattle.atomic_table.specs.Table.{State}
use Rattle.sched_ticket.specs.Lists.{total}
use Rattle.sched_ticket_quota.specs.Windows.{first_of, window_at, late_numbers, before}
use Rattle.sched_ticket_quota.specs.View.{with_change, first_of_kind, blank_view, without_part, part_of, joined_view}
use Rattle.sched_ticket_quota.specs.Rule.{requests_in, drawn_of, IsKept}
use Rattle.sched_ticket_quota.specs.Carried.{handed_back_in}
use Rattle.sched_ticket_quota.specs.Held.{Name, AreTerms}
use Rattle.sched_ticket_quota.specs.Calls.{Turned, HandedBack}
use Rattle.sched_ticket_quota.specs.Clocks.{Called, AreMost, over}
use Rattle.sched_ticket_quota.specs.declared.view.Terms.{Terms}
use Rattle.sched_ticket_quota.specs.declared.view.View.{View}

-- a call: its moment, how many tickets it drew, and how many windows it opened
pub record Call : Type 0 where
  pub moment : ℕ
  pub drew : ℕ
  pub opened : ℕ

-- the call that made the one view into the other
abbrev pub call_of : ℕ → View → View → Call
call_of now v w = record {
  moment = now;
  drew = length w.tickets - length v.tickets;
  opened = length w.opened - length v.opened;
}

-- What a call that is under way has done to a pass: it has come to its window, or not yet, and may have looked at the
-- words since.
abbrev pub IsCalling : Name → ℕ → View → View → Type 0
IsCalling b now v w = (u : View) × ((u ≡ v) ⊎ Turned b now v u)
    × (w ≡ record u {
      current = w.current;
      seen = w.seen;
      found = w.found;
      back = w.back;
      past = w.past;
      noted = w.noted;
      readings = w.readings;
      glances = w.glances;
      recalls = w.recalls;
      reviews = w.reviews;
      looks = w.looks;
      losses = w.losses;
    })

-- These calls are all that were made with a pass at some moment, and with those that were joined into it: how it came
-- to its view. It began as the quota's first, or was split from one; one that was joined into another is blank. It may
-- have set terms, and handed tickets back.
pub data Made (b : Name) : List Call → View → Type 0 where
  begins_first : Made b [] (first_of_kind b.carries b.terms)
  has_called : (now : ℕ) (v w : View) (calls : List Call) → v.carries ≡ b.carries → Called b now v w
      → Made b calls v → Made b (call_of now v w ∷ calls) w
  is_calling : (now : ℕ) (v w : View) (calls : List Call) → IsCalling b now v w
      → Made b calls v → Made b (call_of now v w ∷ calls) w
  sets_terms : (v : View) (x : ℕ) (calls : List Call) → Made b calls v → Made b calls (with_change v x)
  hands_back : (v w : View) (calls : List Call) → HandedBack v w → Made b calls v → Made b calls w
  keeps_ticket : (v w : View) (calls : List Call)
      → w ≡ record v { back = w.back; recalls = w.recalls; losses = w.losses } → Made b calls v → Made b calls w
  gives_part : (v : View) (calls : List Call) → Made b calls v → Made b calls (without_part v)
  begins_as_part : (v : View) (calls : List Call) → Made b calls v → Made b [] (part_of v)
  takes_in : (v w : View) (calls those : List Call) → Made b calls v → Made b those w
      → Made b (calls ++ those) (joined_view v w)
  is_taken_in : Made b [] blank_view

-- for each view there are the calls that made it
abbrev pub AreMade : Name → List (List Call) → List View → Type 0
AreMade b [] [] = Unit {0}
AreMade b (calls ∷ rest) (v ∷ views) = Made b calls v × AreMade b rest views
AreMade b _ _ = ⊥

-- how many tickets the calls drew whose moment is not before this one
abbrev pub drawn_from : ℕ → List Call → ℕ
drawn_from since calls = total (λ (c : Call). if nat_lt c.moment since then 0 else c.drew) calls

-- how many windows the calls opened whose moment is after this one
abbrev pub opened_after : ℕ → List Call → ℕ
opened_after to calls = total (λ (c : Call). if nat_lt to c.moment then c.opened else 0) calls

-- Of all calls of all passes those from a moment on drew at most two reserves, one for each whole period until another
-- moment, one for each window that a call opened whose moment is after that, one for each 4294967296 requests, the
-- share of the requests, and as many as were handed back: of those counted, and handed back, from the first moment's
-- window on, in so many windows that the last ticket was drawn in one of them. Of a quota that carries, it is the share
-- of the requests of the window before as well. Reserve and share are the greatest that were in force.
abbrev pub CallsAreBounded : Type 0
CallsAreBounded = (b : Name) (s : State ℕ View) → AreTerms b.terms → (kept : IsKept b.terms s) →
    kept.carries ≡ b.carries → (most : Terms) → AreMost b.terms s.views most →
    (calls : List (List Call)) → AreMade b calls s.views → (since to count : ℕ) → since ≤ to →
    drawn_of s + late_numbers b.carries ≤ first_of (window_at b.terms b.start since + count) →
    let requests = over (requests_in s.views) (window_at b.terms b.start since) count in
    total (drawn_from since) calls
    ≤ over (handed_back_in b.carries s.views) (window_at b.terms b.start since) count
    + ((to - since) / b.terms.period + 2 + total (opened_after to) calls + requests / 4294967296) * most.reserve
    + (most.share * (before b.carries (requests_in s.views) (window_at b.terms b.start since) + requests)) / 1000
