-- Views of a quota, and how one step changes a view.
use Rattle.std.specs.Prelude.{ℕ, Bool, zero, suc, false, ◌+◌, ◌-◌, ◌%◌, List, [], ◌∷◌, ◌++◌, max, if◌then◌else◌, ◌&&◌}
use Rattle.std.specs.Prelude.{◌==◌}
use Rattle.sched_ticket.specs.Parts.{all_parts, part}
use Rattle.sched_ticket_quota.specs.Windows.{word_of, terms_of, first_of, window_of, carried_to}
use Rattle.sched_ticket_quota.specs.declared.view.Terms.{Terms}
use Rattle.sched_ticket_quota.specs.declared.view.View.{View}

-- a pass that has drawn and counted nothing
abbrev pub fresh_view : Terms → ℕ → ℕ → ℕ → ℕ → ℕ → ℕ → View
fresh_view k current seen told found back weight = record {
  terms = k;
  carries = false;
  tickets = [];
  requests = [];
  returned = [];
  opened = [];
  changes = [];
  current = current;
  seen = seen;
  told = told;
  found = found;
  back = back;
  past = 0;
  noted = 0;
  weight = weight;
  readings = 0;
  glances = 0;
  recalls = 0;
  reviews = 0;
  looks = 0;
  losses = 0;
}

-- the first pass of a quota has all parts
abbrev pub first_view : Terms → View
first_view k = fresh_view k (word_of k.reserve k.share) 0 0 0 0 all_parts

-- that of a quota that carries or does not
abbrev pub first_of_kind : Bool → Terms → View
first_of_kind c k = record (first_view k) { carries = c }

-- what is left of a pass that was joined into another
abbrev pub blank_view : View
blank_view = fresh_view (record { reserve = 0; share = 0; period = 0 }) 0 0 0 0 0 0

-- a pass that has read the requests
abbrev pub with_reading : View → ℕ → View
with_reading v q = record v { seen = q; readings = v.readings + 1 }

-- a pass that has read the terms, from this word
abbrev pub with_glance : View → ℕ → View
with_glance v x = record v { current = x; glances = v.glances + 1 }

-- a pass that has set the terms, to this word
abbrev pub with_change : View → ℕ → View
with_change v x = record v { changes = x ∷ v.changes; current = x }

-- what a pass notes before it opens this window: of a quota that carries, where it has seen the requests of the one
-- before, how many they are
abbrev pub note_for : ℕ → View → ℕ
note_for at v =
    if v.carries && (window_of v.seen + 1 == at) then first_of at + v.seen % 4294967296 else v.noted

-- and the pass that has noted it
abbrev pub with_note : View → ℕ → View
with_note v p = record v { noted = p }

-- a pass that has opened the window of this first number, and has seen q requests then
abbrev pub with_opening : View → ℕ → ℕ → View
with_opening v first q = record v { opened = first ∷ v.opened; seen = q }

-- n numbers from q on, the last first
abbrev pub numbers : ℕ → ℕ → List ℕ
numbers q zero = []
numbers q (suc n) = (q + n) ∷ numbers q n

-- a pass that has counted n requests, from the number q on
abbrev pub with_requests : View → ℕ → ℕ → View
with_requests v q n = record v { requests = numbers q n ++ v.requests; seen = q + n; told = q + n }

-- a pass that has looked at the draws, and has lost no race since
abbrev pub with_found : View → ℕ → View
with_found v d = record v { found = d; looks = v.looks + 1; losses = 0 }

abbrev pub with_ticket : View → ℕ → View
with_ticket v t = record v { tickets = t ∷ v.tickets; found = t + 1 }

-- a pass that found another draw before its own
abbrev pub with_loss : View → ℕ → View
with_loss v d = record v { found = d; losses = v.losses + 1 }

-- a pass that has read how many tickets were handed back
abbrev pub with_recall : View → ℕ → View
with_recall v r = record v { back = r; recalls = v.recalls + 1 }

-- a pass that has read how many requests the window before had
abbrev pub with_review : View → ℕ → View
with_review v p = record v { past = p; reviews = v.reviews + 1 }

-- a pass that has read it to hand one back, and has lost no race since
abbrev pub with_asking : View → ℕ → View
with_asking v r = record v { back = r; recalls = v.recalls + 1; losses = 0 }

-- a pass that found another ticket handed back before its own
abbrev pub with_setback : View → ℕ → View
with_setback v r = record v { back = r; losses = v.losses + 1 }

-- the latest of these tickets, where there is one, and the others
abbrev pub latest_in : List ℕ → List ℕ
latest_in [] = []
latest_in (t ∷ ts) = t ∷ []

abbrev pub without_latest : List ℕ → List ℕ
without_latest [] = []
without_latest (t ∷ ts) = ts

-- a pass that has handed its latest ticket back, with the word of those that were
abbrev pub with_return : View → ℕ → View
with_return v r =
    record v { tickets = without_latest v.tickets; returned = latest_in v.tickets ++ v.returned; back = r }

-- how many tickets a pass may draw of what was carried to the latest window that it has seen
abbrev pub carried_by : View → ℕ
carried_by v = carried_to v.carries (terms_of v.terms v.current) v.seen v.past v.found

-- the ticket that a draw is to win: the next of that window, and first of those carried to it
abbrev pub next_ticket : View → ℕ
next_ticket v = max v.found (first_of (window_of v.seen) - carried_by v)

-- a pass that has given a part of itself away
abbrev pub without_part : View → View
without_part v = record v { weight = v.weight - part v.weight }

-- the pass that is split from another
abbrev pub part_of : View → View
part_of v = record (fresh_view v.terms v.current v.seen v.told v.found v.back (part v.weight)) {
  carries = v.carries;
  past = v.past;
  noted = v.noted;
}

-- two passes joined: what both have
abbrev pub joined_view : View → View → View
joined_view v w = record {
  terms = v.terms;
  carries = v.carries;
  tickets = v.tickets ++ w.tickets;
  requests = v.requests ++ w.requests;
  returned = v.returned ++ w.returned;
  opened = v.opened ++ w.opened;
  changes = v.changes ++ w.changes;
  current = v.current;
  seen = v.seen;
  told = max v.told w.told;
  found = v.found;
  back = v.back;
  past = v.past;
  noted = v.noted;
  weight = v.weight + w.weight;
  readings = v.readings + w.readings;
  glances = v.glances + w.glances;
  recalls = v.recalls + w.recalls;
  reviews = v.reviews + w.reviews;
  looks = v.looks + w.looks;
  losses = v.losses;
}
