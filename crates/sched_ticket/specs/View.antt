-- Views of a budget, and how one step changes a view.
use Rattle.std.specs.Prelude.{ℕ, ◌+◌, ◌-◌, [], ◌∷◌, ◌++◌, ◌&&◌, max, Bool, true, false, if◌then◌else◌}
use Rattle.sched_ticket.specs.Parts.{all_parts, part}
use Rattle.sched_ticket.specs.declared.view.Terms.{Terms}
use Rattle.sched_ticket.specs.declared.view.Refusal.{Refusal}
use Rattle.sched_ticket.specs.declared.view.Mark.{Mark}
use Rattle.sched_ticket.specs.declared.view.Mark.TheVariants.{Unseen}
use Rattle.sched_ticket.specs.declared.view.View.{View}

abbrev pub terms : ℕ → Bool → Terms
terms limit rises = record { limit = limit; rises = rises; by_parts = false }

-- the same of a budget by parts
abbrev pub parted_terms : ℕ → Bool → Terms
parted_terms limit rises = record { limit = limit; rises = rises; by_parts = true }

-- whether a refused pass draws again: by parts, where the limit may rise
abbrev pub draws_again : Terms → Bool
draws_again k = k.rises && k.by_parts

abbrev pub refusal : ℕ → ℕ → Refusal
refusal number floor = record { number = number; floor = floor }

-- a pass that has drawn nothing
abbrev pub fresh_view : Terms → ℕ → ℕ → View
fresh_view k floor weight = record {
  terms = k;
  tickets = [];
  refusals = [];
  floor = floor;
  weight = weight;
  splits = 0;
  refused_splits = 0;
  mark = Unseen;
  readings = 0;
  found = 0;
  raised_to = 0;
}

-- what the first pass stands for: itself, or all parts
abbrev pub first_weight : Terms → ℕ
first_weight k = if k.by_parts then all_parts else 1

-- the first pass of a budget
abbrev pub first_view : Terms → View
first_view k = fresh_view k k.limit (first_weight k)

-- what is left of a pass that was joined into another
abbrev pub blank_view : View
blank_view = fresh_view (terms 0 false) 0 0

abbrev pub with_ticket : View → ℕ → View
with_ticket v k = record v { tickets = k ∷ v.tickets; found = k + 1 }

abbrev pub with_refusal : View → ℕ → View
with_refusal v n = record v { refusals = refusal n v.floor ∷ v.refusals; found = n }

-- a pass that has found so many draws made
abbrev pub with_found : View → ℕ → View
with_found v n = record v { found = n }

abbrev pub with_floor : View → ℕ → View
with_floor v n = record v { floor = n; readings = v.readings + 1 }

-- a pass that has raised the limit to a number, which made it n
abbrev pub with_raise : View → ℕ → ℕ → View
with_raise v to n = record v { floor = n; readings = v.readings + 1; raised_to = max v.raised_to to }

abbrev pub with_mark : View → Mark → View
with_mark v m = record v { mark = m }

abbrev pub with_refused_split : View → View
with_refused_split v = record v { refused_splits = v.refused_splits + 1 }

-- a pass that stands for one more, which is counted and is to be split from it
abbrev pub with_part : View → View
with_part v = record v { weight = v.weight + 1; splits = v.splits + 1 }

-- what a split gives of what a pass stands for
abbrev pub given : View → ℕ
given v = if v.terms.by_parts then part v.weight else 1

-- a pass that has given a part of itself away
abbrev pub without_part : View → View
without_part v = record v { weight = v.weight - given v }

-- a pass after a split: all as before, but that it has given parts away, or that one more was split from it
abbrev pub with_split : View → View
with_split v = record v {
  weight = if v.terms.by_parts then v.weight - part v.weight else v.weight;
  splits = if v.terms.by_parts then v.splits else v.splits + 1;
}

-- the pass that is split from another
abbrev pub part_of : View → View
part_of v = fresh_view v.terms v.floor (given v)

-- two passes joined: what both have, without a mark
abbrev pub joined_view : View → View → View
joined_view v w = record {
  terms = v.terms;
  tickets = v.tickets ++ w.tickets;
  refusals = v.refusals ++ w.refusals;
  floor = max v.floor w.floor;
  weight = v.weight + w.weight;
  splits = v.splits + w.splits;
  refused_splits = v.refused_splits + w.refused_splits;
  mark = Unseen;
  readings = v.readings + w.readings;
  found = max v.found w.found;
  raised_to = max v.raised_to w.raised_to;
}
