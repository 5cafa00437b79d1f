-- Views of a limit, and how one step changes a view.
use Rattle.std.specs.Prelude.{ℕ, ◌+◌, ◌-◌, List, [], ◌∷◌, ◌++◌, if◌then◌else◌, ◌==◌}
use Rattle.sched_ticket.specs.Parts.{all_parts, part}
use Rattle.sched_limit_word.specs.declared.call.Call.{Call}
use Rattle.sched_limit_word.specs.declared.view.Move.{Move}
use Rattle.sched_limit_word.specs.declared.view.View.{View}

-- a call that found one word and left another
abbrev pub move : Call → ℕ → ℕ → Move
move c found left = record { call = c; found = found; left = left }

-- a pass that has made no move
abbrev pub fresh_view : ℕ → ℕ → View
fresh_view seen weight = record { moves = []; seen = seen; weight = weight; looks = 0; losses = 0 }

-- the first pass of a limit has all parts
abbrev pub first_view : ℕ → View
first_view first = fresh_view first all_parts

-- what is left of a pass that was joined into another, where `first` is the word at first
abbrev pub blank_view : View
blank_view = fresh_view 0 0

-- a pass that has read the word, and has lost no race since
abbrev pub with_look : View → ℕ → View
with_look v n = record v { seen = n; looks = v.looks + 1; losses = 0 }

-- a pass that has made a move
abbrev pub with_move : View → Call → ℕ → ℕ → View
with_move v c found left = record v { moves = move c found left ∷ v.moves; seen = left }

-- a pass that found another call before its own
abbrev pub with_loss : View → ℕ → View
with_loss v n = record v { seen = n; losses = v.losses + 1 }

-- the moves after a call: one more, where it changes the word
abbrev pub moves_after : List Move → Call → ℕ → ℕ → List Move
moves_after moves c found left = if left == found then moves else move c found left ∷ moves

-- a pass that has given a part of itself away
abbrev pub without_part : View → View
without_part v = record v { weight = v.weight - part v.weight }

-- the pass that is split from another
abbrev pub part_of : View → View
part_of v = fresh_view v.seen (part v.weight)

-- two passes joined: what both have
abbrev pub joined_view : View → View → View
joined_view v w = record v { moves = v.moves ++ w.moves; weight = v.weight + w.weight }
