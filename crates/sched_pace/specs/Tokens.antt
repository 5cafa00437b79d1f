-- What takes gain, and what giving back uses: a take that is granted gains a token of the kind that its cost and its
-- mark name, and giving it back uses that one.
use Rattle.std.specs.Prelude.{ℕ, ◌+◌, ◌*◌, ◌==◌, if◌then◌else◌}
use Rattle.sched_ticket.specs.Lists.{is}
use Rattle.sched_limit_word.specs.Tokens.{Tokens}
use Rattle.sched_limit_word.specs.declared.call.Call.{Call}
use Rattle.sched_limit_word.specs.declared.call.Call.TheVariants.{Draw, Returned}
use Rattle.sched_pace.specs.declared.pace.Pace.{Pace}

-- one number for a cost and a mark: a cost is below 2^21
abbrev pub name : ℕ → ℕ → ℕ
name cost mark = mark * 2097152 + cost

abbrev pub gains : Call → ℕ → ℕ → ℕ → ℕ
gains (Draw now cost slots) kind found left = if left == found then 0 else is kind (name cost left)
gains c kind found left = 0

abbrev pub uses : Call → ℕ → ℕ → ℕ → ℕ
uses (Returned cost mark) kind found left = if left == found then 0 else is kind (name cost mark)
uses c kind found left = 0

abbrev pub pace_tokens : Pace → Tokens
pace_tokens p = record {
  gained = λ m kind. gains m.call kind m.found m.left;
  used = λ m kind. uses m.call kind m.found m.left;
}
