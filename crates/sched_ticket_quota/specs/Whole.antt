-- What is true of a pass that stands for all passes of its quota.
use Rattle.std.specs.Prelude.{◌≡◌, ℕ, ◌+◌, ◌≤◌, []}
use Rattle.sched_ticket.specs.Lists.{times, is}
use Rattle.sched_ticket.specs.Parts.{all_parts}
use Rattle.sched_ticket_quota.specs.Windows.{word_of, allowed, count_in, AllowNoMore}
use Rattle.sched_ticket_quota.specs.declared.view.Terms.{Terms}
use Rattle.sched_ticket_quota.specs.declared.view.View.{View}

-- the terms in force so far: those that the quota was made with, and those that the pass has set
abbrev pub had_force : Terms → View → ℕ → ℕ
had_force k v x = is x (word_of k.reserve k.share) + times x v.changes

-- the pass has all parts: in each window it has no more tickets than the most generous terms in force so far allow for
-- its requests
pub record IsWhole (k : Terms) (v : View) : Type 0 where
  pub all : v.weight ≡ all_parts
  pub windows : (w n : ℕ) → AllowNoMore k (had_force k v) (count_in w v.requests) n → count_in w v.tickets ≤ n
  -- which are those that the quota was made with, where none were set
  pub unchanged : v.changes ≡ [] → (w : ℕ) → count_in w v.tickets ≤ allowed k (count_in w v.requests)
