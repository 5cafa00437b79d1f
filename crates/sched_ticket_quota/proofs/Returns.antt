-- A ticket that was handed back.
use Rattle.std.proofs.Common.{◌≡◌, ℕ, ◌+◌, ◌<◌, ◌≤◌, max, List, ◌∷◌, ◌++◌, ap, ◌∙◌}
use Rattle.sched_ticket_quota.specs.Windows.{window_of, first_of}
use Rattle.sched_ticket_quota.specs.View.{latest_in, without_latest, with_return}
use Rattle.sched_ticket_quota.specs.Calls.{HandedBack}
use Rattle.sched_ticket_quota.specs.declared.view.View.{View}

-- a pass that only asked before has handed back its latest ticket
pub handed_back : (v m : View) (t : ℕ) (ts : List ℕ) (r before : ℕ) → v.tickets ≡ t ∷ ts → m ≡ record v {
  back = m.back;
  recalls = m.recalls;
  losses = m.losses;
} → v.back ≤ before
    → (window_of before ≤ window_of t → r ≡ max before (first_of (window_of t)) + 1)
    → (window_of t < window_of before → before ≤ r) → HandedBack v (with_return m r)
handed_back v m t ts r before had same found here over = record {
  ticket = t;
  others = ts;
  had = had;
  same = ap (λ (u : View). with_return u r) same
      ∙ ap (λ (l : List ℕ). record v {
        tickets = without_latest l;
        returned = latest_in l ++ v.returned;
        back = r;
        recalls = m.recalls;
        losses = m.losses;
      }) had;
  before = before;
  found = found;
  here = here;
  over = over;
}
