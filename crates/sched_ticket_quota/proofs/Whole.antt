-- What a pass has that has all parts is what all passes have.
use Rattle.std.proofs.Common.{◌≡◌, ℕ, ◌≤◌, List, sym, ap, ◌∙◌, arith}
use mathlib.Core.Option.{some}
use lib.ListN.{get_elem?}
use Rattle.sched_ticket.specs.Lists.{total, times}
use Rattle.sched_ticket.specs.Parts.{all_parts}
use Rattle.sched_ticket.proofs.Sums.{alone}
use Rattle.sched_ticket_quota.specs.Windows.{first_of, terms_of, AllowNoMore, allowed, within, count_in}
use Rattle.sched_ticket_quota.specs.Rule.{tickets_in, requests_in, weights, in_force, Words, IsOrderly}
use Rattle.sched_ticket_quota.specs.Whole.{had_force, IsWhole}
use Rattle.sched_ticket_quota.specs.declared.view.Terms.{Terms}
use Rattle.sched_ticket_quota.specs.declared.view.View.{View}
use Rattle.sched_ticket_quota.proofs.Numbers.{below-within, only-word}
use Rattle.sched_ticket_quota.proofs.Counts.{all-dealt}

module _ (k : Terms) (x : Words) (views : List View) (o : IsOrderly k x views) where
  -- in each window the tickets are no more than the terms in force allow for its requests
  pub windows_kept : (w n : ℕ) → AllowNoMore k (in_force k views) (requests_in views w) n → tickets_in views w ≤ n
  windows_kept w n most = omega (arith, o.given.windows w n most)

  -- nor than a window has numbers
  pub windows_small : (w : ℕ) → tickets_in views w ≤ 4294967296
  windows_small w =
      let h : ℕ → ℕ = within (first_of w) 4294967296 in
      omega (arith, all-dealt views w, o.dealt.once h, below-within (first_of w) 4294967296 x.drawn)

  -- what all passes have is what the pass has that has all parts
  module _ (id : ℕ) (v : View) (at : get_elem? views id ≡ some v) (all : v.weight ≡ all_parts) where
    whole_windows : (w n : ℕ) → AllowNoMore k (had_force k v) (count_in w v.requests) n → count_in w v.tickets ≤ n
    whole_windows w n most =
        let here : weights views ≡ v.weight = o.parts ∙ sym all in
        let tickets : tickets_in views w ≡ count_in w v.tickets =
        alone (λ (u : View). count_in w u.tickets) (λ (u : View). u.weight) views id v
        (λ i u there e. ap (count_in w) ((o.each i u there).spent e).0) at here in
        let requests : requests_in views w ≡ count_in w v.requests =
        alone (λ (u : View). count_in w u.requests) (λ (u : View). u.weight) views id v
        (λ i u there e. ap (count_in w) ((o.each i u there).spent e).1) at here in
        let force : (n : ℕ) → total (λ (u : View). times n u.changes) views ≡ times n v.changes = λ n.
        alone (λ (u : View). times n u.changes) (λ (u : View). u.weight) views id v
        (λ i u there e. ap (times n) ((o.each i u there).spent e).3) at here in
        omega (
          arith,
          tickets,
          windows_kept w n
              (λ y some-force.
              omega (arith, most y (omega (arith, some-force, force y)), ap (allowed (terms_of k y)) requests)),
        )

    pub is_whole : IsWhole k v
    is_whole = record {
      all = all;
      windows = whole_windows;
      unchanged = λ none w. whole_windows w (allowed k (count_in w v.requests))
          (λ y some-force. omega
          (arith, only-word k y (count_in w v.requests) o.known (omega (arith, some-force, ap (times y) none))));
    }
