-- A split, a join and the first state keep the rule.
use Rattle.std.proofs.Common.{◌≡◌, ℕ, Bool, ◌+◌, ◌-◌, ◌<◌, ◌≤◌, max, List, [], ◌∷◌, ◌++◌, length, set}
use Rattle.std.proofs.Common.{slice_index, sym, refl, ◌∙◌, subst, arith, lt_of_not-le}
use mathlib.Core.Logic.{dite}
use mathlib.Core.Option.{Option, some}
use native.Mathlib.Decide.{dec_le}
use lib.ListN.{get_elem?}
use Rattle.atomic_table.specs.Table.{Splits, Joins}
use Rattle.atomic_table.proofs.Lists.{set_else}
use Rattle.sched_ticket.specs.Lists.{total, times, is}
use Rattle.sched_ticket.proofs.Sums.{total-append, total-set, is-same, each-only, each-split, each-joined}
use Rattle.sched_ticket.proofs.Ways.{part-some}
use Rattle.sched_ticket_quota.specs.Windows.{window_of, first_of, word_of, within, count_in}
use Rattle.sched_ticket_quota.specs.View.{first_of_kind, without_part, part_of, joined_view, blank_view}
use Rattle.sched_ticket_quota.specs.Rule.{ticket_weight, request_weight, returned_in, dealt_in, requests_in, may_count}
use Rattle.sched_ticket_quota.specs.Rule.{in_force, begins, IsGiven, Words, Fits, IsOrderly, current_of, back_of}
use Rattle.sched_ticket_quota.specs.Rule.{words_of, IsKept}
use Rattle.sched_ticket_quota.specs.declared.view.Terms.{Terms}
use Rattle.sched_ticket_quota.specs.declared.view.View.{View}
use Rattle.sched_ticket_quota.proofs.Counts.{may_count-yes, may_count-no, may_count-le}
use Rattle.sched_ticket_quota.proofs.Moves.{words_at, Grows, noted-on, given-on, Fits-on}

-- two passes that may count have no more parts than one with the parts of both
may_count-cut : (v : View) → 1 < v.weight → may_count (without_part v) + may_count (part_of v) ≤ may_count v
may_count-cut v more = let p = part-some v.weight more in dite (dec_le 12884901888000000000 v.told)
    (λ full. omega (arith, may_count-no (without_part v) full, may_count-no (part_of v) full))
    (λ not. let may : v.told < 12884901888000000000 = lt_of_not-le not in
    omega (arith, may_count-yes (without_part v) may, may_count-yes (part_of v) may, may_count-yes v may))

may_count-joined : (v w : View) → may_count (joined_view v w) ≤ may_count v + may_count w
may_count-joined v w = dite (dec_le 12884901888000000000 (max v.told w.told))
    (λ full. omega (arith, may_count-no (joined_view v w) full))
    (λ not. let may : max v.told w.told < 12884901888000000000 = lt_of_not-le not in
    omega (arith, may_count-yes (joined_view v w) may, may_count-yes v (omega arith), may_count-yes w (omega arith)))

module _ (k : Terms) where
  pub splits_ok : (id : ℕ) (v : View) → 1 < v.weight → Splits (IsKept k) id v (without_part v) (part_of v)
  splits_ok id v more s kept at =
      let views : List View = s.views in
      let o : IsOrderly k (words_of s kept.window kept.latest kept.carries) views = kept.orderly in
      let f = o.each id v at in
      let left : View = without_part v in
      let right : View = part_of v in
      let after : List View = set views id left ++ right ∷ [] in
      let p = part-some v.weight more in
      let sums : (g : View → ℕ) → total g after + g v ≡ total g views + g left + g right = λ g.
      omega (arith, total-append g (set views id left) (right ∷ []), total-set g views id v left at) in
      let returned : (x : ℕ) → returned_in views x ≤ returned_in after x = λ x.
      omega (arith, sums (λ (u : View). count_in x u.returned)) in
      let tickets : (x : ℕ) → dealt_in views x ≤ dealt_in after x = λ x.
      omega (arith, sums (λ (u : View). count_in x u.tickets), returned x) in
      let requests : (x : ℕ) → requests_in views x ≤ requests_in after x = λ x.
      omega (arith, sums (λ (u : View). count_in x u.requests)) in
      let starts : (x : ℕ) → begins views x ≤ begins after x = λ x.
      omega (arith, requests (x - 1), sums (λ (u : View). times (first_of x) u.opened)) in
      let force : (x : ℕ) → in_force k views x ≤ in_force k after x = λ x.
      omega (arith, sums (λ (u : View). times x u.changes)) in
      let x : Words = words_of s kept.window kept.latest kept.carries in
      let F : View → Type 0 = Fits k x after in
      let grown : Grows k views after = record {
        dealt = tickets;
        returned = returned;
        requests = requests;
        starts = starts;
        force = force;
      } in
      let on : (u : View) → Fits k x views u → F u = λ u g.
      Fits-on k x x views after u g refl (omega arith) (omega arith) (omega arith) (omega arith) grown in
      let g : F v = on v f in
      let fits-left : F left = record {
        seen = g.seen;
        counted = g.counted;
        begun = g.begun;
        found = g.found;
        given = g.given;
        back = g.back;
        came_back = g.came_back;
        past = g.past;
        noted = g.noted;
        live = λ _. f.live (omega arith);
        kind = λ _. f.kind (omega arith);
        force = λ _. g.force (omega arith);
        spent = λ none. absurd (omega arith);
      } in
      let fits-right : F right = record {
        seen = g.seen;
        counted = g.counted;
        begun = g.begun;
        found = g.found;
        given = g.given;
        back = g.back;
        came_back = g.came_back;
        past = g.past;
        noted = g.noted;
        live = λ _. f.live (omega arith);
        kind = λ _. f.kind (omega arith);
        force = λ _. g.force (omega arith);
        spent = λ _. (refl, refl, refl, refl, refl);
      } in
      record {
        window = kept.window;
        latest = kept.latest;
        carries = kept.carries;
        long = kept.long;
        orderly = record {
          known = o.known;
          dealt = record {
            once = λ h. omega (arith, sums (ticket_weight h), o.dealt.once h);
            all = λ h. omega (arith, sums (ticket_weight h), o.dealt.all h);
            from = o.dealt.from;
            to = o.dealt.to;
            begun = o.dealt.begun;
          };
          given = given-on k x.carries x.drawn views after grown (λ h. omega (arith, sums (ticket_weight h))) o.given;
          noted = noted-on k views after x.past grown o.noted;
          counted = record {
            once = λ h. omega (arith, sums (request_weight h), o.counted.once h);
            all = λ h. omega (arith, sums (request_weight h), o.counted.all h);
            from = o.counted.from;
            opened = λ some-window. omega
                (arith, sums (λ (u : View). times (first_of kept.latest) u.opened), o.counted.opened some-window);
            small = omega (arith, sums may_count, may_count-cut v more, o.counted.small);
          };
          behind = o.behind;
          entered = λ x some-window given. omega (
            arith,
            o.entered x some-window (omega (arith, given, sums (λ (u : View). count_in x u.tickets))),
            starts x,
          );
          force = omega (arith, o.force, force (current_of s));
          came_back = omega (arith, o.came_back, returned (window_of (back_of s)));
          few_back = o.few_back;
          parts = omega (arith, sums (λ (u : View). u.weight), o.parts);
          each = each-split F views id left right fits-left fits-right (λ i u at. on u (o.each i u at));
        };
      }

  pub joins_ok : (id : ℕ) (v : View) (other : ℕ) (w : View) → 0 < v.weight
      → Joins (IsKept k) id v other w (joined_view v w) blank_view
  joins_ok id v other w live s kept at apart there =
      let views : List View = s.views in
      let o : IsOrderly k (words_of s kept.window kept.latest kept.carries) views = kept.orderly in
      let at-other : get_elem? views other ≡ some w = sym (set_else views id other (joined_view v w) apart) ∙ there in
      let f = o.each id v at in
      let joined : View = joined_view v w in
      let middle : List View = set views id joined in
      let after : List View = set middle other blank_view in
      let sums : (g : View → ℕ) → total g after + g w + g v ≡ total g views + g joined + g blank_view = λ g.
      omega (arith, total-set g views id v joined at, total-set g middle other w blank_view there) in
      let returned : (x : ℕ) → returned_in views x ≤ returned_in after x = λ x. omega (
        arith,
        sums (λ (u : View). count_in x u.returned),
        total-append (within (first_of x) 4294967296) v.returned w.returned,
      ) in
      let tickets : (x : ℕ) → dealt_in views x ≤ dealt_in after x = λ x. omega (
        arith,
        sums (λ (u : View). count_in x u.tickets),
        total-append (within (first_of x) 4294967296) v.tickets w.tickets,
        returned x,
      ) in
      let requests : (x : ℕ) → requests_in views x ≤ requests_in after x = λ x. omega (
        arith,
        sums (λ (u : View). count_in x u.requests),
        total-append (within (first_of x) 4294967296) v.requests w.requests,
      ) in
      let starts : (x : ℕ) → begins views x ≤ begins after x = λ x. omega (
        arith,
        requests (x - 1),
        sums (λ (u : View). times (first_of x) u.opened),
        total-append (is (first_of x)) v.opened w.opened,
      ) in
      let force : (x : ℕ) → in_force k views x ≤ in_force k after x = λ x.
      omega (arith, sums (λ (u : View). times x u.changes), total-append (is x) v.changes w.changes) in
      let x : Words = words_of s kept.window kept.latest kept.carries in
      let F : View → Type 0 = Fits k x after in
      let grown : Grows k views after = record {
        dealt = tickets;
        returned = returned;
        requests = requests;
        starts = starts;
        force = force;
      } in
      let on : (u : View) → Fits k x views u → F u = λ u g.
      Fits-on k x x views after u g refl (omega arith) (omega arith) (omega arith) (omega arith) grown in
      let g : F v = on v f in
      let fits-joined : F joined = record {
        seen = g.seen;
        counted = g.counted;
        begun = g.begun;
        found = g.found;
        given = g.given;
        back = g.back;
        came_back = g.came_back;
        past = g.past;
        noted = g.noted;
        live = λ _. f.live live;
        kind = λ _. f.kind live;
        force = λ _. g.force live;
        spent = λ none. absurd (omega arith);
      } in
      let fits-blank : F blank_view = record {
        seen = omega arith;
        counted = omega arith;
        begun = λ some-window. absurd (omega arith);
        found = omega arith;
        given = λ x low high. omega arith;
        back = omega arith;
        came_back = omega arith;
        past = record { counted = omega arith; begun = λ later. absurd (omega arith) };
        noted = omega arith;
        live = λ h. absurd (omega arith);
        kind = λ h. absurd (omega arith);
        force = λ h. absurd (omega arith);
        spent = λ _. (refl, refl, refl, refl, refl);
      } in
      record {
        window = kept.window;
        latest = kept.latest;
        carries = kept.carries;
        long = kept.long;
        orderly = record {
          known = o.known;
          dealt = record {
            once = λ h. omega (
              arith,
              sums (ticket_weight h),
              total-append h v.tickets w.tickets,
              total-append h v.returned w.returned,
              o.dealt.once h,
            );
            all = λ h. omega (
              arith,
              sums (ticket_weight h),
              total-append h v.tickets w.tickets,
              total-append h v.returned w.returned,
              o.dealt.all h,
            );
            from = o.dealt.from;
            to = o.dealt.to;
            begun = o.dealt.begun;
          };
          given =
              given-on k x.carries x.drawn views after grown
              (λ h. omega (
                arith,
                sums (ticket_weight h),
                total-append h v.tickets w.tickets,
                total-append h v.returned w.returned,
              )) o.given;
          noted = noted-on k views after x.past grown o.noted;
          counted = record {
            once = λ h. omega (arith, sums (request_weight h), total-append h v.requests w.requests, o.counted.once h);
            all = λ h. omega (arith, sums (request_weight h), total-append h v.requests w.requests, o.counted.all h);
            from = o.counted.from;
            opened = λ some-window. omega (
              arith,
              sums (λ (u : View). times (first_of kept.latest) u.opened),
              total-append (is (first_of kept.latest)) v.opened w.opened,
              o.counted.opened some-window,
            );
            small = omega (arith, sums may_count, may_count-joined v w, may_count-le blank_view, o.counted.small);
          };
          behind = o.behind;
          entered = λ x some-window given. omega (
            arith,
            o.entered x some-window
                (omega (
                  arith,
                  given,
                  sums (λ (u : View). count_in x u.tickets),
                  total-append (within (first_of x) 4294967296) v.tickets w.tickets,
                )),
            starts x,
          );
          force = omega (arith, o.force, force (current_of s));
          came_back = omega (arith, o.came_back, returned (window_of (back_of s)));
          few_back = o.few_back;
          parts = omega (arith, sums (λ (u : View). u.weight), o.parts);
          each = each-joined F views id other joined blank_view fits-joined fits-blank
              (λ i u at. on u (o.each i u at));
        };
      }

  module _ (c : Bool) where
    -- no window has given a ticket yet
    first-given : IsGiven k c 0 (first_of_kind c k ∷ [])
    first-given = record {
      windows = λ w n most. omega arith;
      shares = λ w n most. omega arith;
      windows_yet = λ w n near most. absurd (omega (arith, near.0));
      shares_yet = λ w n near most. absurd (omega (arith, near.0));
      begun = λ w near some-window. absurd (omega (arith, near.0));
    }

    first-orderly : k.share ≤ 1000000
        → IsOrderly k (words_at 0 0 0 0 (word_of k.reserve k.share) 0 0 c) (first_of_kind c k ∷ [])
    first-orderly known = record {
      known = known;
      dealt = record {
        once = λ h. omega arith;
        all = λ h. omega arith;
        from = omega arith;
        to = omega arith;
        begun = λ h. absurd (omega arith);
      };
      given = first-given;
      noted = record { counted = omega arith; begun = λ later. absurd (omega arith) };
      counted = record {
        once = λ h. omega arith;
        all = λ h. omega arith;
        from = omega arith;
        opened = λ h. absurd (omega arith);
        small = omega (arith, may_count-le (first_of_kind c k));
      };
      behind = omega arith;
      entered = λ w some-window given. absurd (omega arith);
      force = omega (arith, is-same (word_of k.reserve k.share) (word_of k.reserve k.share) refl);
      came_back = omega arith;
      few_back = omega arith;
      parts = omega arith;
      each = each-only (Fits k (words_at 0 0 0 0 (word_of k.reserve k.share) 0 0 c) (first_of_kind c k ∷ []))
          (first_of_kind c k) (record {
            seen = omega arith;
            counted = omega arith;
            begun = λ some-window. absurd (omega arith);
            found = omega arith;
            given = λ w low high. absurd (omega arith);
            back = omega arith;
            came_back = omega arith;
            past = record { counted = omega arith; begun = λ later. absurd (omega arith) };
            noted = omega arith;
            live = λ h. refl;
            kind = λ h. refl;
            force = λ h. omega (arith, is-same (word_of k.reserve k.share) (word_of k.reserve k.share) refl);
            spent = λ none. absurd (omega arith);
          });
    }

    -- the first state: the words are 0, and that of the terms is theirs
    pub first_kept : (ws : List ℕ) (homes : List (Option ℕ)) → k.share ≤ 1000000 → length ws ≡ 32 → slice_index ws 8 ≡ 0
        → slice_index ws 24 ≡ 0 → slice_index ws 25 ≡ word_of k.reserve k.share → slice_index ws 9 ≡ 0
        → slice_index ws 26 ≡ 0
        → IsKept k (record { words = ws; homes = homes; views = first_of_kind c k ∷ [] })
    first_kept ws homes known long draws requests terms back past =
        let views : List View = first_of_kind c k ∷ [] in
        let q : ℕ = slice_index ws 24 in
        let x : ℕ = slice_index ws 25 in
        let r : ℕ = slice_index ws 9 in
        let p : ℕ = slice_index ws 26 in
        let t : ℕ = word_of k.reserve k.share in record {
          window = 0;
          latest = 0;
          carries = c;
          long = long;
          orderly = subst (λ (y : ℕ). IsOrderly k (words_at y 0 q 0 x r p c) views) (sym draws)
              (subst (λ (y : ℕ). IsOrderly k (words_at 0 0 y 0 x r p c) views) (sym requests)
              (subst (λ (y : ℕ). IsOrderly k (words_at 0 0 0 0 y r p c) views) (sym terms)
              (subst (λ (y : ℕ). IsOrderly k (words_at 0 0 0 0 t y p c) views) (sym back)
              (subst (λ (y : ℕ). IsOrderly k (words_at 0 0 0 0 t 0 y c) views) (sym past) (first-orderly known)))));
        }
