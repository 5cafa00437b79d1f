-- What is least due is taken out of the agenda, or is the next request; and what is due later is put in.
use Rattle.std.proofs.Common.{◌≡◌, ◌≢◌, ℕ, ◌<◌, ◌≤◌, Bool, true, false, cond, eqb, eqb-true, eq-eqb, ltb}
use Rattle.std.proofs.Common.{ltb-true, lt-ltb, le-ltb, List, Option, Some, None, IfSome, refl, sym, ◌∙◌, ap}
use Rattle.std.proofs.Common.{subst, inl, inr, arith}
use Rattle.std.proofs.lemmas.Bool.{false≢true, cases_lt, leb-true, le-leb}
use Rattle.std.specs.Prelude.{nat_le}
use Rattle.sched_calendar.specs.Calendar.{times}
use Rattle.sched_storm_trace.specs.Trace.{Due, updated, NotAfter}
use Rattle.sched_storm.specs.Parameters.{RequestsAreInRange}
use Rattle.sched_storm.specs.Arrivals.{AreArrivals, all_requests, comes_at}
use Rattle.sched_storm.specs.Plays.{Stage, begins, first}
use Rattle.sched_storm.specs.Turns.{kind_of, turn_for, turn_if}
use Rattle.sched_storm.specs.Keys.{key_of, request_in, turn_of, is_this, AreHeld, Holds, Pops, IsBeforeAny, ComesFirst}
use Rattle.sched_storm.specs.Course.{IsPlacedAt, IsPlacedBy, key_if, keys_of, Stands}
use Rattle.sched_storm.specs.Course.{StandsFirst, StandsAfter}
use Rattle.sched_storm.specs.declared.parameters.Parameters.{Parameters}
use Rattle.sched_storm.specs.declared.turns.Kind.{Kind}
use Rattle.sched_storm.specs.declared.turns.Kind.TheVariants.{Begins, Retries, Succeeds, Fails}
use Rattle.sched_storm.specs.declared.turns.Turn.{Turn}
use Rattle.sched_storm.specs.declared.agenda.Agenda.{Agenda}
use Rattle.sched_storm.specs.declared.course.Course.{Course}
use Rattle.sched_storm.proofs.Moments.{comes_later, few_in_all}
use Rattle.sched_storm.proofs.Keys.{request_back, turn_back, key_order, key_order_at}

some_same : {X : Type 0} (a b : X) → Some a ≡ Some b → a ≡ b
some_same a b h = cc

not_none : {X : Type 0} (a : X) → None ≡ Some a → ⊥
not_none a h = cc

pub none_if : {X : Type 0} (o : Option X) → ((x : X) → o ≡ Some x → ⊥) → o ≡ None
none_if None h = refl
none_if (Some x) h = absurd (h x refl)

up : (a b c : ℕ) → a ≤ b → b ≤ c → a ≤ c
up a b c h k = omega arith

same_up : (a b c : ℕ) → a ≡ b → b ≤ c → a ≤ c
same_up a b c h k = omega arith

-- ---- when requests come

pub record ComesBy (ms : List ℕ) (p : Parameters) (n : ℕ) (d : Due Stage) : Type 0 where
  pub few : n < all_requests ms p
  pub by : comes_at ms p n ≤ p.until
  pub is : d ≡ record { at = comes_at ms p n; what = begins }

first_is : (ms : List ℕ) (p : Parameters) (n : ℕ) (d : Due Stage) (b c : Bool) → ltb n (all_requests ms p) ≡ b →
    nat_le (comes_at ms p n) p.until ≡ c →
    cond b (cond c (Some (record { at = comes_at ms p n; what = begins })) None) None ≡ Some d → ComesBy ms p n d
first_is ms p n d true true s t h = record {
  few = ltb-true n (all_requests ms p) s;
  by = leb-true (comes_at ms p n) p.until t;
  is = sym (some_same (record { at = comes_at ms p n; what = begins }) d h);
}
first_is ms p n d true false s t h = absurd (not_none d h)
first_is ms p n d false c s t h = absurd (not_none d h)

pub comes_by : (ms : List ℕ) (p : Parameters) (n : ℕ) (d : Due Stage) → first ms p n ≡ Some d → ComesBy ms p n d
comes_by ms p n d h = first_is ms p n d (ltb n (all_requests ms p)) (nat_le (comes_at ms p n) p.until) refl refl h

both_true : {X : Type 0} (b c : Bool) (x : X) → b ≡ true → c ≡ true → cond b (cond c (Some x) None) None ≡ Some x
both_true true true x h k = refl
both_true true false x h k = absurd (false≢true k)
both_true false c x h k = absurd (false≢true h)

-- where a request comes, each before it came
comes_before : (ms : List ℕ) (p : Parameters) (n q : ℕ) (e : Due Stage) → AreArrivals ms → RequestsAreInRange p →
    n ≤ q → first ms p q ≡ Some e →
    (first ms p n ≡ Some (record { at = comes_at ms p n; what = begins })) × (comes_at ms p n ≤ e.at)
comes_before ms p n q e given ok h is =
    let later = comes_by ms p q e is in
    let few = later.few in
    let by = later.by in
    let order = comes_later ms p n q given ok h few in
    let at = ap (λ (d : Due Stage). d.at) later.is in
    let here : ltb n (all_requests ms p) ≡ true = lt-ltb n (all_requests ms p) (omega arith) in
    let near : nat_le (comes_at ms p n) p.until ≡ true =
    le-leb (comes_at ms p n) p.until (up (comes_at ms p n) (comes_at ms p q) p.until order by) in (
      both_true (ltb n (all_requests ms p)) (nat_le (comes_at ms p n) p.until)
          (record { at = comes_at ms p n; what = begins }) here near,
      subst (λ m. comes_at ms p n ≤ m) (sym at) order,
    )

fits_if : (ms : List ℕ) (p : Parameters) (n : ℕ) (o : Option (Due Stage)) → first ms p n ≡ o → p.until ≤ 7200000 →
    all_requests ms p ≤ 1048576 →
    IfSome (turn_if n o) (λ t. (t.at ≤ 7200000) × (t.request < 1048576))
fits_if ms p n None is until all = tt
fits_if ms p n (Some d) is until all =
    let by = comes_by ms p n d is in
    let few = by.few in
    let near = by.by in
    let at = ap (λ (x : Due Stage). x.at) by.is in
    (same_up d.at (comes_at ms p n) 7200000 at (up (comes_at ms p n) p.until 7200000 near until), omega arith)

-- the next request is one of few, and comes until the end
pub first_fits : (c : Course) → Stands c None → (o : Option Turn) →
    o ≡ turn_if c.requests (first c.arrivals.now c.storm c.requests) →
    IfSome o (λ t. (t.at ≤ 7200000) × (t.request < 1048576))
first_fits c h o is =
    let until = h.in_range.report.until in
    let all = few_in_all c.arrivals.now c.storm h.moments h.in_range.requests in
    subst (λ o. IfSome o (λ t. (t.at ≤ 7200000) × (t.request < 1048576))) (sym is)
    (fits_if c.arrivals.now c.storm c.requests (first c.arrivals.now c.storm c.requests) refl until all)

-- ---- keys

key_due : (r key : ℕ) (o : Option (Due Stage)) → key_if r o ≡ Some key →
    (d : Due Stage) × (o ≡ Some d) × (key_of (turn_for r d) ≡ key)
key_due r key None h = absurd (not_none key h)
key_due r key (Some d) h = (d, refl, some_same (key_of (turn_for r d)) key h)

held_by : (held : ℕ → ℕ) (keys others : ℕ → Option ℕ) → ((r : ℕ) → keys r ≡ others r) → AreHeld held keys →
    AreHeld held others
held_by held keys others same h = record {
  each = λ key. h.each key ∙ ap {B = ℕ} (λ o. cond (is_this key o) 1 0) (same (request_in key));
}

none_in : (q : ℕ) (o : Option (Due Stage)) (b : Bool) → cond b None (key_if q o) ≡ key_if q (cond b None o)
none_in q o true = refl
none_in q o false = refl

some_in : (r q : ℕ) (d : Due Stage) (next : Turn) (o : Option (Due Stage)) → next ≡ turn_for r d → (b : Bool) →
    eqb r q ≡ b →
    cond b (Some (key_of next)) (key_if q o) ≡ key_if q (cond b (Some d) o)
some_in r q d next o is true s =
    let same : r ≡ q = eqb-true r q s in
    ap (λ t. Some (key_of t)) (is ∙ ap (λ x. turn_for x d) same)
some_in r q d next o is false s = refl

placed_at : (k : Kind) (r n : ℕ) → r < n → IsPlacedBy k r n → IsPlacedAt k r n
placed_at Begins r n h p = absurd (omega arith)
placed_at Retries r n h p = p
placed_at Succeeds r n h p = p
placed_at (Fails failure) r n h p = p

-- of two turns, by their keys
turns_order : (r q : ℕ) (d e : Due Stage) → r < 1048576 → q < 1048576 → key_of (turn_for r d) ≤ key_of (turn_for q e) →
    NotAfter d.at r e.at q
turns_order r q d e h k order = record {
  moment = key_order (turn_for r d) (turn_for q e) h k order;
  number = λ same. key_order_at (turn_for r d) (turn_for q e) h k order same;
}

-- ---- what is taken out

module _ (old : Course) (a : Agenda) (was : Stands old None) where
  number : (r : ℕ) (d : Due Stage) → was.due r ≡ Some d → r < 1048576
  number r d at =
      let few = (was.near r d at).number in
      let all = few_in_all old.arrivals.now old.storm was.moments was.in_range.requests in
      omega arith

  -- what is due of a request that came is held
  is_held : (r : ℕ) (o : Option (Due Stage)) → was.due r ≡ o → r < old.requests → was.held r ≡ o
  is_held r o at came =
      let here : ltb r old.requests ≡ true = lt-ltb r old.requests came in
      ap (λ b. cond b (was.held r) (first old.arrivals.now old.storm r)) (sym here) ∙ (sym (was.others r tt) ∙ at)

  is_coming : (r : ℕ) (o : Option (Due Stage)) → was.due r ≡ o → old.requests ≤ r →
      first old.arrivals.now old.storm r ≡ o
  is_coming r o at more =
      let here : ltb r old.requests ≡ false = le-ltb r old.requests more in
      ap (λ b. cond b (was.held r) (first old.arrivals.now old.storm r)) (sym here) ∙ (sym (was.others r tt) ∙ at)

  module _ (next : Turn) (h : Pops (keys_of was.held) (turn_if old.requests
      (first old.arrivals.now old.storm old.requests)) next a)
      (d : Due Stage)
      (held_is : was.held next.request ≡ Some d) (key_is : key_of (turn_for next.request d) ≡ h.key) where
    abbrev r : ℕ
    r = next.request

    r_came : r < old.requests
    r_came = elim (cases_lt r old.requests) [ inl k ↦ k | inr k ↦ absurd (not_none d (sym (was.unheld r k) ∙ held_is)) ]

    r_due : was.due r ≡ Some d
    r_due =
        let here : ltb r old.requests ≡ true = lt-ltb r old.requests r_came in
        was.others r tt ∙ (ap (λ b. cond b (was.held r) (first old.arrivals.now old.storm r)) here ∙ held_is)

    next_is : next ≡ turn_for r d
    next_is = h.is ∙ (ap turn_of (sym key_is) ∙ turn_back (turn_for r d) (number r d r_due))

    least_if : (q : ℕ) (e : Due Stage) → was.due q ≡ Some e → NotAfter d.at r e.at q
    least_if q e at = elim (cases_lt q old.requests) [
      | inl k ↦ (
          let held = is_held q (Some e) at k in
          let few = number q e at in
          let key : keys_of was.held q ≡ Some (key_of (turn_for q e)) = ap (key_if q) held in
          let order = h.least q (key_of (turn_for q e)) key (request_back (turn_for q e) few) in
          turns_order r q d e (number r d r_due) few (omega arith)
          )
      | inr k ↦ (
          let before = comes_before old.arrivals.now old.storm old.requests q e was.moments was.in_range.requests k
          (is_coming q (Some e) at k) in
          let n : Due Stage = record { at = comes_at old.arrivals.now old.storm old.requests; what = begins } in
          let under : IsBeforeAny (Some (turn_for old.requests n)) h.key =
          subst (λ o. IsBeforeAny (turn_if old.requests o) h.key) before.0 h.before in
          let came = r_came in
          let few = (was.near q e at).number in
          let all = few_in_all old.arrivals.now old.storm was.moments was.in_range.requests in
          let order = key_order (turn_for r d) (turn_for old.requests n) (number r d r_due) (omega arith)
          (omega arith) in
          record {
            moment = up d.at (comes_at old.arrivals.now old.storm old.requests) e.at order before.1;
            number = λ
                _. omega arith;
          }
          )
    ]

    apart_held : (q : ℕ) → q ≢ r → updated was.held r None q ≡ was.held q
    apart_held q apart = apart_if (eqb r q) refl
      where
        apart_if : (b : Bool) → eqb r q ≡ b → cond b None (was.held q) ≡ was.held q
        apart_if true s = absurd (apart (sym (eqb-true r q s)))
        apart_if false s = refl

    none_held : (q : ℕ) → old.requests ≤ q → (b : Bool) → cond b None (was.held q) ≡ None
    none_held q more true = refl
    none_held q more false = was.unheld q more

    taken_stands : Stands (record old { agenda = a }) (Some next)
    taken_stands = record {
      events = was.events;
      due = was.due;
      held = updated was.held r None;
      begun = was.begun;
      told = was.told;
      clients = was.clients;
      holds = held_by (times a.keys) (updated (keys_of was.held) r None) (keys_of (updated was.held r None))
          (λ q. none_in q (was.held q) (eqb r q)) h.left;
      out = record {
        call = d;
        is_due = r_due;
        turn_is = next_is;
        not_held = ap (λ b. cond b None (was.held r)) (eq-eqb r r refl);
        placed = subst (λ k. IsPlacedAt k r old.requests) (sym (ap (λ (t : Turn). t.kind) next_is))
            (placed_at (kind_of d.what) r old.requests r_came (was.near r d r_due).placed);
      };
      others = λ q apart. was.others q tt ∙ ap (λ o. cond (ltb q old.requests) o (first old.arrivals.now old.storm q))
          (sym (apart_held q apart));
      unheld = λ q more. none_held q more (eqb r q);
      near = λ q e at. (let n = was.near q e at in
          record {
            by = n.by;
            number = n.number;
            begun = n.begun;
            placed = n.placed;
            told = n.told;
            drives = n.drives;
          });
      in_range = was.in_range;
      moments = was.moments;
      comes = was.comes;
      requests = was.requests;
      slots = was.slots;
      calls = was.calls;
      few_calls = was.few_calls;
      busy = was.busy;
      asked = was.asked;
      given = was.given;
      said = was.said;
      number = was.number;
      window = was.window;
    }

    taken_first : StandsFirst (record old { agenda = a }) (Some next)
    unfolding taken_stands
    taken_first = record {
      stands = taken_stands;
      first_is = λ q e at. subst (λ t. NotAfter t r e.at q) (sym (ap (λ (t : Turn). t.at) next_is)) (least_if q e at);
    }

  -- what is least due is taken out
  pub take_out : (o : Option Turn) (next : Turn) → o ≡ turn_if old.requests
      (first old.arrivals.now old.storm old.requests) →
      Pops (keys_of was.held) o next a →
      StandsFirst (record old { agenda = a }) (Some next)
  take_out o next is pops =
      let h = subst (λ x. Pops (keys_of was.held) x next a) is pops in
      let held = key_due next.request h.key (was.held next.request) h.was in
      taken_first next h held.0 held.1 held.2

  -- the next request comes before what is due of those that came, or nothing is due
  module _ (same : Holds a (keys_of was.held)) where
    stands_so : Stands (record old { agenda = a }) None
    stands_so = record {
      events = was.events;
      due = was.due;
      held = was.held;
      begun = was.begun;
      told = was.told;
      clients = was.clients;
      holds = same;
      out = tt;
      others = was.others;
      unheld = was.unheld;
      near = λ q e at. (let n = was.near q e at in
          record {
            by = n.by;
            number = n.number;
            begun = n.begun;
            placed = n.placed;
            told = n.told;
            drives = n.drives;
          });
      in_range = was.in_range;
      moments = was.moments;
      comes = was.comes;
      requests = was.requests;
      slots = was.slots;
      calls = was.calls;
      few_calls = was.few_calls;
      busy = was.busy;
      asked = was.asked;
      given = was.given;
      said = was.said;
      number = was.number;
      window = was.window;
    }

    nothing_due : first old.arrivals.now old.storm old.requests ≡ None → ComesFirst (keys_of was.held) None →
        (q : ℕ) (e : Due Stage) →
        was.due q ≡ Some e → ⊥
    nothing_due none empty q e at = elim (cases_lt q old.requests) [
      | inl k ↦ empty q (key_of (turn_for q e)) (ap (key_if q) (is_held q (Some e) at k))
          (request_back (turn_for q e) (number q e at))
      | inr k ↦ not_none _ (sym none ∙ (comes_before old.arrivals.now old.storm old.requests q e was.moments
          was.in_range.requests k
          (is_coming q (Some e) at k)).0)
    ]

    request_first : (n : Due Stage) → first old.arrivals.now old.storm old.requests ≡ Some n →
        ComesFirst (keys_of was.held) (Some (turn_for old.requests n)) →
        StandsFirst (record old { agenda = a }) (Some (turn_for old.requests n))
    request_first n is before =
        let r = old.requests in
        let by = comes_by old.arrivals.now old.storm r n is in
        let here : ltb r r ≡ false = le-ltb r r (omega arith) in
        let due_is : was.due r ≡ Some n = was.others r tt
        ∙ (ap (λ b. cond b (was.held r) (first old.arrivals.now old.storm r)) here ∙ is) in
        let what : begins ≡ n.what = ap (λ (d : Due Stage). d.what) (sym by.is) in
        let at_is = ap (λ (d : Due Stage). d.at) by.is in
        record {
          stands = record {
            events = was.events;
            due = was.due;
            held = was.held;
            begun = was.begun;
            told = was.told;
            clients = was.clients;
            holds = same;
            out = record {
              call = n;
              is_due = due_is;
              turn_is = refl;
              not_held = was.unheld r (omega arith);
              placed = subst (λ w. IsPlacedAt (kind_of w) r r) what refl;
            };
            others = λ q _. was.others q tt;
            unheld = was.unheld;
            near = λ q e at. (let m = was.near q e at in
                record {
                  by = m.by;
                  number = m.number;
                  begun = m.begun;
                  placed = m.placed;
                  told = m.told;
                  drives = m.drives;
                });
            in_range = was.in_range;
            moments = was.moments;
            comes = was.comes;
            requests = was.requests;
            slots = was.slots;
            calls = was.calls;
            few_calls = was.few_calls;
            busy = was.busy;
            asked = was.asked;
            given = was.given;
            said = was.said;
            number = was.number;
            window = was.window;
          };
          first_is = λ q e at. elim (cases_lt q r) [
            | inl k ↦ turns_order r q n e (number r n due_is) (number q e at)
                (before q (key_of (turn_for q e)) (ap (key_if q) (is_held q (Some e) at k))
                (request_back (turn_for q e) (number q e at)))
            | inr k ↦ (
                let later = (comes_before old.arrivals.now old.storm r q e was.moments was.in_range.requests k
                (is_coming q (Some e) at k)).1 in
                record {
                  moment = same_up n.at (comes_at old.arrivals.now old.storm r) e.at at_is later;
                  number = λ _.
                      k;
                }
                )
          ];
        }

    take_if : (o : Option (Due Stage)) → first old.arrivals.now old.storm old.requests ≡ o →
        ComesFirst (keys_of was.held) (turn_if old.requests o) →
        StandsFirst (record old { agenda = a }) (turn_if old.requests o)
    unfolding stands_so
    take_if None is before =
        record { stands = stands_so; first_is = λ q. none_if (was.due q) (nothing_due is before q) }
    take_if (Some n) is before = request_first n is before

    pub take_none : (o : Option Turn) → o ≡ turn_if old.requests (first old.arrivals.now old.storm old.requests) →
        ComesFirst (keys_of was.held) o →
        StandsFirst (record old { agenda = a }) o
    take_none o is before =
        subst (λ x. StandsFirst (record old { agenda = a }) x) (sym is)
        (take_if (first old.arrivals.now old.storm old.requests) refl (subst (λ x. ComesFirst
        (keys_of was.held) x) is before))

-- ---- what is put in

module _ (old : Course) (a : Agenda) (t q : ℕ) (next : Turn) (h : StandsAfter t q old (Some next)) where
  abbrev was : Stands old (Some next)
  was = h.stands

  r_came_too : next.request < old.requests
  r_came_too = let came = h.turn_is.1 in let same = h.turn_is.0 in omega arith

  pub may_put : (next.at ≤ 7200000) × (next.request < 1048576)
  may_put =
      let out = was.out in
      let near = was.near next.request out.call out.is_due in
      let by = near.by in
      let few = near.number in
      let all = few_in_all old.arrivals.now old.storm was.moments was.in_range.requests in
      let until = was.in_range.report.until in
      let at = ap (λ (x : Turn). x.at) out.turn_is in
      (omega arith, omega arith)

  put_other : (s : ℕ) (b : Bool) → eqb next.request s ≡ b →
      was.due s ≡ cond (ltb s old.requests) (cond b (Some was.out.call) (was.held s))
      (first old.arrivals.now old.storm s)
  put_other s true e =
      let same : next.request ≡ s = eqb-true next.request s e in
      let came : ltb s old.requests ≡ true = lt-ltb s old.requests (let c = r_came_too in omega arith) in
      ap was.due (sym same) ∙ (was.out.is_due ∙ ap (λ b. cond b (Some was.out.call)
      (first old.arrivals.now old.storm s)) (sym came))
  put_other s false e = was.others s (λ same. false≢true (sym e ∙ eq-eqb next.request s (sym same)))

  put_unheld : (s : ℕ) → old.requests ≤ s → (b : Bool) → eqb next.request s ≡ b →
      cond b (Some was.out.call) (was.held s) ≡ None
  put_unheld s more true e = let same = eqb-true next.request s e in let came = r_came_too in absurd (omega arith)
  put_unheld s more false e = was.unheld s more

  pub put_in_agenda : Holds a (updated (keys_of was.held) next.request (Some (key_of next))) →
      Stands (record old { agenda = a }) None
  put_in_agenda put = record {
    events = was.events;
    due = was.due;
    held = updated was.held next.request (Some was.out.call);
    begun = was.begun;
    told = was.told;
    clients = was.clients;
    holds = held_by (times a.keys) (updated (keys_of was.held) next.request (Some (key_of next)))
        (keys_of (updated was.held next.request (Some was.out.call)))
        (λ s. some_in next.request s was.out.call next (was.held s) was.out.turn_is (eqb next.request s) refl) put;
    out = tt;
    others = λ s _. put_other s (eqb next.request s) refl;
    unheld = λ s more. put_unheld s more (eqb next.request s) refl;
    near = λ s e at. (let n = was.near s e at in
        record {
          by = n.by;
          number = n.number;
          begun = n.begun;
          placed = n.placed;
          told = n.told;
          drives = n.drives;
        });
    in_range = was.in_range;
    moments = was.moments;
    comes = was.comes;
    requests = was.requests;
    slots = was.slots;
    calls = was.calls;
    few_calls = was.few_calls;
    busy = was.busy;
    asked = was.asked;
    given = was.given;
    said = was.said;
    number = was.number;
    window = was.window;
  }

  pub not_in_agenda : keys_of was.held next.request ≡ None
  not_in_agenda = ap (key_if next.request) was.out.not_held

  pub in_turn : next.at ≡ t → StandsFirst old (Some next)
  in_turn at =
      let request = h.turn_is.0 in
      record {
        stands = was;
        first_is = λ s e is. subst (λ m. NotAfter m next.request e.at s) (sym at)
            (subst (λ x. NotAfter t x e.at s) (sym request) (h.later s e is));
      }
