-- Progress that fits goes on fitting.
use Rattle.std.proofs.Common.{ℕ, ◌≤◌, Bool, true, false, ◌&&◌, if◌then◌else◌, IsTrue, Option, Some, None, [], refl, sym}
use Rattle.std.proofs.Common.{subst, arith, le-leb}
use Rattle.std.proofs.lemmas.Bool.{and_parts, and_from, cond_both, false≢true}
use Rattle.std.proofs.lemmas.Bool.Decides.{nat_tests}
use Rattle.sched_plan.specs.Schedule.{Schedule, leaf, one, two}
use Rattle.sched_plan.specs.Datum.{Datum}
use Rattle.sched_plan.specs.Outputs.{with_input}
use Rattle.sched_plan.specs.Answer.{is_done}
use Rattle.sched_plan.specs.declared.leaves.Leaf.{Leaf}
use Rattle.sched_plan.specs.declared.leaves.Leaf.TheVariants.{Forever, Fixed, Windowed, Elapsed}
use Rattle.sched_plan.specs.declared.nodes.Fold.{Fold}
use Rattle.sched_plan.specs.declared.nodes.Fold.TheVariants.{Sum}
use Rattle.sched_plan.specs.declared.nodes.One.{One}
use Rattle.sched_plan.specs.declared.nodes.One.TheVariants.{Gather, Within, EndsBy, Renew, RenewIdle}
use Rattle.sched_plan.specs.declared.nodes.Two.{Two}
use Rattle.sched_plan.specs.declared.nodes.Two.TheVariants.{Meet, Join, Follow, Feed}
use Rattle.sched_plan.specs.declared.history.Event.{Event}
use Rattle.sched_plan.specs.declared.history.Answer.{Answer}
use Rattle.sched_step.specs.declared.leaves.LeafState.{LeafState}
use Rattle.sched_step.specs.declared.leaves.LeafState.TheVariants.{Planned, Windows, Started}
use Rattle.sched_step.specs.declared.turns.Turn.{Turn}
use Rattle.sched_step.specs.declared.turns.Turn.TheVariants.{Together, Uncrossed, Crossed}
use Rattle.sched_step.specs.Progress.{Kept, since, round_since, last_at, Progress, at_leaf, at_one, at_two, is_past}
use Rattle.sched_step.specs.Progress.{leaf_keeps, leaf_began, one_keeps, one_began, two_keeps, fits}
use Rattle.sched_step.specs.StateOf.{leaf_state, first_kept, first_turn, state_of}
use Rattle.sched_step.specs.Step.{leaf_next, begins, is_over, fold_next, round_next, one_next, at_crossing}
use Rattle.sched_step.specs.Step.{past_crossing, two_step, kept_or_now, step_of}
use Rattle.sched_step.proofs.laws.First.{first_one, first_two}

-- Before the first event it fits at every moment.

pub first_leaf_fits : (l : Leaf) (now : ℕ) → IsTrue (leaf_keeps l (leaf_state l []) && leaf_began (leaf_state l []) now)
first_leaf_fits Forever now = refl
first_leaf_fits l now = refl

first_fold_fits : (fold : Fold) (now : ℕ) →
    IsTrue (one_keeps (Gather fold) (first_kept (Gather fold)) && one_began (first_kept (Gather fold)) now)
first_fold_fits Sum now = refl
first_fold_fits fold now = refl

pub first_kept_fits : (k : One) (now : ℕ) → IsTrue (one_keeps k (first_kept k) && one_began (first_kept k) now)
first_kept_fits (Gather fold) now = first_fold_fits fold now
first_kept_fits k now = refl

first_turn_fits : (k : Two) → IsTrue (two_keeps k (first_turn k))
first_turn_fits Meet = refl
first_turn_fits k = refl

pub fits_first : (s : Schedule) (now : ℕ) → IsTrue (fits s (state_of s []) now)
fits_first (leaf l) now = first_leaf_fits l now
fits_first (one k a) now =
    subst (λ p. IsTrue (fits (one k a) p now)) (sym (first_one k a))
    (and_from _ _ (first_kept_fits k now) (fits_first a now))
fits_first (two k a b) now =
    subst (λ p. IsTrue (fits (two k a b) p now)) (sym (first_two k a b))
    (and_from _ _ (and_from _ _ (first_turn_fits k) (fits_first a now)) (fits_first b now))

-- What fits at a moment fits later.

past_later : (first : Option ℕ) (now m : ℕ) → IsTrue (is_past first now) → now ≤ m → IsTrue (is_past first m)
past_later None now m past le = refl
past_later (Some f) now m past le = grind (arith, nat_tests)

leaf_began_later : (s : LeafState) (now m : ℕ) → IsTrue (leaf_began s now) → now ≤ m → IsTrue (leaf_began s m)
leaf_began_later (Planned n (Some p)) now m began le = past_later (Some p.0) now m began le
leaf_began_later (Planned n None) now m began le = refl
leaf_began_later (Windows n first) now m began le = past_later first now m began le
leaf_began_later (Started first) now m began le = past_later first now m began le
leaf_began_later s now m began le = refl

one_began_later : (s : Kept) (now m : ℕ) → IsTrue (one_began s now) → now ≤ m → IsTrue (one_began s m)
one_began_later (since first) now m began le = past_later first now m began le
one_began_later (round_since first) now m began le = past_later first now m began le
one_began_later (last_at last) now m began le = past_later last now m began le
one_began_later s now m began le = refl

pub fits_later : (s : Schedule) (p : Progress) (now m : ℕ) → IsTrue (fits s p now) → now ≤ m → IsTrue (fits s p m)
fits_later (leaf l) (at_leaf s) now m fitting le =
    let parts = and_parts (leaf_keeps l s) (leaf_began s now) fitting in
    and_from _ _ parts.0 (leaf_began_later s now m parts.1 le)
fits_later (one k a) (at_one s p) now m fitting le =
    let parts = and_parts (one_keeps k s && one_began s now) (fits a p now) fitting in
    let own = and_parts (one_keeps k s) (one_began s now) parts.0 in
    and_from _ _ (and_from _ _ own.0 (one_began_later s now m own.1 le)) (fits_later a p now m parts.1 le)
fits_later (two k a b) (at_two t p q) now m fitting le =
    let parts = and_parts (two_keeps k t && fits a p now) (fits b q now) fitting in
    let front = and_parts (two_keeps k t) (fits a p now) parts.0 in
    and_from _ _ (and_from _ _ front.0 (fits_later a p now m front.1 le)) (fits_later b q now m parts.1 le)
fits_later s p now m fitting le = absurd (false≢true fitting)

-- What fits at an event goes on fitting after a step with it.

kept_or_now_past : (first : Option ℕ) (now m : ℕ) → IsTrue (is_past first now) → now ≤ m →
    IsTrue (is_past (Some (kept_or_now first now)) m)
kept_or_now_past None now m past le = le-leb now m le
kept_or_now_past (Some f) now m past le = past_later (Some f) now m past le

leaf_fits_next : (l : Leaf) (s : LeafState) (e : Event) (m : ℕ) → IsTrue (leaf_keeps l s)
    → IsTrue (leaf_began s e.now) →
    e.now ≤ m → IsTrue (leaf_keeps l (leaf_next l s e) && leaf_began (leaf_next l s e) m)
leaf_fits_next (Fixed d) (Planned n None) e m keeps began le = le-leb e.now m le
leaf_fits_next (Fixed d) (Planned n (Some p)) e m keeps began le = past_later (Some p.0) e.now m began le
leaf_fits_next (Fixed d) s e m keeps began le = absurd (false≢true keeps)
leaf_fits_next (Windowed d) (Windows n first) e m keeps began le = kept_or_now_past first e.now m began le
leaf_fits_next (Windowed d) s e m keeps began le = absurd (false≢true keeps)
leaf_fits_next Elapsed (Started first) e m keeps began le = kept_or_now_past first e.now m began le
leaf_fits_next Elapsed s e m keeps began le = absurd (false≢true keeps)
leaf_fits_next l s e m keeps began le = refl

fold_fits_next : (fold : Fold) (s : Kept) (a : Answer) (m : ℕ) →
    IsTrue (one_keeps (Gather fold) (fold_next fold s a) && one_began (fold_next fold s a) m)
fold_fits_next Sum s a m = refl
fold_fits_next fold s a m = refl

one_keeps_next : (k : One) (s : Kept) (e : Event) (a : Answer) → IsTrue (one_keeps k (one_next k s e a))
one_keeps_next (Gather fold) s e a = (and_parts _ _ (fold_fits_next fold s a 0)).0
one_keeps_next k s e a = refl

round_next_past : (anew : Bool) (first : Option ℕ) (now m : ℕ) → IsTrue (is_past first now) → now ≤ m →
    IsTrue (is_past (Some (round_next anew first now)) m)
round_next_past true first now m past le = le-leb now m le
round_next_past false first now m past le = kept_or_now_past first now m past le

one_began_next : (k : One) (s : Kept) (e : Event) (a : Answer) (m : ℕ) → IsTrue (one_keeps k s) →
    IsTrue (one_began s e.now) → e.now ≤ m → IsTrue (one_began (one_next k s e a) m)
one_began_next (Within d) (since first) e a m keeps began le = kept_or_now_past first e.now m began le
one_began_next (Within d) s e a m keeps began le = absurd (false≢true keeps)
one_began_next (EndsBy d) (since first) e a m keeps began le = kept_or_now_past first e.now m began le
one_began_next (EndsBy d) s e a m keeps began le = absurd (false≢true keeps)
one_began_next (Gather fold) s e a m keeps began le = (and_parts _ _ (fold_fits_next fold s a m)).1
one_began_next (Renew d) (round_since first) e a m keeps began le =
    round_next_past (is_over d first e.now) first e.now m began le
one_began_next (Renew d) s e a m keeps began le = absurd (false≢true keeps)
one_began_next (RenewIdle d) s e a m keeps began le = le-leb e.now m le
one_began_next k s e a m keeps began le = refl

module _
    (a b : Schedule) (e : Event) (m : ℕ) (le : e.now ≤ m)
    (front_fits : (p : Progress) → IsTrue (fits a p e.now) → IsTrue (fits a (step_of a p e).0 m))
    (rest_fits : (q : Progress) (input : Datum) → IsTrue (fits b q e.now)
    → IsTrue (fits b (step_of b q (with_input input e)).0 m))
    (p q : Progress) (p_fits : IsTrue (fits a p e.now)) (q_fits : IsTrue (fits b q e.now)) where
  at_crossing_fits : IsTrue (fits (two Follow a b) (at_crossing (step_of a p e) q (step_of b q e)).0 m)
  at_crossing_fits =
      let first : Progress × Answer = step_of a p e in
      let second : Progress × Answer = step_of b q e in
      cond_both (is_done first.1.decision) (past_crossing first.0 second) (at_two Uncrossed first.0 q, first.1)
      (λ (r : Progress × Answer). IsTrue (fits (two Follow a b) r.0 m))
      (λ done. and_from _ _ (front_fits p p_fits) (rest_fits q e.input q_fits))
      (λ goes_on. and_from _ _ (front_fits p p_fits) (fits_later b q e.now m q_fits le))

  two_fits : (k : Two) (t : Turn) → IsTrue (fits (two k a b) (two_step k (step_of a) (step_of b) t p q e).0 m)
  two_fits Meet t = and_from _ _ (front_fits p p_fits) (rest_fits q e.input q_fits)
  two_fits Join t = and_from _ _ (front_fits p p_fits) (rest_fits q e.input q_fits)
  two_fits Feed t = and_from _ _ (front_fits p p_fits) (rest_fits q (step_of a p e).1.output q_fits)
  two_fits Follow Together = at_crossing_fits
  two_fits Follow Uncrossed = at_crossing_fits
  two_fits Follow Crossed = and_from _ _ (fits_later a p e.now m p_fits le) (rest_fits q e.input q_fits)

-- the schedule under a node fits where it begins anew too
begins_fits : (b : Bool) (a : Schedule) (p : Progress) (now : ℕ) → IsTrue (fits a p now) →
    IsTrue (fits a (if b then state_of a [] else p) now)
begins_fits true a p now fitting = fits_first a now
begins_fits false a p now fitting = fitting

pub fits_law : (s : Schedule) (p : Progress) (e : Event) (m : ℕ) → IsTrue (fits s p e.now) → e.now ≤ m →
    IsTrue (fits s (step_of s p e).0 m)
fits_law (leaf l) (at_leaf s) e m fitting le =
    let parts = and_parts (leaf_keeps l s) (leaf_began s e.now) fitting in
    leaf_fits_next l s e m parts.0 parts.1 le
fits_law (one k a) (at_one s p) e m fitting le =
    let parts = and_parts (one_keeps k s && one_began s e.now) (fits a p e.now) fitting in
    let own = and_parts (one_keeps k s) (one_began s e.now) parts.0 in
    let from : Progress = if begins k s e.now then state_of a [] else p in
    let given : Answer = (step_of a from e).1 in
    and_from _ _ (and_from _ _ (one_keeps_next k s e given) (one_began_next k s e given m own.0 own.1 le))
    (fits_law a from e m (begins_fits (begins k s e.now) a p e.now parts.1) le)
fits_law (two k a b) (at_two t p q) e m fitting le =
    let parts = and_parts (two_keeps k t && fits a p e.now) (fits b q e.now) fitting in
    let front = and_parts (two_keeps k t) (fits a p e.now) parts.0 in
    two_fits a b e m le (λ r fits_r. fits_law a r e m fits_r le)
    (λ r input fits_r. fits_law b r (with_input input e) m fits_r le)
    p q front.1 parts.1 k t
fits_law s p e m fitting le = absurd (false≢true fitting)
