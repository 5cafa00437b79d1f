-- The step of a node over one schedule: a lemma for each node, and the law that they make together.
use Rattle.std.proofs.Common.{◌≡◌, ℕ, ◌+◌, ◌-◌, min, max, List, [], ◌∷◌, ◌++◌, Bool, true, false, if◌then◌else◌, nat_le}
use Rattle.std.proofs.Common.{get_or, refl, sym, ap, ◌∙◌}
use Rattle.sched_time.specs.Capped.{capped}
use Rattle.sched_plan.specs.Datum.{Datum}
use Rattle.sched_plan.specs.History.{first_moment, last_moment}
use Rattle.sched_plan.proofs.HistoryLaws.{last_moment-push, last_input-push, last_words-push}
use Rattle.sched_plan.specs.Outputs.{goes_on, outputs, number_of, sum_in, count_in, greatest_in}
use Rattle.sched_plan.proofs.OutputLaws.{outputs-push, earlier_outputs-push, sum_in-push, count_in-push}
use Rattle.sched_plan.proofs.OutputLaws.{greatest_in-push}
use Rattle.sched_plan.specs.Delays.{added, added_out, jittered}
use Rattle.sched_plan.specs.Gates.{gated}
use Rattle.sched_plan.specs.Answer.{gathered, changed}
use Rattle.sched_plan.specs.Changes.{ended_where, goes_past, delayed, giving}
use Rattle.sched_plan.specs.declared.nodes.Fold.{Fold}
use Rattle.sched_plan.specs.declared.nodes.Fold.TheVariants.{Sum, Count, Max, List as Listing}
use Rattle.sched_plan.specs.declared.nodes.One.{One}
use Rattle.sched_plan.specs.declared.nodes.One.TheVariants.{Gate, Gather, Add, Set, Cap, AddOut, Jitter, Within, EndsBy}
use Rattle.sched_plan.specs.declared.nodes.One.TheVariants.{Renew, RenewIdle}
use Rattle.sched_plan.specs.declared.history.Event.{Event}
use Rattle.sched_plan.specs.declared.history.Answer.{Answer}
use Rattle.sched_step.specs.Progress.{Kept, since, round_since, last_at, total, Progress, at_one}
use Rattle.sched_step.specs.StateOf.{began_at, folded, kept_of, seen}
use Rattle.sched_step.specs.Step.{kept_or_now, begins, fold_next, fold_shows, one_next, one_answers, one_step}
use Rattle.sched_step.proofs.Moments.{began_at-push, first_moment_kept, ended_at-push, last_block_kept, last_run_kept}
use Rattle.sched_step.proofs.Moments.{round_kept}

-- Within and EndsBy: the first moment.

within_answers-push : (d : ℕ) (h : List Event) (e : Event) (a : Answer) →
    ended_where (nat_le d (e.now - kept_or_now (began_at h) e.now)) a ≡
    ended_where (nat_le d (last_moment (h ++ e ∷ []) - first_moment (h ++ e ∷ []))) a
within_answers-push d h e a =
    λ i. ended_where (nat_le d (sym (last_moment-push h e) i - first_moment_kept h e i)) a

ends_by_answers-push : (d : ℕ) (h : List Event) (e : Event) (a : Answer) →
    ended_where (goes_past (capped (kept_or_now (began_at h) e.now + d)) a.decision) a ≡
    ended_where (goes_past (capped (first_moment (h ++ e ∷ []) + d)) a.decision) a
ends_by_answers-push d h e a = λ i. ended_where (goes_past (capped (first_moment_kept h e i + d)) a.decision) a

-- Gather: a fold over the outputs so far.

module _ (ds : List Datum) (x : Datum) where
  sum_where : (goes : Bool)
      → (if goes then capped (sum_in ds + number_of x) else sum_in ds) ≡ sum_in (if goes then ds ++ x ∷ [] else ds)
  sum_where true = sym (sum_in-push ds x)
  sum_where false = refl

  count_where : (goes : Bool)
      → (if goes then capped (count_in ds + 1) else count_in ds) ≡ count_in (if goes then ds ++ x ∷ [] else ds)
  count_where true = sym (count_in-push ds x)
  count_where false = refl

  greatest_where : (goes : Bool) →
      (if goes then max (greatest_in ds) (number_of x) else greatest_in ds)
      ≡ greatest_in (if goes then ds ++ x ∷ [] else ds)
  greatest_where true = sym (greatest_in-push ds x)
  greatest_where false = refl

-- the fold takes the output of a step at which the schedule goes on
fold_next-push : (fold : Fold) (ds : List Datum) (a : Answer) →
    fold_next fold (folded fold ds) a ≡ folded fold (if goes_on a.decision then ds ++ a.output ∷ [] else ds)
fold_next-push Sum ds a = ap total (sum_where ds a.output (goes_on a.decision))
fold_next-push Count ds a = ap total (count_where ds a.output (goes_on a.decision))
fold_next-push Max ds a = ap total (greatest_where ds a.output (goes_on a.decision))
fold_next-push Listing ds a = refl

fold_shows-folded : (fold : Fold) (ds : List Datum) → fold_shows fold (folded fold ds) ≡ gathered fold ds
fold_shows-folded Sum ds = refl
fold_shows-folded Count ds = refl
fold_shows-folded Max ds = refl
fold_shows-folded Listing ds = refl

-- All nodes over one schedule.

-- the schedule under the node has been given this event too, or this event alone where it begins anew
pub seen-push : (k : One) (f : List Event → Answer) (h : List Event) (e : Event) →
    seen k (h ++ e ∷ []) ≡ (if begins k (kept_of k f h) e.now then [] else seen k h) ++ e ∷ []
seen-push (Renew d) f h e = last_block_kept d h e
seen-push (RenewIdle d) f h e = last_run_kept d h e
seen-push k f h e = refl

-- what the node keeps grows with the history
pub kept_of-push : (k : One) (f : List Event → Answer) (h : List Event) (e : Event) →
    one_next k (kept_of k f h) e (f (seen k (h ++ e ∷ []))) ≡ kept_of k f (h ++ e ∷ [])
kept_of-push (Gather fold) f h e =
    fold_next-push fold (outputs f h) (f (h ++ e ∷ [])) ∙ ap (folded fold) (sym (outputs-push f h e))
kept_of-push (Within d) f h e = ap since (began_at-push h e)
kept_of-push (EndsBy d) f h e = ap since (began_at-push h e)
kept_of-push (Renew d) f h e = ap round_since (round_kept d h e)
kept_of-push (RenewIdle d) f h e = ap last_at (ended_at-push h e)
kept_of-push k f h e = refl

-- the node answers by the definition
pub changed-push : (k : One) (f : List Event → Answer) (h : List Event) (e : Event) →
    one_answers k (kept_of k f h) e (f (seen k (h ++ e ∷ []))) ≡ changed k f (h ++ e ∷ [])
changed-push (Gate side want test bound) f h e =
    ap (λ input. gated side want test bound input (f (h ++ e ∷ []))) (sym (last_input-push h e))
changed-push (Gather fold) f h e =
    ap (λ output. giving output (f (h ++ e ∷ [])))
    (fold_shows-folded fold (outputs f h) ∙ ap (gathered fold) (sym (earlier_outputs-push f h e)))
changed-push (Add d) f h e = ap (λ now. delayed (added d) now (f (h ++ e ∷ []))) (sym (last_moment-push h e))
changed-push (Set d) f h e = ap (λ now. delayed (λ _. d) now (f (h ++ e ∷ []))) (sym (last_moment-push h e))
changed-push (Cap d) f h e =
    ap (λ now. delayed (λ delay. min delay d) now (f (h ++ e ∷ []))) (sym (last_moment-push h e))
changed-push AddOut f h e =
    let a : Answer = f (h ++ e ∷ []) in ap (λ now. delayed (added_out a.output) now a) (sym (last_moment-push h e))
changed-push (Jitter lane least most) f h e =
    λ i. delayed (jittered least most (get_or (sym (last_words-push h e) i) lane 0)) (sym (last_moment-push h e) i)
    (f (h ++ e ∷ []))
changed-push (Within d) f h e = within_answers-push d h e (f (h ++ e ∷ []))
changed-push (EndsBy d) f h e = ends_by_answers-push d h e (f (h ++ e ∷ []))
changed-push k f h e = refl

module _
    (state : List Event → Progress) (f : List Event → Answer) (step : Progress → Event → Progress × Answer)
    (law : (h : List Event) (e : Event) → step (state h) e ≡ (state (h ++ e ∷ []), f (h ++ e ∷ []))) where
  -- a schedule that begins anew was given no events
  begins_anew : (b : Bool) (h : List Event) → (if b then state [] else state h) ≡ state (if b then [] else h)
  begins_anew true h = refl
  begins_anew false h = refl

  -- the schedule under the node is stepped by the law
  under : (k : One) (h : List Event) (e : Event) →
      step (if begins k (kept_of k f h) e.now then state [] else state (seen k h)) e ≡
      (state (seen k (h ++ e ∷ [])), f (seen k (h ++ e ∷ [])))
  under k h e =
      let b : Bool = begins k (kept_of k f h) e.now in
      ap (λ p. step p e) (begins_anew b (seen k h))
      ∙ law (if b then [] else seen k h) e
      ∙ ap (λ g. (state g, f g)) (sym (seen-push k f h e))

  -- so is the node
  pub one_law : (k : One) (h : List Event) (e : Event) →
      one_step k (state []) step (kept_of k f h) (state (seen k h)) e ≡
      (at_one (kept_of k f (h ++ e ∷ [])) (state (seen k (h ++ e ∷ []))), changed k f (h ++ e ∷ []))
  one_law k h e =
      let s : Kept = kept_of k f h in
      ap (λ (r : Progress × Answer). (at_one (one_next k s e r.1) r.0, one_answers k s e r.1)) (under k h e)
      ∙ (λ i. (at_one (kept_of-push k f h e i) (state (seen k (h ++ e ∷ []))), changed-push k f h e i))
