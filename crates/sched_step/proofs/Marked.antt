-- A mark of a node's kind, when a step begins anew.
use Rattle.std.proofs.Common.{◌≡◌, IsTrue, refl, sym, subst}
use Rattle.std.proofs.lemmas.Bool.{false≢true, and_parts}
use Rattle.sched_plan.specs.declared.nodes.Fold.{Fold}
use Rattle.sched_plan.specs.declared.nodes.Fold.TheVariants.{Sum, Count, Max, List as Listing}
use Rattle.sched_plan.specs.declared.nodes.One.{One}
use Rattle.sched_plan.specs.declared.nodes.One.TheVariants.{Gate, Gather, Add, Set, Cap, AddOut, Jitter, Within, EndsBy}
use Rattle.sched_plan.specs.declared.nodes.One.TheVariants.{Renew, RenewIdle, First, Second, Nothing}
use Rattle.sched_plan.specs.declared.history.Answer.{Answer}
use Rattle.sched_step.specs.Kept.{kept_mark, mark_anew}
use Rattle.sched_step.specs.Progress.{one_keeps, total}
use Rattle.sched_step.specs.StateOf.{first_kept}
use Rattle.sched_step.specs.Step.{fold_total, fold_next, total_of}
use Rattle.sched_step.proofs.laws.Fits.{first_kept_fits}
use Rattle.sched_step.specs.declared.marks.Mark.{Mark}
use Rattle.sched_step.specs.declared.marks.Mark.TheVariants.{Bare, Since, RoundSince, LastAt, Total}

-- it is what the node keeps before the first event
pub anew_first : (k : One) (m : Mark) → IsTrue (one_keeps k (kept_mark m)) → kept_mark (mark_anew m) ≡ first_kept k
anew_first (Gather Sum) (Total n) keeps = refl
anew_first (Gather Count) (Total n) keeps = refl
anew_first (Gather Max) (Total n) keeps = refl
anew_first (Within d) (Since m) keeps = refl
anew_first (EndsBy d) (Since m) keeps = refl
anew_first (Renew d) (RoundSince m) keeps = refl
anew_first (RenewIdle d) (LastAt m) keeps = refl
anew_first (Gate side want test bound) Bare keeps = refl
anew_first (Add d) Bare keeps = refl
anew_first (Set d) Bare keeps = refl
anew_first (Cap d) Bare keeps = refl
anew_first AddOut Bare keeps = refl
anew_first (Jitter lane least most) Bare keeps = refl
anew_first First Bare keeps = refl
anew_first Second Bare keeps = refl
anew_first Nothing Bare keeps = refl
anew_first (Gather Listing) Bare keeps = absurd (false≢true keeps)
anew_first (Gather Listing) (Since f) keeps = absurd (false≢true keeps)
anew_first (Gather Listing) (RoundSince f) keeps = absurd (false≢true keeps)
anew_first (Gather Listing) (LastAt f) keeps = absurd (false≢true keeps)
anew_first (Gather Listing) (Total n) keeps = absurd (false≢true keeps)
anew_first k m keeps = absurd (false≢true keeps)

-- and still of the node's kind
pub anew_keeps : (k : One) (m : Mark) → IsTrue (one_keeps k (kept_mark m))
    → IsTrue (one_keeps k (kept_mark (mark_anew m)))
anew_keeps k m keeps =
    subst (λ s. IsTrue (one_keeps k s)) (sym (anew_first k m keeps))
    (and_parts (one_keeps k (first_kept k)) _ (first_kept_fits k 0)).0

-- what a fold keeps as a mark is its number
pub totalled : (fold : Fold) (m : Mark) (a : Answer) → IsTrue (one_keeps (Gather fold) (kept_mark m)) →
    total (fold_total fold (total_of (kept_mark m)) a) ≡ fold_next fold (kept_mark m) a
totalled Sum m a keeps = refl
totalled Count m a keeps = refl
totalled Max m a keeps = refl
totalled Listing Bare a keeps = absurd (false≢true keeps)
totalled Listing (Since f) a keeps = absurd (false≢true keeps)
totalled Listing (RoundSince f) a keeps = absurd (false≢true keeps)
totalled Listing (LastAt f) a keeps = absurd (false≢true keeps)
totalled Listing (Total n) a keeps = absurd (false≢true keeps)
