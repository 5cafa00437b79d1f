-- Where nothing is read of a node's output, its reply has no number, and it reads nothing but what it has to.
use Rattle.std.proofs.lemmas.Bool.{false≢true}
use Rattle.std.proofs.Common.{◌≡◌, ℕ, true, false, Option, None, refl, sym}
use Rattle.sched_time.specs.declared.starts.Decision.{Decision}
use Rattle.sched_plan.specs.declared.nodes.Side.TheVariants.{Input, Output}
use Rattle.sched_plan.specs.declared.nodes.Fold.TheVariants.{Sum, Count, Max, List as Listing}
use Rattle.sched_plan.specs.declared.nodes.One.{One}
use Rattle.sched_plan.specs.declared.nodes.One.TheVariants.{Gate, Gather, Add, AddOut}
use Rattle.sched_plan.specs.declared.nodes.One.TheVariants.{First, Second, Nothing}
use Rattle.sched_plan.specs.declared.history.Event.{Event}
use Rattle.sched_step.specs.Progress.{Kept}
use Rattle.sched_step_flat.specs.Parts.{under, reads_output}
use Rattle.sched_step_flat.specs.FlatStep.{one_number, one_reply, unread}
use Rattle.sched_step_flat.specs.declared.parts.Part.TheVariants.{Unread}
use Rattle.sched_step_flat.specs.declared.cues.Reply.{Reply}

no_number : (k : One) (s : Kept) (n : Option ℕ) → reads_output k ≡ true → one_number k Unread s n ≡ None
no_number (Gate Output want test bound) s n reads = refl
no_number (Gate Input want test bound) s n reads = absurd (false≢true reads)
no_number (Gather Sum) s n reads = refl
no_number (Gather Count) s n reads = absurd (false≢true reads)
no_number (Gather Max) s n reads = refl
no_number (Gather Listing) s n reads = absurd (false≢true reads)
no_number AddOut s n reads = refl
no_number (Add more) s n reads = absurd (false≢true reads)
no_number k s n reads = absurd (false≢true reads)

none_stays : (k : One) (s : Kept) → one_number k Unread s None ≡ None
none_stays (Gate Output want test bound) s = refl
none_stays (Gate Input want test bound) s = refl
none_stays (Gather Sum) s = refl
none_stays (Gather Count) s = refl
none_stays (Gather Max) s = refl
none_stays (Gather Listing) s = refl
none_stays AddOut s = refl
none_stays Nothing s = refl
none_stays k s = refl

-- what a node replies that reads the output under it
pub unread_reader : (k : One) (s : Kept) (e : Event) (r : Reply) → reads_output k ≡ true →
    one_reply k Unread s e r ≡ unread (one_reply k Unread s e r).decision
unread_reader k s e r reads =
    λ i. record { number = no_number k s r.number reads i; decision = (one_reply k Unread s e r).decision }

-- and where nothing was read under it
pub unread_one : (k : One) (s : Kept) (e : Event) (d : Decision) →
    one_reply k Unread s e (unread d) ≡ unread (one_reply k Unread s e (unread d)).decision
unread_one k s e d =
    λ i. record { number = none_stays k s i; decision = (one_reply k Unread s e (unread d)).decision }

-- another node has nothing read under it
pub under_unread : (k : One) → reads_output k ≡ false → under k Unread ≡ Unread
under_unread (Gate Output want test bound) none = absurd (false≢true (sym none))
under_unread (Gate Input want test bound) none = refl
under_unread (Gather Sum) none = absurd (false≢true (sym none))
under_unread (Gather Count) none = refl
under_unread (Gather Max) none = absurd (false≢true (sym none))
under_unread (Gather Listing) none = refl
under_unread AddOut none = absurd (false≢true (sym none))
under_unread First none = refl
under_unread Second none = refl
under_unread Nothing none = refl
under_unread k none = refl
