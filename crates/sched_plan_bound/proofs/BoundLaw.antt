-- The bound that a schedule's nodes give is one.
use Rattle.std.proofs.Common.{◌≡◌, ℕ, ◌+◌, ◌-◌, ◌<◌, ◌≤◌, min, max, ltb, ◌⊎◌, inl, inr, ⊎_elim, List, length, Bool}
use Rattle.std.proofs.Common.{true, false, cond, Option, Some, None, IfSome, refl, sym, subst, length-drop, arith}
use Rattle.std.specs.Prelude.{get_or, nat_eq, nat_lt, nat_le}
use Rattle.std.proofs.lemmas.Bool.{cond_both, ltb-true, ltb-false, eqb-true}
use Rattle.sched_time.specs.Capped.{capped}
use Rattle.sched_time.specs.declared.numbers.TheConstants.{FAR}
use Rattle.sched_time.specs.declared.starts.Decision.{Decision}
use Rattle.sched_time.specs.declared.starts.Decision.TheVariants.{Go, Done}
use Rattle.sched_plan.specs.Schedule.{Schedule, leaf, one, two}
use Rattle.sched_plan.specs.History.{first_moment, last_moment, last_input, last_words}
use Rattle.sched_plan.specs.Outputs.{fed}
use Rattle.sched_plan.specs.Delays.{added, added_out, jittered}
use Rattle.sched_plan.specs.Changes.{ended, ended_where, goes_past, moved_decision}
use Rattle.sched_plan.specs.Gates.{is_wanted, passes, tested}
use Rattle.sched_plan.specs.Answer.{answer, changed, combined, leaf_decision, go_after, meet_decisions, join_decisions}
use Rattle.sched_plan.specs.Answer.{follow_answer, crossing, from_end_of}
use Rattle.sched_plan.specs.declared.leaves.Leaf.{Leaf}
use Rattle.sched_plan.specs.declared.leaves.Leaf.TheVariants.{Recurs, Lone}
use Rattle.sched_plan.specs.declared.nodes.One.{One}
use Rattle.sched_plan.specs.declared.nodes.One.TheVariants.{Gate, Add, Set, Cap, AddOut, Jitter, Within, EndsBy}
use Rattle.sched_plan.specs.declared.nodes.One.TheVariants.{Renew, RenewIdle}
use Rattle.sched_plan.specs.declared.nodes.Two.{Two}
use Rattle.sched_plan.specs.declared.nodes.Two.TheVariants.{Meet, Join, Follow, Feed}
use Rattle.sched_plan.specs.declared.history.Event.{Event}
use Rattle.sched_plan.specs.declared.history.Answer.{Answer}
use Rattle.sched_plan_bound.specs.Bound.{GoesOnAtMost, leaf_bound, one_bound, two_bound, least_known, both_known}
use Rattle.sched_plan_bound.specs.Bound.{bound_of}
use Rattle.sched_plan_bound.proofs.Crossings.{Ends, fed-length, crossing_early}

-- where a bound is known, it is one
abbrev Bounds : (List Event → Answer) → Option ℕ → Type 0
Bounds f bound = IfSome bound (Ends f)

recurs_ends : (count : ℕ) (h : List Event) → count < length h → leaf_decision (Recurs count) h ≡ Done
recurs_ends count h past =
    cond_both (nat_lt (length h - 1) count) (Go (last_moment h)) Done (λ d. d ≡ Done)
    (λ less. let few = ltb-true (length h - 1) count less in absurd (omega (arith, past, few))) (λ _. refl)

lone_ends : (delay : ℕ) (h : List Event) → 1 < length h → leaf_decision (Lone delay) h ≡ Done
lone_ends delay h past =
    cond_both (nat_eq (length h) 1) (go_after delay h) Done (λ d. d ≡ Done)
    (λ one. let same = eqb-true (length h) 1 one in absurd (omega (arith, past, same))) (λ _. refl)

leaf_ends : (l : Leaf) → Bounds (answer (leaf l)) (leaf_bound l)
leaf_ends (Recurs count) = λ h past far. recurs_ends count h past
leaf_ends (Lone delay) = λ h past far. lone_ends delay h past
leaf_ends _ = tt

-- where a schedule is done, it is so with another delay, and where a node may stop it
moved_done : (delay : ℕ → ℕ) (now : ℕ) (d : Decision) → d ≡ Done → moved_decision delay now d ≡ Done
moved_done delay now d is = rw is refl

passed_done : (goes : Bool) (a : Answer) → a.decision ≡ Done → (cond goes a (ended a)).decision ≡ Done
passed_done true a is = is
passed_done false a is = refl

ended_done : (over : Bool) (a : Answer) → a.decision ≡ Done → (ended_where over a).decision ≡ Done
ended_done true a is = refl
ended_done false a is = is

kept : (k : One) (f : List Event → Answer) (most : ℕ) → Ends f most
    → IfSome (one_bound k (Some most)) (Ends (changed k f))
kept (Gate side want test bound) f most ends = λ h past far.
    passed_done (is_wanted want (passes test bound (tested side (last_input h) (f h)))) (f h) (ends h past far)
kept (Add d) f most ends = λ h past far. moved_done (added d) (last_moment h) (f h).decision (ends h past far)
kept (Set d) f most ends = λ h past far. moved_done (λ _. d) (last_moment h) (f h).decision (ends h past far)
kept (Cap d) f most ends = λ h past far.
    moved_done (λ delay. min delay d) (last_moment h) (f h).decision (ends h past far)
kept AddOut f most ends = λ h past far.
    moved_done (added_out (f h).output) (last_moment h) (f h).decision (ends h past far)
kept (Jitter lane least greatest) f most ends = λ h past far.
    moved_done (jittered least greatest (get_or (last_words h) lane 0)) (last_moment h) (f h).decision (ends h past far)
kept (Within d) f most ends = λ h past far.
    ended_done (nat_le d (last_moment h - first_moment h)) (f h) (ends h past far)
kept (EndsBy d) f most ends = λ h past far.
    ended_done (goes_past (capped (first_moment h + d)) (f h).decision) (f h) (ends h past far)
kept (Renew d) f most ends = tt
kept (RenewIdle d) f most ends = tt
kept _ f most ends = ends

-- a node gives no bound where its schedule gives none
none_kept : (k : One) (f : List Event → Answer) → IfSome (one_bound k None) (Ends f)
none_kept AddOut f = tt
none_kept _ f = tt

one_ends : (k : One) (f : List Event → Answer) (bound : Option ℕ) → Bounds f bound
    → Bounds (changed k f) (one_bound k bound)
one_ends k f None ends = none_kept k (changed k f)
one_ends k f (Some most) ends = kept k f most ends

-- both have to go on
meet_first : (d c : Decision) → d ≡ Done → meet_decisions d c ≡ Done
meet_first d c is = rw is refl

meet_second : (d c : Decision) → c ≡ Done → meet_decisions d c ≡ Done
meet_second (Go s) c is = rw is refl
meet_second Done c is = refl

join_both : (d c : Decision) → d ≡ Done → c ≡ Done → join_decisions d c ≡ Done
join_both d c is also = rw (is, also) refl

either : (a b n : ℕ) (less : Bool) → ltb a n ≡ less → min a b < n → (a < n) ⊎ (b < n)
either a b n true is past = inl (ltb-true a n is)
either a b n false is past = let most = ltb-false a n is in inr (omega (arith, most, past))

both_go_on : (f g : List Event → Answer) (m : List Event → Answer)
    → ((h : List Event) → (f h).decision ≡ Done → (m h).decision ≡ Done) →
    ((h : List Event) → ((n : ℕ) → Ends g n → n < length h → length h ≤ FAR → (m h).decision ≡ Done)) →
    (a b : Option ℕ) → Bounds f a → Bounds g b → Bounds m (least_known a b)
both_go_on f g m first second None None ends too = tt
both_go_on f g m first second None (Some b) ends too = λ h past far. second h b too past far
both_go_on f g m first second (Some a) None ends too = λ h past far. first h (ends h past far)
both_go_on f g m first second (Some a) (Some b) ends too = λ h past far.
    ⊎_elim (λ more. first h (ends h more far)) (λ more. second h b too more far)
    (either a b (length h) (ltb a (length h)) refl past)

meet_ends : (f g : List Event → Answer) (a b : Option ℕ) → Bounds f a → Bounds g b
    → Bounds (combined Meet f g) (least_known a b)
meet_ends f g = both_go_on f g (combined Meet f g)
    (λ h done. meet_first (f h).decision (g h).decision done)
    (λ h n too past far. meet_second (f h).decision (g h).decision (too h past far))

-- the second schedule has as many events
fed_ends : (f g : List Event → Answer) (h : List Event) (n : ℕ) → Ends g n → n < length h → length h ≤ FAR
    → (g (fed f h)).decision ≡ Done
fed_ends f g h n ends past far =
    let same = fed-length f h in
    ends (fed f h) (omega (arith, same, past)) (omega (arith, same, far))

feed_ends : (f g : List Event → Answer) (a b : Option ℕ) → Bounds f a → Bounds g b
    → Bounds (combined Feed f g) (least_known a b)
feed_ends f g = both_go_on f g (combined Feed f g)
    (λ h done. meet_first (f h).decision (g (fed f h)).decision done)
    (λ h n too past far. meet_second (f h).decision (g (fed f h)).decision (fed_ends f g h n too past far))

join_ends : (f g : List Event → Answer) (a b : Option ℕ) → Bounds f a → Bounds g b
    → Bounds (combined Join f g) (both_known max a b)
join_ends f g None b first second = tt
join_ends f g (Some a) None first second = tt
join_ends f g (Some a) (Some b) first second = λ h past far.
    join_both (f h).decision (g h).decision (first h (omega (arith, past)) far) (second h (omega (arith, past)) far)

-- the events that the second schedule is given once the first was done
rest_length : (a b : ℕ) (h p : List Event) → a + b < length h → length p ≤ a + 1 → b < length (from_end_of p h)
rest_length a b h p past short = let rest = length-drop (length p - 1) h in omega (arith, past, short, rest)

rest_short : (h p : List Event) → length h ≤ FAR → length (from_end_of p h) ≤ FAR
rest_short h p far = let rest = length-drop (length p - 1) h in omega (arith, far, rest)

follow_done : (f g : List Event → Answer) (a b : ℕ) → Ends f a → Ends g b
    → (h : List Event) (crossed : Option (List Event)) → crossing f h ≡ crossed →
    a + b < length h → length h ≤ FAR → (follow_answer f g crossed h).decision ≡ Done
follow_done f g a b first second h None at past far = first h (omega (arith, past)) far
follow_done f g a b first second h (Some p) at past far =
    second (from_end_of p h) (rest_length a b h p past (crossing_early f a first h p far at)) (rest_short h p far)

follow_ends : (f g : List Event → Answer) (a b : Option ℕ) → Bounds f a → Bounds g b
    → Bounds (combined Follow f g) (both_known (λ n m. capped (n + m)) a b)
follow_ends f g None b first second = tt
follow_ends f g (Some a) None first second = tt
follow_ends f g (Some a) (Some b) first second = λ h past far.
    follow_done f g a b first second h (crossing f h) refl (omega (arith, past, far)) far

two_ends : (k : Two) (f g : List Event → Answer) (a b : Option ℕ) → Bounds f a → Bounds g b
    → Bounds (combined k f g) (two_bound k a b)
two_ends Meet f g a b first second = meet_ends f g a b first second
two_ends Feed f g a b first second = feed_ends f g a b first second
two_ends Join f g a b first second = join_ends f g a b first second
two_ends Follow f g a b first second = follow_ends f g a b first second

bound_law : (s : Schedule) → Bounds (answer s) (bound_of s)
bound_law (leaf l) = leaf_ends l
bound_law (one k a) = one_ends k (answer a) (bound_of a) (bound_law a)
bound_law (two k a b) = two_ends k (answer a) (answer b) (bound_of a) (bound_of b) (bound_law a) (bound_law b)

pub known_bound : (s : Schedule) (bound : Option ℕ) → bound ≡ bound_of s → IfSome bound (GoesOnAtMost s)
known_bound s bound is = subst (λ b. IfSome b (GoesOnAtMost s)) (sym is) (bound_law s)
