-- A look at a quiet word as the calls of a request.
use Rattle.std.proofs.Common.{◌≡◌, ℕ, ◌≤◌, List, arith, Bool, true, false, not, ◌&&◌, refl, sym, ap, ◌∙◌, subst, inl}
use Rattle.std.specs.Prelude.{Ok}
use mathlib.Core.Bool.{false≢true}
use Rattle.sched_limit_word.specs.Tokens.{Tokens}
use Rattle.sched_limit_word.specs.View.{with_look}
use Rattle.sched_limit_word.specs.declared.call.Call.{Call}
use Rattle.sched_limit_word.specs.declared.call.Call.TheVariants as call
use Rattle.sched_limit_word.specs.declared.view.Move.{Move}
use Rattle.sched_limit_word.specs.declared.view.View.{View}
use Rattle.sched_limit_word.proofs.Looks.{looks_are_calls}
use Rattle.sched_limit.specs.Holds.{Holds, IsHonest, IsHeld}
use Rattle.sched_limit.specs.Kinds.{bucket_rules, breaker_rules}
use Rattle.sched_limit.specs.Quiet.{IsQuiet, is_full, is_calm}
use Rattle.sched_limit.specs.Step.{Answer, Rules, answered, held, admitted, nothing}
use Rattle.sched_limit.specs.declared.request.Request.{Request}
use Rattle.sched_limit.specs.declared.request.Told.TheVariants.{Admit, Succeeded, Ended}
use Rattle.sched_limit.proofs.Cases.{and_left, and_right}
use Rattle.sched_limit.proofs.QuietWords.{full_is_quiet, calm_is_quiet}
use Rattle.sched_limit_request.specs.Limits.{OfLimit}
use Rattle.sched_limit_request.specs.Quiet.{QuietLooksAreRequests, looked, begun_at, may_begin}
use Rattle.sched_limit_request.specs.Tells.{IsTold}

module _ (m : Rules) (word : ℕ) (q : IsQuiet m.next m.refusal word) where
  admits_free : (now random : ℕ) (r : Request) (v : View)
      → IsTold m (Admit now) random (record r { counted = false }) (Ok tt) (admitted (m.stamp word)) v
      (with_look v word)
  admits_free now random r v =
      let c : Call = call.Admit now random 0 in
      let stays : m.next c word ≡ word = q.admits now random 0 in
      let grants : Ok tt ≡ answered (m.refusal c word) = ap answered (sym (q.granted now random 0)) in
      record {
        how = inl (record {
          word = word;
          makes = looks_are_calls m.next c word v stays;
          answers = grants;
          holds = ap (λ (w : ℕ). admitted (m.stamp w)) (sym stays)
              ∙ ap (λ (a : Answer). held (Admit now) a (m.stamp (m.next c word)) (record r { counted = false })) grants;
        });
      }

  admits : (now random : ℕ) (r : Request) (v : View) → r.counted ≡ false
      → IsTold m (Admit now) random r (Ok tt) (admitted (m.stamp word)) v (with_look v word)
  admits now random r v free = subst (λ (b : Bool). IsTold m (Admit now) random (record r { counted = b }) (Ok tt)
      (admitted (m.stamp word)) v (with_look v word)) (sym free) (admits_free now random r v)

  succeeds : (later : ℕ) (r : Request) (v : View) → IsTold m (Succeeded later) 0 r (Ok tt) r v (with_look v word)
  succeeds later r v =
      let c : Call = call.Succeeded later r.generation (m.worth r.drawn) in
      record {
        how = inl (record {
          word = word;
          makes = looks_are_calls m.next c word v (q.succeeds later r.generation (m.worth r.drawn));
          answers = refl;
          holds = refl;
        });
      }

  ends : (generation : ℕ) (v : View) → IsTold m Ended 0 (admitted generation) (Ok tt) nothing v (with_look v word)
  ends generation v = record {
    how = inl (record {
      word = word;
      makes = looks_are_calls m.next (call.Ended 0) word v (q.ends 0);
      answers = refl;
      holds = refl;
    });
  }

  -- the request that is admitted at a quiet word holds no more than the one before
  left_free : (o : Tokens) (holds : Holds) → IsHonest o m holds → (r : Request) (kind : ℕ)
      → holds (admitted (m.stamp word)) kind ≤ holds (record r { counted = false }) kind
  left_free o holds honest r kind =
      let c : Call = call.Admit 0 0 0 in
      let stays : m.next c word ≡ word = q.admits 0 0 0 in
      let grants : Ok tt ≡ answered (m.refusal c word) = ap answered (sym (q.granted 0 0 0)) in
      let same : admitted (m.stamp word)
      ≡ held (Admit 0) (answered (m.refusal c word)) (m.stamp (m.next c word)) (record r { counted = false }) =
      ap (λ (w : ℕ). admitted (m.stamp w)) (sym stays)
      ∙ ap (λ (a : Answer). held (Admit 0) a (m.stamp (m.next c word)) (record r { counted = false })) grants in
      subst (λ (x : Request). holds x kind ≤ holds (record r { counted = false }) kind) (sym same)
      (honest.stays (Admit 0) 0 (record r { counted = false }) word kind stays)

  left : (o : Tokens) (holds : Holds) → IsHonest o m holds → (r : Request) (kind : ℕ) → r.counted ≡ false
      → holds (admitted (m.stamp word)) kind ≤ holds r kind
  left o holds honest r kind free =
      subst (λ (b : Bool). holds (admitted (m.stamp word)) kind ≤ holds (record r { counted = b }) kind) (sym free)
      (left_free o holds honest r kind)

  -- what it may give back, its pass has gained
  pub held_at : (o : Tokens) (holds : Holds) → IsHonest o m holds → (r : Request) (moves : List Move)
      → r.counted ≡ false → IsHeld o holds r moves → IsHeld o holds (admitted (m.stamp word)) moves
  held_at o holds honest r moves free has = λ kind. omega (arith, left o holds honest r kind free, has kind)

pub free_of : (a c : Bool) → (a && not c) ≡ true → c ≡ false
free_of a true e = absurd (false≢true (and_right a false e))
free_of a false e = refl

module _ {M : Type 0} (m : M → Rules) (is_quiet : M → ℕ → Bool)
    (quiet : (x : M) (w : ℕ) → is_quiet x w ≡ true → IsQuiet (m x).next (m x).refusal w) where
  quiet_at : (d : OfLimit M) (word : ℕ) → may_begin is_quiet d word ≡ true
      → IsQuiet (m d.limit.machine).next (m d.limit.machine).refusal word
  quiet_at d word may =
      quiet d.limit.machine word (and_left (is_quiet d.limit.machine word) (not d.request.counted) may)

  requests : QuietLooksAreRequests is_quiet m
  requests d word now random later may =
      let q = quiet_at d word may in
      let x : OfLimit M = begun_at (λ y. (m y).stamp) (looked d word) word in
      let y : OfLimit M = looked x word in
      let z : OfLimit M = record (looked y word) { request = nothing } in
      record {
        succeeded = y;
        over = z;
        admits = record {
          limit = refl;
          table = refl;
          tells = admits (m d.limit.machine) word q now random d.request d.pass.has
              (free_of (is_quiet d.limit.machine word) d.request.counted may);
        };
        succeeds = record {
          limit = refl;
          table = refl;
          tells = succeeds (m d.limit.machine) word q later x.request x.pass.has;
        };
        ends = record {
          limit = refl;
          table = refl;
          tells = ends (m d.limit.machine) word q ((m d.limit.machine).stamp word) y.pass.has;
        };
        request = refl;
        looks = refl;
        limit = refl;
      }

pub full_looks_are_requests : QuietLooksAreRequests is_full bucket_rules
full_looks_are_requests = requests bucket_rules is_full full_is_quiet

pub calm_looks_are_requests : QuietLooksAreRequests is_calm breaker_rules
calm_looks_are_requests = requests breaker_rules is_calm calm_is_quiet
