-- What a request asks is answered by its limit's words, and it holds what they say.
use Rattle.std.proofs.Common.{◌≡◌, ℕ, Bool, refl}
use Rattle.sched_limit.specs.declared.request.Request.{Request}
use Rattle.sched_limit.specs.declared.request.Told.{Told}
use Rattle.sched_storm_limit.specs.Limits.{Words, LimitState, tells, holding, asking}
use Rattle.sched_storm_limit.specs.States.{state_of}
use Rattle.sched_storm_limit.specs.declared.draws.Limit.{Limit}
use Rattle.sched_storm_limit.proofs.stand.Stand.ask.Goals as goal

asks_so : (m : Limit) (told : Told) (r : ℕ) (s x : LimitState) (held request : Request) (granted : Bool) (w : Words)
    → held ≡ s.holds r → granted ≡ (tells m told held s.words).granted → request ≡ (tells m told held s.words).request
    → w ≡ (tells m told held s.words).words → x ≡ holding r request (record s { words = w })
    → (granted, x) ≡ asking m told r s
asks_so m told r s x held request granted w is so holds left all = rw (all, so, holds, left, is) refl

pub returns : goal.returns
returns c = asks_so c.args.limit.now c.args.told.now c.args.request (state_of c.args.self.now) _ _ _ _ _
    c.holds-held.ensures c.tell-granted.ensures.granted c.tell-granted.ensures.request c.tell-granted.ensures.words
    c.in_ok-hold.ensures
