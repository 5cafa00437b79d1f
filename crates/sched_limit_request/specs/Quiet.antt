-- Looks at a limit's word, and requests that begin by one.
use Rattle.std.specs.Prelude.{◌≡◌, ℕ, ◌&&◌, not, Bool, true, if◌then◌else◌, Ok}
use Rattle.sched_limit_word.specs.View.{with_look}
use Rattle.sched_limit.specs.Step.{Rules, admitted, nothing}
use Rattle.sched_limit.specs.declared.request.Told.TheVariants.{Admit, Succeeded, Ended}
use Rattle.sched_limit_request.specs.Limits.{OfLimit, limit_asked, look_of}

module _ {M : Type 0} where
  -- the pass has looked, and has seen this word
  abbrev pub looked : OfLimit M → ℕ → OfLimit M
  looked d word = record d { pass = look_of d.pass word }

  -- whether a request may begin at this word: it is quiet, and no request is under way
  abbrev pub may_begin : (M → ℕ → Bool) → OfLimit M → ℕ → Bool
  may_begin is_quiet d word = is_quiet d.limit.machine word && not d.request.counted

  -- one that was admitted at this word is under way
  abbrev pub begun_at : (M → ℕ → ℕ) → OfLimit M → ℕ → OfLimit M
  begun_at stamp d word = record d { request = admitted (stamp d.limit.machine word) }

  -- it begins where it may
  abbrev pub begun : (M → ℕ → Bool) → (M → ℕ → ℕ) → OfLimit M → ℕ → OfLimit M
  begun is_quiet stamp d word = if may_begin is_quiet d word then begun_at stamp d word else d

  -- a request of which each call is made at one look: it is admitted as by `begin`, succeeds and ends, and the pass has
  -- done no more than to look
  pub record IsRequest (m : M → Rules) (d : OfLimit M) (word now random later : ℕ) : Type 0 where
    pub succeeded : OfLimit M
    pub over : OfLimit M
    pub admits : (limit_asked m).tells d (Admit now) random (Ok tt) (begun_at (λ x. (m x).stamp) (looked d word) word)
    pub succeeds : (limit_asked m).tells (begun_at (λ x. (m x).stamp) (looked d word) word) (Succeeded later) 0 (Ok tt)
        succeeded
    pub ends : (limit_asked m).tells succeeded Ended 0 (Ok tt) over
    pub request : over.request ≡ nothing
    pub looks : over.pass ≡ record d.pass { has = record (with_look d.pass.has word) { looks = over.pass.has.looks } }
    pub limit : over.limit ≡ d.limit

  -- a look at a quiet word, of a limit without a request, is a request that succeeds
  abbrev pub QuietLooksAreRequests : (M → ℕ → Bool) → (M → Rules) → Type 0
  QuietLooksAreRequests is_quiet m = (d : OfLimit M) (word now random later : ℕ) →
      may_begin is_quiet d word ≡ true → IsRequest m d word now random later
