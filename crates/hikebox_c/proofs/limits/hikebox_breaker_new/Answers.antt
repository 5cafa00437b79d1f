-- A breaker that is made is put into the handle.
use Rattle.std.proofs.Common.{sym, subst, ◌∙◌, ℕ}
use Rattle.hikebox_c.specs.LimitTerms.{BreakerMade}
use Rattle.hikebox_c.proofs.Put.{put_in}
use Rattle.hikebox_c.proofs.limits.hikebox_breaker_new.Goals as goal

pub returns-clause-made : goal.returns-clause-made
returns-clause-made c = λ _ _. put_in _ _ _ _ _ c.breaker-made.result
    (sym c.is_full.ensures.full ∙ c.if-is_full.false) c.is_full.ensures.kept
    (subst (λ (n : ℕ). BreakerMade n c.args.terms.now c.args.times.now c.breaker-made.result)
    c.in-Some.ensures.value c.breaker-made.ensures) c.fill.ensures
