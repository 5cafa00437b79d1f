-- A throttle that is made is put into the handle.
use Rattle.std.proofs.Common.{sym, subst, ◌∙◌, ℕ}
use Rattle.hikebox_c.specs.LimitTerms.{ThrottleMade}
use Rattle.hikebox_c.proofs.Put.{put_in}
use Rattle.hikebox_c.proofs.limits.hikebox_throttle_new.Goals as goal

pub returns-clause-made : goal.returns-clause-made
returns-clause-made c = λ _. put_in _ _ _ _ _ c.throttle-made.result
    (sym c.is_full.ensures.full ∙ c.if-is_full.false) c.is_full.ensures.kept
    (subst (λ (n : ℕ). ThrottleMade n c.args.ratio c.args.period c.throttle-made.result) c.in-Some.ensures.value
    c.throttle-made.ensures) c.fill.ensures
