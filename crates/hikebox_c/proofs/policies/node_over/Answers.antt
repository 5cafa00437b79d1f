-- The node is made over what both handles hold, or the first that holds no policy is told.
use Rattle.std.proofs.Common.{inl, inr, refl}
use Rattle.std.proofs.lemmas.Result.{err_from_is_err_and}
use Rattle.hikebox_c.proofs.policies.node_over.Goals as goal

pub returns-in_err-one-clause-made : goal.returns-in_err-one-clause-made
returns-in_err-one-clause-made c =
    let p = err_from_is_err_and c.from_residual.result c.from_residual.ensures.1 in
    rw (p.1, p.2) (inl (c.in_err-one.field-0.0, refl, inl c.in_err-one.ensures.err))

pub returns-in_err-other-clause-made : goal.returns-in_err-other-clause-made
returns-in_err-other-clause-made c =
    let p = err_from_is_err_and c.from_residual-in_err-other.result c.from_residual-in_err-other.ensures.1 in
    rw (p.1, p.2) (inl (c.in_err-other.field-0.0, refl, inr c.in_err-other.ensures.err))

pub returns-clause-made : goal.returns-clause-made
returns-clause-made c =
    let done = rw (c.plan_in.ensures, c.plan_in-2.ensures) at c.made.ensures in
    inr (c.in_ok-one.one, c.in_ok-other.other, c.in_ok-one.ensures.ok, c.in_ok-other.ensures.ok, done)
