-- What one handle draws by is joined into the pass of another, or both stay as they are.
use Rattle.std.proofs.Common.{◌≡◌, true, refl, sym, inl, arith, rules}
use Rattle.std.proofs.lemmas.Grind.{common_steps}
use Rattle.sched_handle.specs.Held.{kind_of}
use Rattle.sched_handle.specs.Passes.{drawing_of, draw_alike, DrawOnOne, Joins}
use Rattle.sched_handle.specs.declared.held.Kind.TheVariants as kind
use Rattle.hikebox_c.proofs.joins.join_into.Goals as goal

pub join-requires-clause-one : goal.join-requires-clause-one
join-requires-clause-one c =
    let one : DrawOnOne (drawing_of c.in-Some-take.to.value) (drawing_of c.in-Some.held.value) =
    c.requires c.in-Some-take.to.value c.in-Some.held.value (sym c.in-Some-take.ensures.held)
    (sym c.in-Some.ensures.held) in
    rw c.deref_mut.ensures.value one

pub returns : goal.returns
returns c =
    let from = c.in-Some.held.value in
    let into = c.in-Some-take.to.value in
    let joins : Joins (drawing_of into) (drawing_of from) c.join.new.self =
    rw (← c.deref_mut.ensures.value) c.join.ensures in
    let is_kind : kind_of from ≡ c.args.kind = first_of (cc, search rules, grind (arith, common_steps)) in
    let is_pass : kind_of into ≡ kind.Pass = first_of (cc, search rules, grind (arith, common_steps)) in
    let alike : draw_alike (drawing_of into) (drawing_of from) ≡ true =
    first_of (cc, search rules, grind (arith, common_steps)) in
    rw (← c.in-Some.ensures.held, ← c.in-Some-take.ensures.held)
    (inl (is_kind, inl (is_pass, rw alike (c.join.new.self, c.put-2.ensures, joins, c.in-Some.ensures.empty, refl))))
