-- A first call is answered by what becomes of it, and its request is counted before. One that the limit does not admit
-- is denied.
use Rattle.std.proofs.Common.{◌≡◌, [], ◌∷◌, ◌++◌, length, get_or, None, refl, subst}
use Rattle.std.proofs.Common.{sym, ap, ◌∙◌, arith, rules}
use Rattle.std.proofs.Math.Seq.{get_or-append_seam}
use Rattle.sched_storm_report.specs.declared.moments.Happening.TheVariants as happening
use Rattle.sched_storm_limit.specs.Limits.{LimitState}
use Rattle.sched_storm_limit.specs.States.{state_of}
use Rattle.sched_storm.specs.Drivers.{DriverStands}
use Rattle.sched_storm.specs.Plays.{begins, Shared, with_request, with_call}
use Rattle.sched_storm.specs.Course.{shared_of}
use Rattle.sched_storm.proofs.Answered.{client_is, for_client, near_by, coming_answered, denied_answered, arrived_so}
use Rattle.sched_storm.proofs.Answered.{denied_so}
use Rattle.sched_storm.proofs.course.Course.begin.Goals as goal

pub returns-clause-answered : goal.returns-clause-answered
returns-clause-answered c =
    let old = c.args.self.now in
    let r = c.args.turn.request in
    let t = c.args.turn.at in
    let u = c.at-client.result.now in
    let of_r = client_is old r c.population_of.result u c.population_of.ensures c.at-client.ensures in
    let limit : LimitState = state_of c.admit.new.limit in
    let s : Shared = with_request u.storm t (record (shared_of old) { limit = limit }) in
    let many : length old.drivers.slots.items ≡ r = search rules in
    let slots = c.in_ok-add.ensures in
    let none = get_or-append_seam old.drivers.slots.items None [] None in
    let empty : get_or c.add.new.self.slots.items r None ≡ None =
    ap (λ xs. get_or xs r None) slots
    ∙ (ap (λ n. get_or (old.drivers.slots.items ++ None ∷ []) n None) (sym many) ∙ none) in
    let stands : DriverStands u.plan (get_or c.add.new.self.slots.items r None) [] =
    subst (λ o. DriverStands u.plan o []) (sym empty) refl in
    for_client old _ t r u begins _ of_r
    (arrived_so old _ t r u limit _ c.in_ok-is_admitted.is_admitted c.if-not-is_admitted.false
    c.in_ok-is_admitted.ensures
    (coming_answered old _ t r u of_r [] happening.Request s c.call-called.result c.after.result
    c.turn_by.result _ c.call-called.ensures.value c.after.ensures c.turn_by.ensures
    (λ i. let counted : Shared = record s { drawn = c.count-self.ensures.value i } in
    record (with_call u.storm c.call-called.result counted) { busy = c.call-called.ensures.busy i }) refl
    c.in_ok-tell-2.ensures.told c.call-called.ensures.order stands
    (omega arith)))

pub returns-then-not-is_admitted-clause-answered : goal.returns-then-not-is_admitted-clause-answered
returns-then-not-is_admitted-clause-answered c =
    let old = c.args.self.now in
    let r = c.args.turn.request in
    let t = c.args.turn.at in
    let u = c.at-client.result.now in
    let of_r = client_is old r c.population_of.result u c.population_of.ensures c.at-client.ensures in
    let limit : LimitState = state_of c.admit.new.limit in
    let s : Shared = with_request u.storm t (record (shared_of old) { limit = limit }) in
    for_client old _ t r u begins _ of_r
    (denied_so old _ t r u limit _ c.in_ok-is_admitted.is_admitted c.if-not-is_admitted.true
    c.in_ok-is_admitted.ensures
    (denied_answered old _ t r u s
    (ap (λ x. let after : Shared = record s { drawn = x } in after) c.count-self.ensures.value) refl
    c.in_ok-tell.ensures.told))

pub call-called-requires-clause-at : goal.call-called-requires-clause-at
call-called-requires-clause-at c = near_by c.args.self.now c.args.turn.request c.at-client.result.now c.args.turn.at
    (client_is c.args.self.now c.args.turn.request c.population_of.result c.at-client.result.now
    c.population_of.ensures c.at-client.ensures) c.requires.ready
