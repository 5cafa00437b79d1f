-- Taking back a retry adds its end, its tickets and their windows.
use Rattle.std.proofs.Common.{rules, ◌≡◌, [], ◌∷◌, ◌++◌, map, length, ap, sym, subst, ◌∙◌, arith}
use Rattle.sched_ticket.specs.Lists.{Each, IsSame}
use Rattle.sched_ticket_quota.specs.Windows.{window_of}
use Rattle.sched_ticket_quota.specs.Held.{Held}
use Rattle.sched_ticket_draws.specs.Quotas.{OfQuota}
use Rattle.sched_pool_scripted.proofs.Taken.{one_taken}
use Rattle.sched_pool_scripted.proofs.quota_batches.TakenBack.with.Goals as goal

pub returns : goal.returns
returns c =
    let quota = c.args.quota.now in
    let before = c.args.self in
    let here = c.requires.driven in
    let end = c.into_end-end.result.0 in
    let e = c.into_end-end.ensures in
    let own = c.into_parts-own.result.0 in
    let p = c.into_parts-own.ensures in
    let is_own : own ≡ c.args.retry.drawing.pass = p.pass ∙ ap (λ (d : OfQuota). d.pass) e.drawing in
    let noted = c.in-Some.noted.items in
    let same : IsSame noted (map window_of own.has.tickets) = rw c.in-Some.is at p.windows in
    let extended : c.extend_from_slice.new.self.items ≡ before.windows.items ++ noted = search rules in
    let pushed : c.push_reserved.new.self.items ≡ before.ends.items ++ end ∷ [] = search rules in
    rw (pushed, extended)
    (one_taken quota before.ends.items end before.pass own c.join-pass.result before.windows.items noted
    c.requires.taken e.law (omega (arith, ap (λ (h : Held). length h.has.tickets) p.pass, e.granted, here.had))
    (ap (λ (h : Held). length h.has.requests) is_own ∙ here.asked)
    (ap (λ (h : Held). h.has.changes) is_own ∙ here.unchanged)
    (subst (λ (h : Held). Each (λ n. window_of n ≡ 0) h.has.requests) (sym is_own) here.early) same
    c.join-pass.ensures.of c.join-pass.ensures.joined c.join-pass.ensures.sound.once)
