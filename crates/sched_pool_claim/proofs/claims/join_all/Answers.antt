-- Joining a share adds its claims and its refusals to those joined before.
use Rattle.std.proofs.Common.{length, ap, arith, length-append}
use Rattle.std.proofs.lemmas.Grind.{common_steps}
use Rattle.std.proofs.lemmas.List.Elements.{All-take}
use Rattle.sched_ticket.specs.Lists.{times, is}
use Rattle.sched_ticket.specs.Held.{Held}
use Rattle.sched_ticket.specs.declared.view.View.{View}
use Rattle.sched_ticket.proofs.Sums.{total-append}
use Rattle.sched_pool_claim.specs.Portion.{IsPartOf}
use Rattle.sched_pool_claim.proofs.Portions.{claims_of-push, refusals_of-push}
use Rattle.sched_pool_claim.proofs.claims.join_all.Goals as goal

pub loop-share-init : goal.loop-share-init
loop-share-init c =
    let share = c.in_ok-pop.field-0 in
    let rest = c.pop.new.self.items in
    let popped = c.in_ok-pop.ensures.items in
    record {
      of = grind (arith, common_steps);
      shares = rw c.pop.ensures.rest (All-take (IsPartOf c.args.budget.now) _ _ c.requires);
      claims = λ job. omega (
        arith,
        claims_of-push job _ rest share popped,
        ap (λ (p : Held). times job p.has.tickets) c.into_pass-pass.ensures.pass,
      );
      refusals = omega (
        arith,
        refusals_of-push _ rest share popped,
        ap (λ (p : Held). length p.has.refusals) c.into_pass-pass.ensures.pass,
      );
      once = c.into_pass-pass.ensures.once;
    }

pub loop-share-preserved : goal.loop-share-preserved
loop-share-preserved c =
    let joined = c.join-pass.ensures.joined in
    let before = c.loop-share.invariant in
    let mine = c.loop-share.pass.has in
    let share = c.in-Some.share in
    let other = c.into_pass.result in
    let rest = c.pop-in-loop-share.new.self.items in
    let popped = c.in-Some.ensures.items in
    record {
      of = c.join-pass.ensures.of;
      shares = rw c.pop-in-loop-share.ensures.rest (All-take (IsPartOf c.args.budget.now) _ _ before.shares);
      claims = λ job. omega (
        arith,
        before.claims job,
        claims_of-push job _ rest share popped,
        ap (λ (v : View). times job v.tickets) joined,
        total-append (is job) mine.tickets other.has.tickets,
        ap (λ (p : Held). times job p.has.tickets) c.into_pass.ensures.pass,
      );
      refusals = omega (
        arith,
        before.refusals,
        refusals_of-push _ rest share popped,
        ap (λ (v : View). length v.refusals) joined,
        length-append mine.refusals other.has.refusals,
        ap (λ (p : Held). length p.has.refusals) c.into_pass.ensures.pass,
      );
      once = c.join-pass.ensures.sound.once;
    }
