-- A draw keeps the quota's rule, whether it wins a ticket or finds none.
use Rattle.std.proofs.Common.{sym, ap, ◌∙◌, arith}
use mathlib.Core.Option.{none}
use Rattle.atomic_table.specs.Table.{step}
use Rattle.sched_ticket_quota.specs.Windows.{terms_of, floor_of}
use Rattle.sched_ticket_quota.specs.Held.{Name}
use Rattle.sched_ticket_quota.specs.Steps.{Sat}
use Rattle.sched_ticket_quota.specs.declared.view.View.{View}
use Rattle.sched_ticket_quota.specs.declared.view.Terms.{Terms}
use Rattle.sched_ticket_quota.proofs.Known.{carried_known, floor_known}
use Rattle.sched_ticket_quota.proofs.Moves.{reads_ok, glances_ok, finds_ok}
use Rattle.sched_ticket_quota.proofs.Wins.{wins_ok}
use Rattle.sched_ticket_quota.proofs.pass.win.Goals as goal

pub load-drawn-requires : goal.load-drawn-requires
load-drawn-requires c =
    let known = c.quota.invariant in (
      c.requires.of.0 ∙ sym (ap (λ (b : Name). b.table) c.quota.view_is),
      omega arith,
      finds_ok _ _ _ _ (step 0 8 0 0 none) c.requires.live,
    )

pub load-requests-requires : goal.load-requests-requires
load-requests-requires c =
    let known = c.quota.invariant in (
      c.loop.invariant.of.0 ∙ c.requires.of.0 ∙ sym (ap (λ (b : Name). b.table) c.quota.view_is),
      omega arith,
      reads_ok _ _ _ _ (step 0 24 0 0 none)
          (omega (arith, c.requires.live, ap (λ (v : View). v.weight) c.loop.invariant.same)),
    )

pub load-terms-requires : goal.load-terms-requires
load-terms-requires c =
    let known = c.quota.invariant in (
      c.load-requests.ensures.0 ∙ c.loop.invariant.of.0 ∙ c.requires.of.0
          ∙ sym (ap (λ (b : Name). b.table) c.quota.view_is),
      omega arith,
      glances_ok _ _ _ _ (step 0 25 0 0 none),
    )

pub compare_exchange-found-requires : goal.compare_exchange-found-requires
compare_exchange-found-requires c =
    let known = c.quota.invariant in
    let before = c.loop.invariant in
    let read = c.load-requests.ensures in
    let glance = c.load-terms.ensures in
    let carry = c.carried-carried.ensures in
    let out = c.is_out.ensures in
    let key = c.quota.inside.table.shared.key.terms in
    let me : View = c.is_out.new.seat.me.0 in
    let now = c.args.quota.now in
    let terms-is = known.about_is ∙ ap (λ (b : Name). b.terms) c.quota.view_is in
    let weight =
    ap (λ (v : View). v.weight) out.same.0 ∙ ap (λ (v : View). v.weight) carry.same.0 ∙ ap (λ (m : Sat). m.0.weight)
    glance.2 ∙ ap (λ (m : Sat). m.0.weight) read.2.2 ∙ ap (λ (v : View). v.weight) before.same in
    let kind =
    ap (λ (v : View). v.carries) out.same.0 ∙ ap (λ (v : View). v.carries) carry.same.0
    ∙ ap (λ (m : Sat). m.0.carries) glance.2 ∙ ap (λ (m : Sat). m.0.carries) read.2.2
    ∙ ap (λ (v : View). v.carries) before.same ∙ c.requires.of.2 in
    let terms =
    ap (λ (v : View). v.terms) out.same.0 ∙ ap (λ (v : View). v.terms) carry.same.0 ∙ ap (λ (m : Sat). m.0.terms)
    glance.2 ∙ ap (λ (m : Sat). m.0.terms) read.2.2 ∙ ap (λ (v : View). v.terms) before.same ∙ c.requires.of.1 in
    let current = ap (λ (v : View). v.current) out.same.0 ∙ ap (λ (v : View). v.current) carry.same.0
    ∙ ap (λ (m : Sat). m.0.current) glance.2 in
    let seen = ap (λ (v : View). v.seen) out.same.0 ∙ ap (λ (v : View). v.seen) carry.same.0
    ∙ ap (λ (m : Sat). m.0.seen) glance.2 ∙ ap (λ (m : Sat). m.0.seen) read.2.2 in
    let past = ap (λ (v : View). v.past) out.same.0 in
    let found = ap (λ (v : View). v.found) out.same.0 ∙ ap (λ (v : View). v.found) carry.same.0
    ∙ ap (λ (m : Sat). m.0.found) glance.2 ∙ ap (λ (m : Sat). m.0.found) read.2.2 ∙ before.found in
    let carried =
    carried_known me now.carries now.terms _ _ _ _ kind terms current seen past found ∙ sym carry.carried in
    let floor = floor_known me now.carries key _ _ kind current seen
    ∙ ap (λ (t : Terms). floor_of now.carries (terms_of t c.load-terms.result) c.load-requests.result me.back)
    terms-is in (
      out.seat.0 ∙ carry.seat.0 ∙ glance.0 ∙ read.0 ∙ before.of.0 ∙ c.requires.of.0
          ∙ sym (ap (λ (b : Name). b.table) c.quota.view_is),
      omega arith,
      wins_ok _ _ _ _ (step 0 8 _ _ none) (omega (arith, weight, c.requires.live))
          (λ small. omega (arith, found, small)) (omega (arith, carried, found, seen))
          (omega (arith, carried, floor, found, seen, out.room)),
    )
