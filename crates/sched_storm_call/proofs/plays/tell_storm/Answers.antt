-- A storm that is given is played and told, or refused for the first of the reasons listed.
use Rattle.std.proofs.Common.{rules, ◌≡◌, length, vec_len, map, Ok, Err, refl, ap, ◌∙◌}
use Rattle.std.proofs.lemmas.List.{length-map}
use Rattle.sched_handle.specs.declared.status.Status.TheVariants.{NoRoom, OutOfRange, WrongSize}
use Rattle.sched_storm.specs.Clients.{plan_at}
use Rattle.sched_storm_call.specs.Told.{of_given, window_told, totals_told}
use Rattle.sched_storm_call.specs.Plays.{Told, HasRoom, IsReason, plans_of}
use Rattle.sched_storm_call.proofs.Refused.{refused, short}
use Rattle.sched_storm_call.proofs.plays.tell_storm.Goals as goal

pub returns-then-not-are_sized : goal.returns-then-not-are_sized
returns-then-not-are_sized c = (Err WrongSize, search rules, search rules)

pub returns-in_default : goal.returns-in_default
returns-in_default c = (Err OutOfRange, search rules, search rules)

pub returns-then-not-are_arrivals : goal.returns-then-not-are_arrivals
returns-then-not-are_arrivals c = (Err OutOfRange, search rules, search rules)

pub returns-then-windows-room : goal.returns-then-windows-room
returns-then-windows-room c = (Err NoRoom, search rules, search rules)

pub returns-in-Err : goal.returns-in-Err
returns-in-Err c =
    let t : Told = record { windows = c.args.windows.now; totals = c.args.totals.now } in
    let room : HasRoom c.args.arrivals.now c.args.given.now t = search rules in
    let reason : IsReason c.in-Err.status = search rules in
    rw c.code-in-Err.ensures
    (refused c.args.arrivals.now c.args.given.now t (plans_of c.args.plans) c.in-Err.status room
    (ap plans_of c.in-Err.is) reason)

pub returns-in-Ok-play : goal.returns-in-Ok-play
returns-in-Ok-play c =
    let room : HasRoom c.args.arrivals.now c.args.given.now
    (record { windows = c.args.windows.now; totals = c.args.totals.now }) = search rules in
    let ws = c.in-Ok-play.report.windows.items in
    let told : c.in-Ok-play.told.items ≡ map window_told ws = c.in-Ok-play.ensures.told in
    let many : length c.in-Ok-play.told.items ≡ length ws = ap length told ∙ length-map ws window_told in
    let each : vec_len c.in-Ok-play.told ≡ length c.in-Ok-play.told.items = search rules in
    let len : c.len.result ≡ length ws = c.len.ensures ∙ each ∙ many in
    let copied : c.copy_from_slice.new.self ≡ map window_told ws = search rules in
    let totals : c.of-totals.result ≡ totals_told c.in-Ok-play.report = c.of-totals.ensures in (
      Ok c.in-Ok-play.report,
      (
        room,
        (
          (λ k. plan_at k c.in-Ok.plans),
          ap plans_of c.in-Ok.is,
          record {
            parameters = c.in-Some.storm;
            are = search rules;
            reports = rw c.of.ensures at c.in-Ok-play.ensures.reports;
            adds_up = λ all. c.in-Ok-play.ensures.sums (c.of.ensures ∙ ap of_given all);
          },
        ),
      ),
      (refl, rw (copied, len, totals) refl),
    )

pub returns-in-Err-play : goal.returns-in-Err-play
returns-in-Err-play c =
    let t : Told = record { windows = c.args.windows.now; totals = c.args.totals.now } in
    let room : HasRoom c.args.arrivals.now c.args.given.now t = search rules in
    rw c.code-in-Err-play.ensures
    (short c.args.arrivals.now c.args.given.now t (plans_of c.args.plans) (λ k. plan_at k c.in-Ok.plans) room
    (ap plans_of c.in-Ok.is))
