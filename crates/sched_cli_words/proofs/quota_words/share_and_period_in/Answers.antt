-- A share and a period are read from their words, or there are none.
use Rattle.std.proofs.Common.{◌≡◌, ℕ, List, None, subst, arith}
use Rattle.sched_cli_words.specs.QuotaSpelling.{NoneBelow, IsTenths}
use Rattle.sched_cli_words.proofs.Spelt.{no_tenths, no_period, percents}
use Rattle.sched_cli_words.proofs.quota_words.share_and_period_in.Goals as goal

pub returns-in_err-tenths-in-Some : goal.returns-in_err-tenths-in-Some
returns-in_err-tenths-in-Some c =
    let gone : c.from_residual.result ≡ None = grind arith in
    let before = c.in-Some.ensures in
    rw gone
    (no_tenths c.args.share.now c.args.period.now before.0
    (subst (λ (w : List ℕ). NoneBelow (IsTenths w)) before.1 c.in_err-tenths-in-Some.ensures))

pub returns-in_err-millis-in-Some : goal.returns-in_err-millis-in-Some
returns-in_err-millis-in-Some c =
    let gone : c.from_residual-in_err-millis-in-Some.result ≡ None = grind arith in
    rw gone (no_period c.args.share.now c.args.period.now c.in-Some.ensures.0 c.in_err-millis-in-Some.ensures)

pub returns-in_ok-millis-in-Some : goal.returns-in_ok-millis-in-Some
returns-in_ok-millis-in-Some c =
    let before = c.in-Some.ensures in
    let tenths = c.in_ok-tenths-in-Some.tenths in
    percents c.args.share.now c.args.period.now tenths c.in_ok-millis-in-Some.millis before.0
    (subst (λ (w : List ℕ). IsTenths w tenths) before.1 c.in_ok-tenths-in-Some.ensures) c.in_ok-millis-in-Some.ensures
