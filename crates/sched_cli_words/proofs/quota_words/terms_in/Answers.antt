-- The terms of a quota are read from the text, or the text spells none.
use Rattle.std.proofs.Common.{◌≡◌, ◌<◌, ℕ, List, None, subst, sym, ◌∙◌, arith}
use Rattle.sched_time.specs.declared.numbers.TheConstants.{FAR}
use Rattle.sched_cli_words.specs.QuotaSpelling.{NoShareAndPeriod, AreShareAndPeriod, IsNumber, front, rest}
use Rattle.sched_cli_words.proofs.Spelt.{no_others, period_far, moved}
use Rattle.sched_cli_words.proofs.quota_words.terms_in.Goals as goal

pub returns-in_err-share-2-clause-spelt : goal.returns-in_err-share-2-clause-spelt
returns-in_err-share-2-clause-spelt c =
    let gone : c.from_residual-in_err-share-2.result ≡ None = grind arith in
    let first = c.in_ok-reserve.ensures in
    let second = c.in_ok-share.ensures in
    let others = moved c.args.text.now c.in_ok-reserve.others.now first.2 in
    rw gone
    (no_others c.args.text.now
    (subst (λ (w : List ℕ × List ℕ). NoShareAndPeriod w.0 w.1)
    (λ i. ((second.1 ∙ others.1) i, (second.2 ∙ others.2) i)) c.in_err-share-2.ensures))

pub returns-in_err-period-clause-spelt : goal.returns-in_err-period-clause-spelt
returns-in_err-period-clause-spelt c =
    let gone : c.from_residual-in_err-period.result ≡ None = grind arith in
    let first = c.in_ok-reserve.ensures in
    let second = c.in_ok-share.ensures in
    let others = moved c.args.text.now c.in_ok-reserve.others.now first.2 in
    let text = c.args.text.now in
    let number : IsNumber (front 47 text) c.in_ok-reserve-2.reserve =
    subst (λ (w : List ℕ). IsNumber w c.in_ok-reserve-2.reserve) first.1 c.in_ok-reserve-2.ensures in
    let both : AreShareAndPeriod (front 47 (rest 47 text))
    (rest 47 (rest 47 text)) c.in_ok-share-2.share c.in_ok-share-2.period =
    subst (λ (w : List ℕ × List ℕ). AreShareAndPeriod w.0 w.1 c.in_ok-share-2.share c.in_ok-share-2.period)
    (λ i. ((second.1 ∙ others.1) i, (second.2 ∙ others.2) i)) c.in_ok-share-2.ensures in
    let past : FAR < c.in_ok-share-2.period = grind arith in
    rw gone (period_far text c.in_ok-reserve-2.reserve c.in_ok-share-2.share c.in_ok-share-2.period number both past)

pub returns-clause-spelt : goal.returns-clause-spelt
returns-clause-spelt c =
    let first = c.in_ok-reserve.ensures in
    let second = c.in_ok-share.ensures in
    let text = c.args.text.now in
    let others = moved text c.in_ok-reserve.others.now first.2 in
    record {
      first = first.0;
      second = others.0 second.0;
      reserve = subst (λ (w : List ℕ). IsNumber w c.in_ok-reserve-2.reserve) first.1 c.in_ok-reserve-2.ensures;
      others =
          subst (λ (p : ℕ).
          AreShareAndPeriod (front 47 (rest 47 text)) (rest 47 (rest 47 text)) c.in_ok-share-2.share p)
          (sym c.in_ok-period.ensures.value)
          (subst (λ (w : List ℕ × List ℕ). AreShareAndPeriod w.0 w.1 c.in_ok-share-2.share c.in_ok-share-2.period)
          (λ i. ((second.1 ∙ others.1) i, (second.2 ∙ others.2) i)) c.in_ok-share-2.ensures);
    }
