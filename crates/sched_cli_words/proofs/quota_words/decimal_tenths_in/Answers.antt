-- A number with one decimal is read as its tenths.
use Rattle.std.proofs.Common.{◌≡◌, ℕ, ◌*◌, List, length, subst, sym, arith}
use Rattle.sched_cli_words.specs.QuotaSpelling.{IsNumber, front, rest}
use Rattle.sched_cli_words.proofs.Spelt.{decimal_tenths}
use Rattle.sched_cli_words.proofs.quota_words.decimal_tenths_in.Goals as goal

pub returns : goal.returns
returns c =
    let word = c.args.word.now in
    let short : length (rest 46 word) ≡ 1 = rw (sym c.requires.tenth) (grind arith) in
    let number : IsNumber (front 46 word) c.in_ok-whole.whole =
    subst (λ (w : List ℕ). IsNumber w c.in_ok-whole.whole) c.requires.whole c.in_ok-whole.ensures in
    let digit : IsNumber (rest 46 word) c.in_ok-tenth.tenth =
    subst (λ (w : List ℕ). IsNumber w c.in_ok-tenth.tenth) c.requires.tenth c.in_ok-tenth.ensures in
    let ten : c.in_ok-checked_mul.field-0 ≡ c.in_ok-whole.whole * 10 = c.in_ok-checked_mul.ensures.1 in
    decimal_tenths word c.in_ok-whole.whole c.in_ok-tenth.tenth c.in_ok-checked_mul.field-0 c.checked_add.result
    c.requires.has short number digit ten c.checked_add.ensures
