-- A word that is no count with a unit spells no period.
use Rattle.std.proofs.Common.{◌≡◌, None, arith}
use Rattle.sched_cli_words.proofs.Spelt.{period_no_unit}
use Rattle.sched_cli_words.proofs.quota_words.millis_in.Goals as goal

pub returns-in_err-count : goal.returns-in_err-count
returns-in_err-count c =
    let gone : c.from_residual.result ≡ None = grind arith in
    rw gone (period_no_unit c.args.word.now c.in_err-count.ensures)
