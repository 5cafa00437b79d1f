-- A whole number is read as ten times as many tenths.
use Rattle.sched_cli_words.proofs.Spelt.{whole_tenths}
use Rattle.sched_cli_words.proofs.quota_words.whole_tenths_in.Goals as goal

pub returns : goal.returns
returns c =
    whole_tenths c.args.word.now c.in_ok-whole.whole c.checked_mul.result c.requires c.in_ok-whole.ensures
    c.checked_mul.ensures
