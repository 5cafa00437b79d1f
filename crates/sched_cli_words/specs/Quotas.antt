-- The options of a pool on a quota.
use Rattle.std.specs.Prelude.{◌≤◌}
use Rattle.sched_ticket_quota.specs.Held.{AreTerms}
use Rattle.sched_cli_words.specs.declared.quotas.QuotaOptions.{QuotaOptions}

-- each option of a pool on a quota lies in its range
pub record QuotaIsInRange (options : QuotaOptions) : Type 0 where
  pub terms : AreTerms options.terms
  pub turns : options.turns ≤ 4294967296
