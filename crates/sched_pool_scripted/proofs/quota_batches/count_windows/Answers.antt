-- The count is of the windows that gave a ticket, each once.
use Rattle.std.proofs.Common.{rules}
use Rattle.std.proofs.lemmas.List.Filters.{dedup_is}
use Rattle.std.proofs.lemmas.List.Kept.{Contains-dedup_nat, Contains-from_dedup}
use Rattle.std.proofs.lemmas.Map.Keys.{IsStrictlyIncreasing-dedup}
use Rattle.sched_pool_scripted.proofs.quota_batches.count_windows.Goals as goal

pub returns : goal.returns
returns c =
    let is = dedup_is _ _ _ c.dedup.ensures.filtered in
    record {
      once = c.dedup.new.self.items;
      rises = rw is (IsStrictlyIncreasing-dedup _ c.requires);
      same = λ x. (λ h. Contains-from_dedup _ _ x (rw is at h), λ h. rw is (Contains-dedup_nat _ x h));
      count = search rules;
    }
