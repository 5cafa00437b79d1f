-- The laws of schedules, worked examples, and the lemmas that the proofs of `sched_plan` cite.
pub mod sends
pub mod shares
pub mod Worked
pub mod WorkedLeaves
pub mod WorkedNodes
pub mod WorkedRounds
pub mod Items
pub mod HistoryLaws
pub mod SequenceLaws
pub mod OutputLaws
pub mod RoundLaws
pub mod DelayLaws
pub mod PrefixLaws
pub mod Starts
