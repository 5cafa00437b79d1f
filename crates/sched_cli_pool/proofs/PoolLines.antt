-- What is true while the lines of jobs are written, one job after another.
use Rattle.std.proofs.Common.{◌≡◌, ℕ, ◌+◌, List, [], ◌∷◌, ◌++◌, drop, Option, Err, sym, ◌∙◌, ap, subst, append_assoc}
use Rattle.std.proofs.Common.{refl}
use Rattle.std.proofs.lemmas.List.{append-nil}
use Rattle.std.proofs.KnownBytes.{Appends-nil}
use Rattle.sched_task_law.specs.Past.{Past}
use Rattle.sched_cli_pool.specs.PoolText.{job_text, lines_from}
use Rattle.sched_cli_plan.specs.Printing.{WritesText}
use Rattle.sched_cli_plan.specs.Whole.{IsFront, WritesFront, WritesAllBut, StopsWriting}
use Rattle.sched_cli_plan.specs.declared.faults.PrintFault.{PrintFault}
use Rattle.sched_cli_plan.proofs.Printed.{IsFront-trans}
use Rattle.sched_cli_plan.proofs.PrintSteps.{front_of_text}
use Rattle.sched_cli_plan.proofs.Written.{grows, moves, stops}

-- the lines of the jobs before this one are written but for what is pending
pub record IsPrintedTo (ends : List Past) (n : ℕ) (pending : List ℕ) (old new : Option (List ℕ)) : Type 0 where
  pub front : List ℕ
  pub split : lines_from 0 ends ≡ front ++ lines_from n (drop n ends)
  pub wrote : WritesAllBut old new front pending

-- the text is the lines of the jobs, and this last one
module _ (ends : List Past) (last : List ℕ) (n : ℕ) (old mid : Option (List ℕ)) (pending : List ℕ)
    (printed : IsPrintedTo ends n pending old mid) where
  -- the lines so far are a front of the text
  front_of_pool : IsFront printed.front (lines_from 0 ends ++ last)
  front_of_pool =
      IsFront-trans printed.front (lines_from 0 ends) (lines_from 0 ends ++ last)
      (lines_from n (drop n ends), printed.split) (last, refl)

  -- where printing stops between two lines, a front of the text is written
  pub pool_stopped : WritesFront old mid (lines_from 0 ends ++ last)
  pool_stopped =
      let wrote = printed.wrote in (
        wrote.0,
        IsFront-trans wrote.0 printed.front (lines_from 0 ends ++ last) (pending, wrote.1) front_of_pool,
        wrote.2,
      )

  module _ (v : Past) (at : drop n ends ≡ v ∷ drop (n + 1) ends) (more : List ℕ)
      (more_is : more ≡ pending ++ job_text n v) where
    -- the lines up to this one
    split_more : lines_from 0 ends ≡ (printed.front ++ job_text n v) ++ lines_from (n + 1) (drop (n + 1) ends)
    split_more =
        printed.split ∙ ap (λ vs. printed.front ++ lines_from n vs) at
        ∙ sym (append_assoc printed.front (job_text n v) (lines_from (n + 1) (drop (n + 1) ends)))

    wrote_more : WritesAllBut old mid (printed.front ++ job_text n v) more
    wrote_more = grows old mid printed.front pending printed.wrote (job_text n v) more more_is

    -- the next job's line is printed too
    pub pool_goes_on : (new : Option (List ℕ)) (rest : List ℕ) → WritesAllBut mid new more rest
        → IsPrintedTo ends (n + 1) rest old new
    pool_goes_on new rest put = record {
      front = printed.front ++ job_text n v;
      split = split_more;
      wrote = moves old mid (printed.front ++ job_text n v) more wrote_more new rest put;
    }

    -- where a write fails, a front of the text is written
    pub pool_stopped_in_line : (new : Option (List ℕ)) (fault : PrintFault) → StopsWriting fault mid new more →
        WritesText old new (lines_from 0 ends ++ last) (Err fault)
    pool_stopped_in_line new fault stop =
        front_of_text old new (printed.front ++ job_text n v) (lines_from 0 ends ++ last) fault
        (IsFront-trans (printed.front ++ job_text n v) (lines_from 0 ends) (lines_from 0 ends ++ last)
        (lines_from (n + 1) (drop (n + 1) ends), split_more) (last, refl))
        (stops old mid (printed.front ++ job_text n v) more wrote_more new fault stop)

  -- after the last job and the last line, all of the text is written but what is pending
  pub pool_ends : drop n ends ≡ [] → (more : List ℕ) → more ≡ pending ++ last
      → WritesAllBut old mid (lines_from 0 ends ++ last) more
  pool_ends none more more_is =
      let all : lines_from 0 ends ≡ printed.front =
      printed.split ∙ ap (λ vs. printed.front ++ lines_from n vs) none ∙ append-nil printed.front in
      subst (λ front. WritesAllBut old mid (front ++ last) more) (sym all)
      (grows old mid printed.front pending printed.wrote last more more_is)

-- before the first job
pub pool_begins : (ends : List Past) (pending : List ℕ) (w : Option (List ℕ)) → pending ≡ []
    → IsPrintedTo ends 0 pending w w
pool_begins ends pending w empty = record { front = []; split = refl; wrote = ([], sym empty, Appends-nil w) }
