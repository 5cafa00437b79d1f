-- The ranges of what is asked for, and where its text comes from.
use Rattle.std.specs.Prelude.{◌≡◌, ℕ, ◌≤◌, ◌<◌, ◌^◌, ◌⊎◌, List, [], ◌∷◌, All}
use Rattle.sched_time.specs.declared.numbers.TheConstants.{FAR}
use Rattle.sched_plan_course.specs.Course.{Course, course_of}
use Rattle.sched_plan_course.specs.declared.courses.PlanOptions.{PlanOptions}
use Rattle.sched_cli_words.specs.Quotas.{QuotaIsInRange}
use Rattle.sched_cli_words.specs.Seeded.{fours, seeded}
use Rattle.sched_cli_words.specs.declared.options.PoolOptions.{PoolOptions}
use Rattle.sched_cli_words.specs.declared.options.Origin.{Origin}
use Rattle.sched_cli_words.specs.declared.options.Asked.{Asked}
use Rattle.sched_cli_words.specs.declared.options.Asked.TheVariants as asked

-- each option of a plan lies in its range
pub record AreInRange (options : PlanOptions) : Type 0 where
  pub steps : options.steps ≤ 4096
  pub from : options.from ≤ FAR
  pub took : options.took ≤ FAR
  pub input : options.input ≤ FAR
  pub word : options.word < 2 ^ 32

-- the inputs of a plan's events
abbrev pub AreInputs : List ℕ → Type 0
AreInputs inputs = All (λ input. input ≤ FAR) inputs

-- the words of a plan's events: one word at each and in all four lanes, or those of a seed
abbrev pub AreWordsFor : ℕ → List (List ℕ) → Type 0
AreWordsFor steps words =
    ((word : ℕ) × (word < 2 ^ 32) × (words ≡ (word ∷ word ∷ word ∷ word ∷ []) ∷ []))
    ⊎ ((seed : ℕ) × (n : ℕ) × (seed < 2 ^ 64) × (steps ≤ n) × (words ≡ fours n (seeded seed)))

-- the course of a plan lies in its range, and its words are one word or those of a seed
pub record IsCourseInRange (course : Course) : Type 0 where
  pub steps : course.steps ≤ 4096
  pub from : course.from ≤ FAR
  pub took : course.took ≤ FAR
  pub inputs : AreInputs course.inputs
  pub words : AreWordsFor course.steps course.words

-- each option of a pool lies in its range
pub record PoolIsInRange (options : PoolOptions) : Type 0 where
  pub some : 1 ≤ options.workers
  pub few : options.workers ≤ 16
  pub tickets : options.budget ≤ 4294967296
  pub turns : options.turns ≤ 4294967296

-- each option of what is asked for lies in its range
abbrev pub IsAskedInRange : Asked → Type 0
IsAskedInRange (asked.Plan options origin) = AreInRange options
IsAskedInRange (asked.Course course origin) = IsCourseInRange (course_of course)
IsAskedInRange (asked.Pool options origin) = PoolIsInRange options
IsAskedInRange (asked.Quota options origin) = QuotaIsInRange options
IsAskedInRange (asked.Storm options origin) = Unit {0}
IsAskedInRange (asked.Check origin) = Unit {0}

-- where the text comes from
abbrev pub origin_of : Asked → Origin
origin_of (asked.Plan options origin) = origin
origin_of (asked.Course course origin) = origin
origin_of (asked.Pool options origin) = origin
origin_of (asked.Quota options origin) = origin
origin_of (asked.Storm options origin) = origin
origin_of (asked.Check origin) = origin
