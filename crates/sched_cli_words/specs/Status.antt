-- The exit status and the message where the command line was no task.
use Rattle.std.specs.Prelude.{◌≡◌, ℕ, List, ◌++◌, codes, string_bytes}
use Rattle.sched_cli_words.specs.declared.faults.WordsFault.{WordsFault}
use Rattle.sched_cli_words.specs.declared.faults.WordsFault.TheVariants as words

-- the status that the program exits with where the command line was no task
abbrev pub words_status : WordsFault → ℕ
words_status (words.Help text) = 0
words_status (words.Bad why) = 2
words_status words.NoMemory = 5

-- what the program tells of it, without the last line feed: of a bad command line a second line says why
abbrev pub words_text : WordsFault → List ℕ
words_text (words.Bad why) = codes "zsched: bad command line\n" ++ string_bytes why
words_text (words.Help text) = string_bytes text
words_text words.NoMemory = codes "zsched: no memory"

-- the command line is bad for this reason, unless memory was refused
abbrev pub IsBadFor : List ℕ → WordsFault → Type 0
IsBadFor why (words.Bad text) = string_bytes text ≡ why
IsBadFor why (words.Help text) = ⊥
IsBadFor why words.NoMemory = Unit {0}
