-- What the top call does: the outcome of the command that the words ask for, its message and its status.
use Rattle.std.specs.Prelude.{◌≡◌, ℕ, ◌⊎◌, Bool, List}
use Rattle.f2c_outside.specs.declared.shelves.Place.TheVariants.{Output}
use Rattle.f2c_outside.specs.Shelf.{ShelfState, Rose}
use Rattle.f2c_outside.specs.Texts.{word_at}
use Rattle.run_words.specs.RunWords.{is_some_run}
use Rattle.output_names.specs.WordPlaces.{outputs_of, files_named, prototypes_named}
use Rattle.outcomes.specs.declared.outcome.Outcome.{Outcome}
use Rattle.outcomes.specs.declared.outcome.Outcome.TheVariants as outcome
use Rattle.outcomes.specs.Outcomes.{status_of, IsSilent}
use Rattle.outcomes.specs.Lines.{line_of, bad_word_line}
use Rattle.shelf_texts.specs.ShelfLoops.{Both, IsWritten, IsUnwritten, written}
use Rattle.shelf_texts.specs.Messages.{Said, Gained}
use Rattle.command_words.specs.declared.command.Command.{Command}
use Rattle.command_words.specs.declared.command.Command.TheVariants as command
use Rattle.command_words.specs.CommandWords.{command_of, place_from}
use Rattle.f2c_program.specs.CheckRows.{CheckEnded, CheckRows}
use Rattle.f2c_program.specs.SplitOutcomes.{SplitRan}
use Rattle.f2c_program.specs.SplitRows.{SplitRows}
use Rattle.f2c_program.specs.TranslateRows.{job_of, TranslateEnded, TranslateRows}
use Rattle.f2c_program.specs.Usage.{usage}

-- the words ask for a run of C files: the first is `-run`
abbrev pub asks_for_run : List (List ℕ) → Bool
asks_for_run words = is_some_run (word_at 1 words)

-- the usage was written, or not for a fault
abbrev pub WroteUsage : ShelfState → ShelfState → Outcome → Type 0
WroteUsage b a outcome.Done = IsWritten Output usage b a
WroteUsage b a (outcome.Unwritten place) = (place ≡ Output) × IsUnwritten Output usage b a
WroteUsage b a outcome.Disagree = ⊥
WroteUsage b a outcome.Changed = ⊥
WroteUsage b a (outcome.Refused refusal name) = ⊥
WroteUsage b a (outcome.NotPrototype name line) = ⊥
WroteUsage b a (outcome.BadWord number) = ⊥
WroteUsage b a (outcome.NotThere name) = ⊥
WroteUsage b a (outcome.Unread place) = ⊥
WroteUsage b a (outcome.NoFreeName number) = ⊥
WroteUsage b a outcome.NoMemory = ⊥

-- no command goes on with the word of this number, and the shelf was not touched
pub record BadWordEnded (number : ℕ) (b a : ShelfState) (ended : Outcome) : Type 0 where
  pub named : ended ≡ outcome.BadWord number
  pub same : a ≡ b

-- how each command ends, before its message is written: a translation goes from the files that the words name, or Input, to their C files, or Output,
-- and to the files of their prototypes;
-- a check reads the FORTRAN files and the prototype files that they name
abbrev pub Ran : List (List ℕ) → Command → ShelfState → ShelfState → Outcome → Type 0
Ran words (command.Translate asked) b a ended = TranslateEnded asked.options (job_of words asked) (outputs_of asked.prototypes words) b a ended
Ran words (command.Split origin) b a ended = SplitRan (place_from words origin) b a ended
Ran words (command.Check options) b a ended = CheckEnded options (files_named words) (prototypes_named words) b a ended
Ran words command.Help b a ended = WroteUsage b a ended
Ran words (command.BadWord number) b a ended = BadWordEnded number b a ended

-- the command came to an outcome, which decides the message and the status; one that did its work has no message
pub record Concluded (words : List (List ℕ)) (b a : ShelfState) (status : ℕ) : Type 0 where
  pub ended : Outcome
  pub middle : ShelfState
  pub ran : Ran words (command_of words) b middle ended
  pub said : Said (line_of words ended) middle a
  pub silent : IsSilent ended → a ≡ middle
  pub status_is : status ≡ status_of ended

-- bad words: status 2, the line on Fault names the word, and nothing else changed
pub record BadWordRows (words : List (List ℕ)) (number : ℕ) (b a : ShelfState) (status : ℕ) : Type 0 where
  pub bad : status ≡ 2
  pub said : Both b.told a.told (Gained (bad_word_line words number) b.faults a.faults)

-- the usage: with status 0 it stands on Output, and no count rose; 3 only where a count rose
pub record HelpRows (b a : ShelfState) (status : ℕ) : Type 0 where
  pub statuses : (status ≡ 0) ⊎ (status ≡ 3)
  pub shown : status ≡ 0 → a.told ≡ written Output usage b.told
  pub quiet : status ≡ 0 → a.faults ≡ b.faults
  pub rose : status ≡ 3 → Rose b.faults a.faults

-- what the exit status says of each command
abbrev pub Commanded : List (List ℕ) → Command → ShelfState → ShelfState → ℕ → Type 0
Commanded words (command.Translate asked) b a status = TranslateRows asked.options (job_of words asked) (outputs_of asked.prototypes words) b a status
Commanded words (command.Split origin) b a status = SplitRows (place_from words origin) b a status
Commanded words (command.Check options) b a status = CheckRows options (files_named words) (prototypes_named words) b a status
Commanded words command.Help b a status = HelpRows b a status
Commanded words (command.BadWord number) b a status = BadWordRows words number b a status
