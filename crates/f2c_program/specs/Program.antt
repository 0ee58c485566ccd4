-- The exit status of the program.
use Rattle.std.specs.Prelude.{◌≡◌, ℕ, ◌⊎◌, true, false, List, drop, map, Result, Ok, Err, None, String, string_bytes}
use Rattle.std.specs.IoError.{error_kind}
use Rattle.std.specs.Vec.Iter.{into_iter_items}
use Rattle.std.specs.declared.alloc.Global.{Global}
use Rattle.std.specs.declared.io.Error.{Error}
use Rattle.std.specs.declared.io.ErrorKind.TheVariants.{InvalidData}
use Rattle.std.specs.declared.vec.IntoIter.{IntoIter}
use Rattle.f2c_outside.specs.Shelf.{ShelfState, Idle}
use Rattle.f2c_program.specs.declared.program.NoWords.{NoWords}
use Rattle.f2c_program.specs.declared.program.NoWords.TheVariants as no_words
use Rattle.command_words.specs.CommandWords.{command_of}
use Rattle.f2c_outside.specs.Table.{Row}
use Rattle.run_words.specs.RunWords.{drawer_of}
use Rattle.run_command.specs.RunRows.{RunEnded}
use Rattle.f2c_program.specs.HostRows.{host_rows}
use Rattle.f2c_program.specs.TopCall.{Concluded, Commanded, asks_for_run}

-- the real shelf before its first call, which tells nothing of what it holds
abbrev pub untouched : ShelfState
untouched = record { told = None; left = None; active = Idle; faults = 0 }

-- a run of C files over units that stand in these rows at first, and in those of the record at its end
pub record RanOver (words : List (List ℕ)) (rows : List Row) (before after : ShelfState) (status : ℕ) : Type 0 where
  pub rows' : List Row
  pub ended : RunEnded words rows rows' before after status

-- the top call was made with these words, over units that stand in these rows, on the shelf as it stood, and ended with this status
pub record Called (words : List (List ℕ)) (rows : List Row) (before : ShelfState) (status : ℕ) : Type 0 where
  pub after : ShelfState
  pub concluded : asks_for_run words ≡ false → Concluded words before after status
  pub commanded : asks_for_run words ≡ false → Commanded words (command_of words) before after status
  pub ran : asks_for_run words ≡ true → RanOver words rows before after status

-- the words are the texts that the environment gave behind the first, in their order; a word was no text where it said so, and else memory was wanting
abbrev pub IsWordsOf : Result (IntoIter (String Global) Global) Error → Result (List (List ℕ)) NoWords → Type 0
IsWordsOf (Ok arguments) (Ok words) = words ≡ map string_bytes (drop 1 (into_iter_items arguments))
IsWordsOf (Ok arguments) (Err no_words.NoMemory) = Unit {0}
IsWordsOf (Ok arguments) (Err no_words.NotText) = ⊥
IsWordsOf (Err error) (Ok words) = ⊥
IsWordsOf (Err error) (Err no_words.NoMemory) = ¬ (error_kind error ≡ InvalidData)
IsWordsOf (Err error) (Err no_words.NotText) = error_kind error ≡ InvalidData

-- the status of the top call with these words over the units of the host, where memory was found for the words and for these units; 5 where it was wanting
-- for one of them, and 2 where a word was no text
abbrev pub IsStatusFor : Result (List (List ℕ)) NoWords → ℕ → Type 0
IsStatusFor (Ok words) status = Called words (host_rows (drawer_of words)) untouched status ⊎ (status ≡ 5)
IsStatusFor (Err no_words.NoMemory) status = status ≡ 5
IsStatusFor (Err no_words.NotText) status = status ≡ 2

-- the status of the program: that for the words of its command line, or for why there are none
pub record IsStatusOfProgram (status : ℕ) : Type 0 where
  pub words : Result (List (List ℕ)) NoWords
  pub is : IsStatusFor words status
