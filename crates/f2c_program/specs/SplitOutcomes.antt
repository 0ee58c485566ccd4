-- The outcome of splitting a file.
use Rattle.std.specs.Prelude.{◌≡◌, ℕ, List, Result, Ok, Err, IsSomeAnd}
use Rattle.f2c_outside.specs.declared.shelves.Place.{Place}
use Rattle.f2c_outside.specs.declared.shelves.Place.TheVariants.{File}
use Rattle.f2c_outside.specs.Shelf.{ShelfState}
use Rattle.f2c_outside.specs.Texts.{word_at, IsName}
use Rattle.f_tree.specs.declared.refusals.Refusal.{Refusal}
use Rattle.split_command.specs.SplitEnds.{SplitEnded}
use Rattle.split_command.specs.declared.failing.SplitFail.{SplitFail}
use Rattle.split_command.specs.declared.failing.SplitFail.TheVariants as fail
use Rattle.command_words.specs.declared.command.Origin.{Origin}
use Rattle.command_words.specs.declared.command.Origin.TheVariants as origin
use Rattle.outcomes.specs.declared.outcome.Outcome.{Outcome}
use Rattle.outcomes.specs.declared.outcome.Outcome.TheVariants as outcome
use Rattle.outcomes.specs.Lines.{shown, name_of_place}
use Rattle.outcomes.specs.Outcomes.{IsNotThereOrNoMemory}

-- a word that a command reads by is the name of a file
abbrev pub IsOrigin : List (List ℕ) → Origin → Type 0
IsOrigin words origin.Input = Unit {0}
IsOrigin words (origin.Word number) = IsSomeAnd (word_at number words) IsName

-- a refusal of what was read at a place, or want of memory for the name
abbrev pub IsRefusedAt : Place → Refusal → Outcome → Type 0
IsRefusedAt place refusal (outcome.Refused r name) = (r ≡ refusal) × (name ≡ name_of_place place)
IsRefusedAt place refusal outcome.NoMemory = Unit {0}
IsRefusedAt place refusal outcome.Done = ⊥
IsRefusedAt place refusal outcome.Disagree = ⊥
IsRefusedAt place refusal outcome.Changed = ⊥
IsRefusedAt place refusal (outcome.NotPrototype name line) = ⊥
IsRefusedAt place refusal (outcome.BadWord number) = ⊥
IsRefusedAt place refusal (outcome.NotThere name) = ⊥
IsRefusedAt place refusal (outcome.Unread other) = ⊥
IsRefusedAt place refusal (outcome.Unwritten other) = ⊥
IsRefusedAt place refusal (outcome.NoFreeName number) = ⊥

-- the outcome, by how splitting what a place holds ended
abbrev pub IsSplitOutcome : Place → Result (Unit {0}) SplitFail → Outcome → Type 0
IsSplitOutcome from (Ok done) ended = ended ≡ outcome.Done
IsSplitOutcome from (Err fail.NoMemory) ended = ended ≡ outcome.NoMemory
IsSplitOutcome from (Err fail.NotThere) ended = IsNotThereOrNoMemory (shown from) ended
IsSplitOutcome from (Err fail.Unread) ended = ended ≡ outcome.Unread from
IsSplitOutcome from (Err (fail.Refused refusal)) ended = IsRefusedAt from refusal ended
IsSplitOutcome from (Err (fail.Unasked name)) ended = ended ≡ outcome.Unread (File name)
IsSplitOutcome from (Err (fail.NoFreeName number)) ended = ended ≡ outcome.NoFreeName number
IsSplitOutcome from (Err (fail.Unwritten place)) ended = ended ≡ outcome.Unwritten place

-- what a place holds was split, or not, and this is the outcome
pub record SplitRan (from : Place) (b a : ShelfState) (ended : Outcome) : Type 0 where
  pub result : Result (Unit {0}) SplitFail
  pub split : SplitEnded from b a result
  pub outcome_is : IsSplitOutcome from result ended
