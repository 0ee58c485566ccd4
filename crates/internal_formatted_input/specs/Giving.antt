-- An item of a formatted input as the meaning of C texts has it (ANSI X3.9-1978, 12.8.2, 12.9.5.1 and 13).
use Rattle.std.specs.Prelude.{◌≡◌, ℕ, List, Option, None, Result, Ok, Err}
use Rattle.c_tree.specs.run_state.Units.{Units}
use Rattle.c_tree.specs.declared.outcome.CValue.{CValue}
use Rattle.c_tree.specs.Faults.{Or, failing}
use Rattle.c_tree.specs.Objects.{Object}
use Rattle.c_tree.specs.World.{Transfer, Reply}
use Rattle.c_tree.specs.Transfers.{Passage, GoesOn, Answers, numbered}
use Rattle.c_tree.specs.TransferInput.{formatted_item}
use Rattle.c_tree.specs.TransferCalls.{each_item}
use Rattle.edit_rules.specs.edit_meaning.Formats.{Format}
use Rattle.edit_rules.specs.Walks.{StandsIn}
use Rattle.unit_answers.specs.Answers.{world_with}
use Rattle.internal_formatted_input.specs.declared.calls.InternalFormattedInput.{InternalFormattedInput}
use Rattle.internal_formatted_input.specs.declared.acts.Stop.{Stop}
use Rattle.internal_formatted_input.specs.declared.acts.Stop.TheVariants as stop
use Rattle.internal_formatted_input.specs.Transferring.{StandsFor, StandsIn as Standing}

-- of an input only its walk, its record and its place in the file change
pub record SameInput (input input' : InternalFormattedInput) : Type 0 where
  pub on_error : input'.on_error ≡ input.on_error
  pub on_end : input'.on_end ≡ input.on_end

-- the transfer goes on, for which the input stands
pub record GivesOn (meaning : Or Passage) (objects : List Object) (going : Option Transfer) (units : Units) (text : List ℕ) (format : Format) (input : InternalFormattedInput) : Type 0 where
  pub transfer : Transfer
  pub stands : StandsFor text input transfer
  pub same : stands.format ≡ format
  pub means : meaning ≡ Ok (GoesOn transfer (world_with objects going units))

-- what an item means, by what its reading does
abbrev pub ItemMeans : Or Passage → List Object → Option Transfer → Units → List ℕ → Format → InternalFormattedInput → InternalFormattedInput → Result (Unit {0}) Stop → Type 0
ItemMeans meaning new going units text format input input' (Ok done) = GivesOn meaning new going units text format input'
ItemMeans meaning new going units text format input input' (Err (stop.Number number)) =
    meaning ≡ Ok (Answers (numbered number input.on_error input.on_end (world_with new going units)))
ItemMeans meaning new going units text format input input' (Err (stop.Fault fault)) = meaning ≡ failing fault

-- one item is given its value
pub record GivesItem (text : List ℕ) (input input' : InternalFormattedInput) (old new : List Object) (pointer : CValue) (size : ℕ) (result : Result (Unit {0}) Stop) : Type 0 where
  pub same : SameInput input input'
  pub inside : StandsIn input'.walk text
  pub means : (units : Units) → (transfer : Transfer) → (stands : StandsFor text input transfer) → (going : Option Transfer) →
      ItemMeans (formatted_item stands.format size pointer transfer (world_with old going units)) new going units text stands.format input input' result

-- the items of a call, by what their reading does
abbrev pub ItemsMean : Or Reply → List Object → Units → List ℕ → InternalFormattedInput → InternalFormattedInput → Result (Unit {0}) Stop → Type 0
ItemsMean meaning new units text input input' (Ok done) = Standing meaning new units text input'
ItemsMean meaning new units text input input' (Err (stop.Number number)) =
    meaning ≡ Ok (numbered number input.on_error input.on_end (world_with new None units))
ItemsMean meaning new units text input input' (Err (stop.Fault fault)) = meaning ≡ failing fault

-- so many items that stand one behind the other are given their values, each before the next
pub record GivesItems (text : List ℕ) (input input' : InternalFormattedInput) (old new : List Object) (count size : ℕ) (first : CValue) (result : Result (Unit {0}) Stop) : Type 0 where
  pub same : SameInput input input'
  pub inside : StandsIn input'.walk text
  pub means : (units : Units) → (transfer : Transfer) → (stands : StandsFor text input transfer) → (going : Option Transfer) →
      ItemsMean (each_item size (formatted_item stands.format size) count first transfer (world_with old going units)) new units text input input' result
