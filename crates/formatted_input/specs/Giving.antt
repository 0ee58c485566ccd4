-- An item of a formatted input as the meaning of C texts has it (ANSI X3.9-1978, 12.8.2, 12.9.5.1 and 13).
use Rattle.std.specs.Prelude.{◌≡◌, ℕ, List, Option, None, Result, Ok, Err}
use Rattle.c_tree.specs.run_state.Units.{Units}
use Rattle.c_tree.specs.declared.outcome.CValue.{CValue}
use Rattle.c_tree.specs.Faults.{Or, failing}
use Rattle.c_tree.specs.Objects.{Object}
use Rattle.c_tree.specs.World.{Transfer, Reply}
use Rattle.c_tree.specs.Transfers.{Passage, GoesOn, Answers, numbered}
use Rattle.c_tree.specs.TransferInput.{formatted_item}
use Rattle.c_tree.specs.TransferCalls.{each_item}
use Rattle.edit_rules.specs.edit_meaning.Formats.{Format}
use Rattle.edit_rules.specs.Walks.{StandsIn}
use Rattle.f2c_outside.specs.Table.{Row}
use Rattle.f2c_outside.specs.Meaning.{Tells, units_of}
use Rattle.unit_answers.specs.Answers.{world_with}
use Rattle.formatted_input.specs.declared.calls.FormattedInput.{FormattedInput}
use Rattle.formatted_input.specs.declared.acts.Stop.{Stop}
use Rattle.formatted_input.specs.declared.acts.Stop.TheVariants as stop
use Rattle.formatted_input.specs.Acting.{ReadsFrom}
use Rattle.formatted_input.specs.Transferring.{StandsFor, Stands}

-- of an input only its walk and its record change
pub record SameInput (input input' : FormattedInput) : Type 0 where
  pub unit : input'.unit ≡ input.unit
  pub on_error : input'.on_error ≡ input.on_error
  pub on_end : input'.on_end ≡ input.on_end

-- the transfer goes on, for which the input stands
pub record GivesOn (meaning : Or Passage) (objects : List Object) (going : Option Transfer) (units : Units) (text : List ℕ) (format : Format) (input : FormattedInput) : Type 0 where
  pub transfer : Transfer
  pub stands : StandsFor text input transfer
  pub same : stands.format ≡ format
  pub means : meaning ≡ Ok (GoesOn transfer (world_with objects going units))

-- what an item means, by what its reading does
abbrev pub ItemMeans : Or Passage → List Object → Option Transfer → Units → List ℕ → Format → FormattedInput → FormattedInput → Result (Unit {0}) Stop → Type 0
ItemMeans meaning objects going units text format input input' (Ok done) = GivesOn meaning objects going units text format input'
ItemMeans meaning objects going units text format input input' (Err (stop.Number number)) =
    meaning ≡ Ok (Answers (numbered number input.on_error input.on_end (world_with objects going units)))
ItemMeans meaning objects going units text format input input' (Err stop.Device) = Unit {0}
ItemMeans meaning objects going units text format input input' (Err (stop.Fault fault)) = meaning ≡ failing fault

-- one item is given its value
pub record GivesItem (text : List ℕ) (input input' : FormattedInput) (objects objects' : List Object) (pointer : CValue) (size : ℕ) (rows rows' : List Row) (result : Result (Unit {0}) Stop) : Type 0 where
  pub same : SameInput input input'
  pub inside : StandsIn input'.walk text
  pub tells : Tells rows → Tells rows'
  pub means : Tells rows → (transfer : Transfer) → (stands : StandsFor text input transfer) → (going : Option Transfer) →
      ItemMeans (formatted_item stands.format size pointer transfer (world_with objects going (units_of rows))) objects' going (units_of rows') text stands.format input input' result
  pub devices : ReadsFrom input.unit rows rows' result

-- the items of a call, by what their reading does
abbrev pub ItemsMean : Or Reply → List Object → Units → List ℕ → FormattedInput → FormattedInput → Result (Unit {0}) Stop → Type 0
ItemsMean meaning objects units text input input' (Ok done) = Stands meaning objects units text input'
ItemsMean meaning objects units text input input' (Err (stop.Number number)) =
    meaning ≡ Ok (numbered number input.on_error input.on_end (world_with objects None units))
ItemsMean meaning objects units text input input' (Err stop.Device) = Unit {0}
ItemsMean meaning objects units text input input' (Err (stop.Fault fault)) = meaning ≡ failing fault

-- so many items that stand one behind the other are given their values, each before the next
pub record GivesItems (text : List ℕ) (input input' : FormattedInput) (objects objects' : List Object) (count size : ℕ) (first : CValue) (rows rows' : List Row) (result : Result (Unit {0}) Stop) : Type 0 where
  pub same : SameInput input input'
  pub inside : StandsIn input'.walk text
  pub tells : Tells rows → Tells rows'
  pub means : Tells rows → (transfer : Transfer) → (stands : StandsFor text input transfer) → (going : Option Transfer) →
      ItemsMean (each_item size (formatted_item stands.format size) count first transfer (world_with objects going (units_of rows))) objects' (units_of rows') text input input' result
  pub devices : ReadsFrom input.unit rows rows' result
