-- An item of a formatted output as the meaning of C texts has it (ANSI X3.9-1978, 12.8.2, 12.9.5.2 and 13).
use Rattle.std.specs.Prelude.{◌≡◌, ℕ, ℤ, pos, List, Option, None, Result, Ok, Err}
use Rattle.run_state.specs.declared.refusals.UnitRefusal.TheVariants.{NotConnected, NotOffered, Taken, PastEnd, Failed}
use Rattle.c_tree.specs.run_state.Units.{Units}
use Rattle.c_tree.specs.declared.outcome.CValue.{CValue}
use Rattle.c_tree.specs.Faults.{Or, after, failing}
use Rattle.c_tree.specs.Objects.{Object}
use Rattle.c_tree.specs.World.{Transfer, Reply}
use Rattle.c_tree.specs.Transfers.{Passage, GoesOn, Answers, numbered}
use Rattle.c_tree.specs.TransferOutput.{formatted_put}
use Rattle.c_tree.specs.TransferCalls.{each_item}
use Rattle.c_tree.specs.LibraryArguments.{number_through, count_from, length_from}
use Rattle.edit_rules.specs.edit_meaning.Formats.{Format}
use Rattle.edit_rules.specs.Walks.{StandsIn}
use Rattle.f2c_outside.specs.Table.{Row}
use Rattle.f2c_outside.specs.Meaning.{Tells, units_of}
use Rattle.unit_answers.specs.Answers.{world_with}
use Rattle.listed_output.specs.Writing.{FailsOn}
use Rattle.listed_output.specs.Items.{StandsThere}
use Rattle.formatted_output.specs.declared.calls.FormattedOutput.{FormattedOutput}
use Rattle.formatted_output.specs.declared.items.ItemList.{ItemList}
use Rattle.formatted_output.specs.declared.acts.Stop.{Stop}
use Rattle.formatted_output.specs.declared.acts.Stop.TheVariants as stop
use Rattle.formatted_output.specs.Acting.{writing}
use Rattle.formatted_output.specs.Transferring.{StandsFor, StandsIn as Standing}

-- of an output only its walk and its sheet change
pub record SameOutput (output output' : FormattedOutput) : Type 0 where
  pub unit : output'.unit ≡ output.unit
  pub on_error : output'.on_error ≡ output.on_error
  pub on_end : output'.on_end ≡ output.on_end

-- the transfer goes on, for which the output stands
pub record PutsOn (meaning : Or Passage) (pointer : CValue) (size : ℕ) (objects : List Object) (going : Option Transfer) (units : Units) (text : List ℕ) (format : Format) (output : FormattedOutput) : Type 0 where
  pub transfer : Transfer
  pub stands : StandsFor text output transfer
  pub same : stands.format ≡ format
  pub there : StandsThere size objects pointer
  pub means : meaning ≡ Ok (GoesOn transfer (world_with objects going units))

-- the call answers a number
abbrev pub Answered : Or Passage → List Object → Option Transfer → Units → FormattedOutput → ℤ → Type 0
Answered meaning objects going units output number = meaning ≡ Ok (Answers (numbered number output.on_error output.on_end (world_with objects going units)))

-- what an item means, by what its put does
abbrev pub ItemMeans : Or Passage → CValue → ℕ → List Object → Option Transfer → Units → List ℕ → Format → FormattedOutput → FormattedOutput → Result (Unit {0}) Stop → Type 0
ItemMeans meaning pointer size objects going units text format output output' (Ok done) = PutsOn meaning pointer size objects going units text format output'
ItemMeans meaning pointer size objects going units text format output output' (Err (stop.Number number)) = Answered meaning objects going units output number
ItemMeans meaning pointer size objects going units text format output output' (Err (stop.Refused NotConnected)) = Answered meaning objects going units output (pos 6)
ItemMeans meaning pointer size objects going units text format output output' (Err (stop.Refused NotOffered)) = Answered meaning objects going units output (pos 7)
ItemMeans meaning pointer size objects going units text format output output' (Err (stop.Refused Taken)) = Answered meaning objects going units output (pos 8)
ItemMeans meaning pointer size objects going units text format output output' (Err (stop.Refused PastEnd)) = Answered meaning objects going units output (pos 9)
ItemMeans meaning pointer size objects going units text format output output' (Err (stop.Refused Failed)) = Unit {0}
ItemMeans meaning pointer size objects going units text format output output' (Err (stop.Fault fault)) = meaning ≡ failing fault

-- one item is put
pub record PutsItem (text : List ℕ) (output output' : FormattedOutput) (objects : List Object) (pointer : CValue) (size : ℕ) (rows rows' : List Row) (result : Result (Unit {0}) Stop) : Type 0 where
  pub same : SameOutput output output'
  pub inside : StandsIn output'.walk text
  pub tells : Tells rows → Tells rows'
  pub means : Tells rows → (transfer : Transfer) → (stands : StandsFor text output transfer) → (going : Option Transfer) →
      ItemMeans (formatted_put stands.format size pointer transfer (world_with objects going (units_of rows))) pointer size objects going (units_of rows') text stands.format output output' result
  pub devices : FailsOn output.unit rows rows' (writing result)

-- the items of a call, by what their put does
abbrev pub Numbered : Or Reply → List Object → Units → FormattedOutput → ℤ → Type 0
Numbered meaning objects units output number = meaning ≡ Ok (numbered number output.on_error output.on_end (world_with objects None units))

abbrev pub ItemsMean : Or Reply → List Object → Units → List ℕ → FormattedOutput → FormattedOutput → Result (Unit {0}) Stop → Type 0
ItemsMean meaning objects units text output output' (Ok done) = Standing meaning objects units text output'
ItemsMean meaning objects units text output output' (Err (stop.Number number)) = Numbered meaning objects units output number
ItemsMean meaning objects units text output output' (Err (stop.Refused NotConnected)) = Numbered meaning objects units output (pos 6)
ItemsMean meaning objects units text output output' (Err (stop.Refused NotOffered)) = Numbered meaning objects units output (pos 7)
ItemsMean meaning objects units text output output' (Err (stop.Refused Taken)) = Numbered meaning objects units output (pos 8)
ItemsMean meaning objects units text output output' (Err (stop.Refused PastEnd)) = Numbered meaning objects units output (pos 9)
ItemsMean meaning objects units text output output' (Err (stop.Refused Failed)) = Unit {0}
ItemsMean meaning objects units text output output' (Err (stop.Fault fault)) = meaning ≡ failing fault

-- so many items that stand one behind the other are put, each before the next
pub record PutsItems (text : List ℕ) (output output' : FormattedOutput) (objects : List Object) (count size : ℕ) (first : CValue) (rows rows' : List Row) (result : Result (Unit {0}) Stop) : Type 0 where
  pub same : SameOutput output output'
  pub inside : StandsIn output'.walk text
  pub tells : Tells rows → Tells rows'
  pub means : Tells rows → (transfer : Transfer) → (stands : StandsFor text output transfer) → (going : Option Transfer) →
      ItemsMean (each_item size (formatted_put stands.format size) count first transfer (world_with objects going (units_of rows))) objects (units_of rows') text output output' result
  pub devices : FailsOn output.unit rows rows' (writing result)

-- what a call says of its items: their number, and the bytes of one
pub record Given : Type 0 where
  pub count : ℕ
  pub size : ℕ

abbrev pub list_shown : ItemList → Given
list_shown list = record { count = list.count; size = list.size }

abbrev pub items_given : List Object → CValue → CValue → Or Given
items_given objects count_pointer size_value =
    after (number_through objects count_pointer) λ count_number.
    after (count_from count_number) λ count.
    after (length_from size_value) λ size.
    Ok (record { count = count; size = size })
