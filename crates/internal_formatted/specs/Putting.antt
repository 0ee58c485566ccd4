-- An item of a formatted output as the meaning of C texts has it (ANSI X3.9-1978, 12.8.2, 12.9.5.2 and 13).
use Rattle.std.specs.Prelude.{◌≡◌, ℕ, ℤ, pos, negsuc, List, Option, None, Result, Ok, Err}
use Rattle.c_tree.specs.run_state.Units.{Units}
use Rattle.c_tree.specs.declared.outcome.CValue.{CValue}
use Rattle.c_tree.specs.Faults.{Or, failing}
use Rattle.c_tree.specs.Objects.{Object}
use Rattle.c_tree.specs.World.{Transfer, Reply}
use Rattle.c_tree.specs.Transfers.{Passage, GoesOn, Answers, numbered}
use Rattle.c_tree.specs.TransferOutput.{formatted_put}
use Rattle.c_tree.specs.TransferCalls.{each_item}
use Rattle.edit_rules.specs.edit_meaning.Formats.{Format}
use Rattle.edit_rules.specs.Walks.{StandsIn}
use Rattle.item_deeds.specs.Forms.{SameForms}
use Rattle.unit_answers.specs.Answers.{world_with}
use Rattle.listed_output.specs.Items.{StandsThere}
use Rattle.internal_output.specs.declared.files.RecordRefusal.TheVariants.{UsedUp, TooLong, Faulty}
use Rattle.internal_formatted.specs.declared.calls.InternalFormatted.{InternalFormatted}
use Rattle.internal_formatted.specs.declared.acts.Stop.{Stop}
use Rattle.internal_formatted.specs.declared.acts.Stop.TheVariants as stop
use Rattle.internal_formatted.specs.Transferring.{Going, StandsIn as Standing}

-- of an output only its walk, its sheet and its place in the file change
pub record SameOutput (output output' : InternalFormatted) : Type 0 where
  pub on_error : output'.on_error ≡ output.on_error
  pub on_end : output'.on_end ≡ output.on_end

-- the transfer goes on, for which the output stands
pub record PutsOn (meaning : Or Passage) (pointer : CValue) (size : ℕ) (objects : List Object) (going : Option Transfer) (units : Units) (text : List ℕ) (format : Format) (output : InternalFormatted) : Type 0 where
  pub transfer : Transfer
  pub stands : Going text output transfer
  pub same : stands.format ≡ format
  pub there : StandsThere size objects pointer
  pub means : meaning ≡ Ok (GoesOn transfer (world_with objects going units))

-- the call answers a number
abbrev pub Answered : Or Passage → List Object → Option Transfer → Units → InternalFormatted → ℤ → Type 0
Answered meaning objects going units output number = meaning ≡ Ok (Answers (numbered number output.on_error output.on_end (world_with objects going units)))

-- what an item means, by what its put does
abbrev pub ItemMeans : Or Passage → CValue → ℕ → List Object → Option Transfer → Units → List ℕ → Format → InternalFormatted → InternalFormatted → Result (Unit {0}) Stop → Type 0
ItemMeans meaning pointer size objects going units text format output output' (Ok done) = PutsOn meaning pointer size objects going units text format output'
ItemMeans meaning pointer size objects going units text format output output' (Err (stop.Number number)) = Answered meaning objects going units output number
ItemMeans meaning pointer size objects going units text format output output' (Err (stop.Refused UsedUp)) = Answered meaning objects going units output (negsuc 0)
ItemMeans meaning pointer size objects going units text format output output' (Err (stop.Refused TooLong)) = Answered meaning objects going units output (pos 5)
ItemMeans meaning pointer size objects going units text format output output' (Err (stop.Refused (Faulty fault))) = meaning ≡ failing fault
ItemMeans meaning pointer size objects going units text format output output' (Err (stop.Fault fault)) = meaning ≡ failing fault

-- one item is put
pub record PutsItem (text : List ℕ) (output output' : InternalFormatted) (pointer : CValue) (size : ℕ) (old new : List Object) (result : Result (Unit {0}) Stop) : Type 0 where
  pub same : SameOutput output output'
  pub inside : StandsIn output'.walk text
  pub forms : SameForms old new
  pub means : (units : Units) → (transfer : Transfer) → (stands : Going text output transfer) → (going : Option Transfer) →
      ItemMeans (formatted_put stands.format size pointer transfer (world_with old going units)) pointer size new going units text stands.format output output' result

-- the items of a call, by what their put does
abbrev pub Numbered : Or Reply → List Object → Units → InternalFormatted → ℤ → Type 0
Numbered meaning objects units output number = meaning ≡ Ok (numbered number output.on_error output.on_end (world_with objects None units))

abbrev pub ItemsMean : Or Reply → List Object → Units → List ℕ → InternalFormatted → InternalFormatted → Result (Unit {0}) Stop → Type 0
ItemsMean meaning objects units text output output' (Ok done) = Standing meaning objects units text output'
ItemsMean meaning objects units text output output' (Err (stop.Number number)) = Numbered meaning objects units output number
ItemsMean meaning objects units text output output' (Err (stop.Refused UsedUp)) = Numbered meaning objects units output (negsuc 0)
ItemsMean meaning objects units text output output' (Err (stop.Refused TooLong)) = Numbered meaning objects units output (pos 5)
ItemsMean meaning objects units text output output' (Err (stop.Refused (Faulty fault))) = meaning ≡ failing fault
ItemsMean meaning objects units text output output' (Err (stop.Fault fault)) = meaning ≡ failing fault

-- so many items that stand one behind the other are put, each before the next
pub record PutsItems (text : List ℕ) (output output' : InternalFormatted) (count size : ℕ) (first : CValue) (old new : List Object) (result : Result (Unit {0}) Stop) : Type 0 where
  pub same : SameOutput output output'
  pub inside : StandsIn output'.walk text
  pub forms : SameForms old new
  pub means : (units : Units) → (transfer : Transfer) → (stands : Going text output transfer) → (going : Option Transfer) →
      ItemsMean (each_item size (formatted_put stands.format size) count first transfer (world_with old going units)) new units text output output' result
