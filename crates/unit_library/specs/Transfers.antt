-- The transfer in progress, and the units and the transfer for which a library stands (ANSI X3.9-1978, 12.8).
use Rattle.std.specs.Prelude.{◌≡◌, List, Option, Some, None, Result, Ok, Err}
use Rattle.c_tree.specs.run_state.Units.{Units}
use Rattle.c_tree.specs.World.{Transfer}
use Rattle.f2c_outside.specs.Table.{Row}
use Rattle.f2c_outside.specs.Meaning.{Tells, units_of}
use Rattle.unit_answers.specs.declared.ends.CallEnd.{CallEnd}
use Rattle.unit_answers.specs.declared.ends.CallEnd.TheVariants.{Fault, Ended, Device}
use Rattle.listed_output.specs.declared.calls.Start.{Start}
use Rattle.listed_output.specs.declared.calls.Start.TheVariants.{Begins, Answers}
use Rattle.listed_output.specs.declared.calls.Passage.{Passage}
use Rattle.listed_output.specs.declared.calls.Passage.TheVariants.{GoesOn, Over}
use Rattle.listed_output.specs.Transferring as on_unit
use Rattle.listed_input.specs.Transferring as from_unit
use Rattle.internal_output.specs.Transferring as in_file
use Rattle.internal_input.specs.Transferring as from_file
use Rattle.formatted_output.specs.Transferring as under_format
use Rattle.formatted_input.specs.Transferring as read_under_format
use Rattle.internal_formatted.specs.Transferring as in_file_under_format
use Rattle.internal_formatted_input.specs.Transferring as from_file_under_format
use Rattle.unit_library.specs.declared.functions.TransferType.{TransferType}
use Rattle.unit_library.specs.declared.functions.TransferType.TheVariants as moved
use Rattle.unit_library.specs.declared.transfers.TransferInProgress.{TransferInProgress}
use Rattle.unit_library.specs.declared.transfers.TransferInProgress.TheVariants as going

abbrev pub type_of : TransferInProgress → TransferType
type_of (going.ListedOutput output) = moved.ListedOutput
type_of (going.ListedInput input) = moved.ListedInput
type_of (going.InternalOutput output) = moved.InternalListedOutput
type_of (going.InternalInput input) = moved.InternalListedInput
type_of (going.FormattedOutput held) = moved.FormattedOutput
type_of (going.FormattedInput held) = moved.FormattedInput
type_of (going.InternalFormatted held) = moved.InternalFormattedOutput
type_of (going.InternalFormattedInput held) = moved.InternalFormattedInput

-- what is held of a transfer stands for one in progress, or none is in progress
abbrev pub InProgress : Option TransferInProgress → Option Transfer → Type 0
InProgress None transfer = transfer ≡ None
InProgress (Some (going.ListedOutput output)) None = ⊥
InProgress (Some (going.ListedOutput output)) (Some transfer) = on_unit.StandsFor output transfer
InProgress (Some (going.ListedInput input)) None = ⊥
InProgress (Some (going.ListedInput input)) (Some transfer) = from_unit.StandsFor input transfer
InProgress (Some (going.InternalOutput output)) None = ⊥
InProgress (Some (going.InternalOutput output)) (Some transfer) = in_file.StandsFor output transfer
InProgress (Some (going.InternalInput input)) None = ⊥
InProgress (Some (going.InternalInput input)) (Some transfer) = from_file.StandsFor input transfer
InProgress (Some (going.FormattedOutput held)) None = ⊥
InProgress (Some (going.FormattedOutput held)) (Some transfer) = under_format.StandsFor held.format held.output transfer
InProgress (Some (going.FormattedInput held)) None = ⊥
InProgress (Some (going.FormattedInput held)) (Some transfer) = read_under_format.StandsFor held.format held.input transfer
InProgress (Some (going.InternalFormatted held)) None = ⊥
InProgress (Some (going.InternalFormatted held)) (Some transfer) = in_file_under_format.StandsFor held.format held.output transfer
InProgress (Some (going.InternalFormattedInput held)) None = ⊥
InProgress (Some (going.InternalFormattedInput held)) (Some transfer) = from_file_under_format.StandsFor held.format held.input transfer

-- rows whose devices all tell their records, and a transfer, stand for these units and this transfer
pub record Standing (rows : List Row) (held : Option TransferInProgress) (units : Units) (transfer : Option Transfer) : Type 0 where
  pub tells : Tells rows
  pub means : units ≡ units_of rows
  pub in_progress : InProgress held transfer

abbrev pub behind_start : Result Start CallEnd → Option TransferInProgress
behind_start (Ok (Begins output)) = Some (going.ListedOutput output)
behind_start (Ok (Answers number)) = None
behind_start (Err reason) = None

abbrev pub behind_items : Result Passage CallEnd → TransferInProgress → TransferInProgress → Option TransferInProgress
behind_items (Ok GoesOn) before after = Some after
behind_items (Ok (Over number)) before after = None
behind_items (Err (Fault fault)) before after = Some before
behind_items (Err (Ended number)) before after = None
behind_items (Err (Device unit)) before after = None
