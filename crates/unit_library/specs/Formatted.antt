-- What a formatted transfer replies, and the transfer in progress behind its items (ANSI X3.9-1978, 12.8 and 13).
use Rattle.std.specs.Prelude.{pos, List, Option, Some, None, Result, Ok, Err}
use Rattle.c_tree.specs.declared.outcome.CValue.{CValue}
use Rattle.c_tree.specs.declared.outcome.CFault.TheVariants.{Library}
use Rattle.c_tree.specs.Faults.{Or, after, failing}
use Rattle.c_tree.specs.Objects.{Object}
use Rattle.run_library.specs.declared.library.LibraryReply.TheVariants as reply
use Rattle.unit_answers.specs.declared.ends.CallEnd.{CallEnd}
use Rattle.unit_answers.specs.declared.ends.CallEnd.TheVariants.{Fault, Ended, Device}
use Rattle.listed_output.specs.Items.{items_given}
use Rattle.formatted_output.specs.declared.calls.Passage.{Passage}
use Rattle.formatted_output.specs.declared.calls.Passage.TheVariants.{GoesOn, Over}
use Rattle.unit_library.specs.declared.transfers.TransferInProgress.{TransferInProgress}
use Rattle.unit_library.specs.declared.transfers.TransferInProgress.TheVariants as going
use Rattle.unit_library.specs.Replies.{CallResult, cut_by}

abbrev pub behind_items : Result Passage CallEnd → TransferInProgress → TransferInProgress → Option TransferInProgress
behind_items (Ok GoesOn) before after = Some after
behind_items (Ok (Over number)) before after = None
behind_items (Err (Fault fault)) before after = Some before
behind_items (Err (Ended number)) before after = None
behind_items (Err (Device unit)) before after = None

-- a transfer under a format is in progress
abbrev pub UnderFormat : Option TransferInProgress → Type 0
UnderFormat None = ⊥
UnderFormat (Some (going.ListedOutput output)) = ⊥
UnderFormat (Some (going.ListedInput input)) = ⊥
UnderFormat (Some (going.InternalOutput output)) = ⊥
UnderFormat (Some (going.InternalInput input)) = ⊥
UnderFormat (Some (going.FormattedOutput held)) = Unit {0}
UnderFormat (Some (going.FormattedInput held)) = Unit {0}
UnderFormat (Some (going.InternalFormatted held)) = Unit {0}
UnderFormat (Some (going.InternalFormattedInput held)) = Unit {0}

abbrev pub passed_by : Result Passage CallEnd → CallResult
passed_by (Ok GoesOn) = Ok (reply.Gives (pos 0))
passed_by (Ok (Over number)) = Ok (reply.Gives number)
passed_by (Err end) = cut_by end

-- the first fault of list-directed items, in the order in which the arguments are read
abbrev pub listed_fault : List Object → CValue → CValue → CValue → Or (Unit {0})
listed_fault objects kind_pointer count_pointer size_value =
    after (items_given objects kind_pointer count_pointer size_value) λ given. failing Library
