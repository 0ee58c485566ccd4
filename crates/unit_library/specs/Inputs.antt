-- What a list-directed input on a unit replies, and the transfer in progress behind its calls (ANSI X3.9-1978, 12.8 and 13.6.1).
use Rattle.std.specs.Prelude.{pos, Option, Some, None, Result, Ok, Err}
use Rattle.run_library.specs.declared.library.LibraryReply.TheVariants as reply
use Rattle.run_library.specs.declared.library.CallBreak.TheVariants as broken
use Rattle.unit_answers.specs.declared.ends.CallEnd.{CallEnd}
use Rattle.unit_answers.specs.declared.ends.CallEnd.TheVariants.{Fault, Ended, Device}
use Rattle.listed_output.specs.declared.calls.Passage.{Passage}
use Rattle.listed_output.specs.declared.calls.Passage.TheVariants.{GoesOn, Over}
use Rattle.listed_input.specs.declared.ends.InputEnd.{InputEnd}
use Rattle.listed_input.specs.declared.ends.InputEnd.TheVariants.{Call, Uncounted}
use Rattle.listed_input.specs.declared.calls.ListedInput.{ListedInput}
use Rattle.listed_input.specs.declared.calls.Start.{Start}
use Rattle.listed_input.specs.declared.calls.Start.TheVariants.{Begins, Answers}
use Rattle.unit_library.specs.declared.transfers.TransferInProgress.{TransferInProgress}
use Rattle.unit_library.specs.declared.transfers.TransferInProgress.TheVariants as going
use Rattle.unit_library.specs.Replies.{CallResult, cut_by}

abbrev pub behind_start : Result Start CallEnd → Option TransferInProgress
behind_start (Ok (Begins input)) = Some (going.ListedInput input)
behind_start (Ok (Answers number)) = None
behind_start (Err reason) = None

abbrev pub started_by : Result Start CallEnd → CallResult
started_by (Ok (Begins input)) = Ok (reply.Gives (pos 0))
started_by (Ok (Answers number)) = Ok (reply.Gives number)
started_by (Err end) = cut_by end

abbrev pub behind_items : Result Passage InputEnd → ListedInput → ListedInput → Option TransferInProgress
behind_items (Ok GoesOn) before after = Some (going.ListedInput after)
behind_items (Ok (Over number)) before after = None
behind_items (Err (Call (Fault fault))) before after = Some (going.ListedInput before)
behind_items (Err (Call (Ended number))) before after = None
behind_items (Err (Call (Device unit))) before after = None
behind_items (Err Uncounted) before after = None

abbrev pub passed_by : Result Passage InputEnd → CallResult
passed_by (Ok GoesOn) = Ok (reply.Gives (pos 0))
passed_by (Ok (Over number)) = Ok (reply.Gives number)
passed_by (Err (Call end)) = cut_by end
passed_by (Err Uncounted) = Err broken.Uncounted
