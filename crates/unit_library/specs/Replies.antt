-- What a call replies, by what its function answered (CSTR 149, appendix on the run time library).
use Rattle.std.specs.Prelude.{ℤ, pos, Result, Ok, Err}
use Rattle.c_tree.specs.declared.outcome.CFault.{CFault}
use Rattle.run_library.specs.declared.library.RunBreak.TheVariants as reason
use Rattle.run_library.specs.declared.library.LibraryReply.{LibraryReply}
use Rattle.run_library.specs.declared.library.LibraryReply.TheVariants as reply
use Rattle.run_library.specs.declared.library.CallBreak.{CallBreak}
use Rattle.run_library.specs.declared.library.CallBreak.TheVariants as broken
use Rattle.unit_answers.specs.declared.ends.CallEnd.{CallEnd}
use Rattle.unit_answers.specs.declared.ends.CallEnd.TheVariants.{Fault, Ended, Device}
use Rattle.listed_output.specs.declared.calls.Start.{Start}
use Rattle.listed_output.specs.declared.calls.Start.TheVariants.{Begins, Answers}
use Rattle.listed_output.specs.declared.calls.Passage.{Passage}
use Rattle.listed_output.specs.declared.calls.Passage.TheVariants.{GoesOn, Over}
use Rattle.unit_library.specs.declared.endings.RunEnding.{RunEnding}
use Rattle.unit_library.specs.declared.endings.RunEnding.TheVariants as ending

abbrev pub CallResult : Type 0
CallResult = Result (LibraryReply RunEnding) CallBreak

abbrev pub broken_by : CFault → CallResult
broken_by fault = Err (broken.Break (reason.Fault fault))

abbrev pub given_by : Result ℤ CFault → CallResult
given_by (Ok number) = Ok (reply.Gives number)
given_by (Err fault) = broken_by fault

abbrev pub done_by : Result (Unit {0}) CFault → CallResult
done_by (Ok nothing) = Ok reply.Void
done_by (Err fault) = broken_by fault

-- a call that gave its caller no number
abbrev pub cut_by : CallEnd → CallResult
cut_by (Fault fault) = broken_by fault
cut_by (Ended number) = Ok (reply.Stops (ending.Io number))
cut_by (Device unit) = Err (broken.Device unit)

abbrev pub ended_by : Result ℤ CallEnd → CallResult
ended_by (Ok number) = Ok (reply.Gives number)
ended_by (Err end) = cut_by end

abbrev pub started_by : Result Start CallEnd → CallResult
started_by (Ok (Begins output)) = Ok (reply.Gives (pos 0))
started_by (Ok (Answers number)) = Ok (reply.Gives number)
started_by (Err end) = cut_by end

abbrev pub passed_by : Result Passage CallEnd → CallResult
passed_by (Ok GoesOn) = Ok (reply.Gives (pos 0))
passed_by (Ok (Over number)) = Ok (reply.Gives number)
passed_by (Err end) = cut_by end
