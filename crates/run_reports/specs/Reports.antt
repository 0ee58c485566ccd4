-- What is said on Fault of a run of C files that has ended, and its exit status (CSTR 149, appendix on the run time library; ANSI X3.9-1978, 11.12,
-- 12.7).
use Rattle.std.specs.Prelude.{◌≡◌, ℕ, List, Option, Some, None, codes, slice_get, option_map}
use Rattle.c_tree.specs.run_state.Endings.{Ending, Plain, Stop, Io, Range}
use Rattle.c_tree.specs.FaultNames.{fault_name}
use Rattle.c_tree.specs.Objects.{Object}
use Rattle.c_tree.specs.Linking.{Function}
use Rattle.f2c_outside.specs.Shelf.{ShelfState}
use Rattle.shelf_texts.specs.Messages.{Said}
use Rattle.run_library.specs.declared.library.RunBreak.{RunBreak}
use Rattle.run_library.specs.declared.library.RunBreak.TheVariants as reason
use Rattle.run_messages.specs.RunLines.{fault_line, out_of_steps_line, device_line, io_line, range_line, stop_line, uncounted_line}
use Rattle.unit_library.specs.Endings.{ending_of}
use Rattle.loaded_runs.specs.declared.ends.RunEnd.{RunEnd}
use Rattle.loaded_runs.specs.declared.ends.RunEnd.TheVariants.{Running, Ended, Broken, Unbegun, Failed, Uncounted}

-- ## Endings

-- nothing is said of the end of the main program, nor of STOP without a text
abbrev pub SaysEnding : Ending → ShelfState → ShelfState → Type 0
SaysEnding Plain b a = a ≡ b
SaysEnding (Stop text) b a = Said (stop_line text) b a
SaysEnding (Io number) b a = Said (io_line number) b a
SaysEnding (Range report) b a = Said (range_line report) b a

abbrev pub ending_status : Ending → ℕ
ending_status Plain = 0
ending_status (Stop text) = 0
ending_status (Io number) = 10
ending_status (Range report) = 12

-- ## Runs

-- the name of a function, if it has one
abbrev pub name_shown : Option (List ℕ) → List ℕ
name_shown (Some name) = name
name_shown None = codes "?"

abbrev pub named_in : List Function → ℕ → List ℕ
named_in functions number = name_shown (option_map (λ (function : Function). function.name) (slice_get functions number))

-- why a run cannot go on; no run of well-formed files that are linked comes to a form without meaning
abbrev pub break_name : RunBreak → List ℕ
break_name (reason.Fault fault) = fault_name fault
break_name reason.Meaningless = codes "NoMeaning"

-- what is said of a run of these functions that left these objects
abbrev pub SaysRun : List Function → List Object → RunEnd → ShelfState → ShelfState → Type 0
SaysRun functions objects Running b a = Said out_of_steps_line b a
SaysRun functions objects (Ended how) b a = SaysEnding (ending_of objects how) b a
SaysRun functions objects (Broken why number) b a = Said (fault_line (break_name why) (named_in functions number)) b a
SaysRun functions objects (Unbegun fault) b a = Said (fault_line (fault_name fault) (named_in functions 0)) b a
SaysRun functions objects (Failed unit) b a = Said (device_line unit) b a
SaysRun functions objects Uncounted b a = Said uncounted_line b a

abbrev pub run_status : List Object → RunEnd → ℕ
run_status objects Running = 8
run_status objects (Ended how) = ending_status (ending_of objects how)
run_status objects (Broken why number) = 7
run_status objects (Unbegun fault) = 7
run_status objects (Failed unit) = 9
run_status objects Uncounted = 15
