-- What an ending of a run means, by the objects as they stand at its end (ANSI X3.9-1978, 11.12 and 12.7).
use Rattle.std.specs.Prelude.{ℕ, List, [], ◌∷◌, Ok, Err}
use Rattle.c_tree.specs.run_state.Endings.{Ending, Plain, Stop, Io, Range, Report}
use Rattle.c_tree.specs.Faults.{Or}
use Rattle.c_tree.specs.Objects.{Object}
use Rattle.library_calls.specs.Arguments.{ending_text, report_of}
use Rattle.unit_library.specs.declared.endings.RunEnding.{RunEnding}
use Rattle.unit_library.specs.declared.endings.RunEnding.TheVariants as ended

abbrev pub text_ending : Or (List ℕ) → Ending
text_ending (Ok []) = Plain
text_ending (Ok (first ∷ rest)) = Stop (first ∷ rest)
text_ending (Err reason) = Plain

abbrev pub range_ending : Or Report → Ending
range_ending (Ok report) = Range report
range_ending (Err reason) = Plain

abbrev pub ending_of : List Object → RunEnding → Ending
ending_of objects ended.Plain = Plain
ending_of objects (ended.Stop pointer size) = text_ending (ending_text objects pointer size)
ending_of objects (ended.Io number) = Io number
ending_of objects (ended.Range variable number unit card) = range_ending (report_of objects variable number unit card)
